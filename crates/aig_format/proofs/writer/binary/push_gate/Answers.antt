use Rattle.std.proofs.Common.{ℕ, List, ap, ap₂, ◌-◌, ◌++◌, ◌∙◌}
use Rattle.aig_format.specs.Delta.{delta}
use Rattle.aig_format.proofs.writer.binary.push_gate.Goals as goal

pub returns-clause-pushed : goal.returns-clause-pushed
returns-clause-pushed c = λ is_pushed.
    c.push_firsts.ensures.pushed is_pushed
    ∙ ap₂ (λ (a b : List ℕ). c.args.block.now ++ (a ++ b))
    (c.groups.ensures.groups ∙ ap delta (ap₂ (λ a b. a - b) c.value-lhs.ensures c.value-rhs0.ensures))
    (c.groups-2.ensures.groups ∙ ap delta (ap₂ (λ a b. a - b) c.value-rhs0.ensures c.value-rhs1.ensures))
