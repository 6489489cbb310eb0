use Rattle.std.proofs.Common.{ℕ, List, Contains, subst}
use Rattle.aig_why.proofs.lines.names.name_causes.Goals as goal

pub name_inputs-requires-clause-there : goal.name_inputs-requires-clause-there
name_inputs-requires-clause-there g c = λ p has.
    c.requires.there.inputs p (subst (λ (ps : List ℕ). Contains ps p) c.inputs.ensures has)

pub name_latches-requires-clause-there : goal.name_latches-requires-clause-there
name_latches-requires-clause-there g c = λ p has.
    c.requires.there.latches p (subst (λ (ps : List ℕ). Contains ps p) c.latches.ensures has)
