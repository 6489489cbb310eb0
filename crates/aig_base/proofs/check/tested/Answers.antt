use Rattle.std.proofs.Common.{sym, ◌∙◌, true≢false}
use Rattle.aig_base.proofs.checks.Faults.{first_range}
use Rattle.aig_base.proofs.check.tested.Goals as goal

pub returns-then-not-are_in_range-clause-fault : goal.returns-then-not-are_in_range-clause-fault
returns-then-not-are_in_range-clause-fault c = λ other.
    first_range c.args.raw.now (λ h. true≢false (sym (c.are_in_range.ensures.1 h) ∙ c.if-not-are_in_range.true))
