use Rattle.std.proofs.Common.{List, Some, None, sym, ◌∙◌, subst, true≢false}
use Rattle.aig_parts.specs.declared.latch.Latch.{Latch}
use Rattle.aig_base.specs.state.LeastFaulty.{IsLeastAmong, latch_variable}
use Rattle.aig_base.specs.Sound.{IsReset}
use Rattle.aig_base.proofs.checks.Ascending.{all_grounded}
use Rattle.aig_base.proofs.checks.Faults.{circuit_from_tests, first_range, first_reset}
use Rattle.aig_base.proofs.circuits.InOrder.{defined_once, range_from_sections}
use Rattle.aig_base.proofs.check.ordered.test_ascending.Goals as goal

pub returns-then-not-sections_are_in_range-clause-fault : goal.returns-then-not-sections_are_in_range-clause-fault
returns-then-not-sections_are_in_range-clause-fault c =
    first_range c.args.raw.now (λ h. true≢false (sym (c.sections_are_in_range.ensures.1 (record {
      inputs = h.inputs;
      latches = h.latches;
      outputs = h.outputs;
      bad = h.bad;
      constraints = h.constraints;
      justice = h.justice;
      fairness = h.fairness;
    })) ∙ c.if-not-sections_are_in_range.true))

pub returns-in-Some-clause-fault : goal.returns-in-Some-clause-fault
returns-in-Some-clause-fault c =
    let raw = c.args.raw.now in
    let range = range_from_sections raw c.requires.order c.requires.smaller
    (c.sections_are_in_range.ensures.0 c.if-not-sections_are_in_range.false) in
    first_reset raw range (defined_once raw c.requires.order range) c.in-Some.variable
    (subst (λ (xs : List Latch). IsLeastAmong IsReset latch_variable xs
    (Some c.in-Some.variable)) c.as_slice.ensures c.in-Some.ensures)

pub returns-in-None-clause-circuit : goal.returns-in-None-clause-circuit
returns-in-None-clause-circuit c =
    let raw = c.args.raw.now in
    let range = range_from_sections raw c.requires.order c.requires.smaller
    (c.sections_are_in_range.ensures.0 c.if-not-sections_are_in_range.false) in
    let once = defined_once raw c.requires.order range in
    circuit_from_tests raw range once c.requires.formed
    (subst (λ (xs : List Latch). IsLeastAmong IsReset latch_variable xs None) c.as_slice.ensures c.in-None.ensures)
    (all_grounded raw once.defined (λ v. v) c.requires.smaller)
