use Rattle.std.proofs.Common.{ℕ, ◌∙◌}
use Rattle.std.specs.Prelude.{IfNone, IfSome}
use Rattle.aig_sim.specs.Reached.{IsFirstReached, ReachesNone}
use Rattle.aig_sim.specs.Verdict.{StartsWrong}
use Rattle.aig_sim.proofs.ReachedLemmas.{reaches_none}
use Rattle.aig_sim.proofs.VerdictLemmas.{both}
use Rattle.aig_sim.proofs.witness.reached.first_reached.Goals as goal

pub returns-then-not-starts_right-clause-none : goal.returns-then-not-starts_right-clause-none
returns-then-not-starts_right-clause-none c =
    let e = c.in_ok-machine.ensures in
    let (p, wrong) = both (λ r s. (p : ℕ) × StartsWrong r s p) e.circuit (e.states ∙ c.in_ok-copied.ensures)
    (c.starts_right.ensures.no c.if-not-starts_right.true) in
    reaches_none c.args.circuit.now c.args.start.now c.args.rows.now.rows c.args.asked p wrong

pub run_to_bad-requires-clause-start : goal.run_to_bad-requires-clause-start
run_to_bad-requires-clause-start c = c.starts_right.ensures.yes c.if-not-starts_right.false

pub returns-clause-none : goal.returns-clause-none
returns-clause-none c =
    let e = c.in_ok-machine.ensures in
    both (λ r s. IfNone c.run_to_bad.result (ReachesNone r s c.args.rows.now.rows c.args.asked)) e.circuit
    (e.states ∙ c.in_ok-copied.ensures) c.run_to_bad.ensures.none

pub returns-clause-some : goal.returns-clause-some
returns-clause-some c =
    let e = c.in_ok-machine.ensures in
    both (λ r s. IfSome c.run_to_bad.result (λ at. IsFirstReached r s c.args.rows.now.rows c.args.asked at.frame at.property))
    e.circuit (e.states ∙ c.in_ok-copied.ensures) c.run_to_bad.ensures.some
