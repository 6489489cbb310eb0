use Rattle.std.proofs.Common.{List, ℕ, Some, refl, sym, ap, subst}
use Rattle.aig_command.specs.Given.{by_resets, given_text, IsGiven, ReadRun}
use Rattle.aig_command.specs.declared.given.Given.{Given}
use Rattle.aig_command.specs.declared.given.Given.TheVariants as given
use Rattle.aig_command.proofs.GivenRuns.{by_resets_given, by_resets_refused}
use Rattle.aig_command.proofs.given.read_given.Goals as goal

pub returns-in-Nothing-clause-run : goal.returns-in-Nothing-clause-run
returns-in-Nothing-clause-run c =
    by_resets_given c.args.circuit.now (given_text c.args.given) given.Nothing (ap given_text c.in-Nothing.is) c.new-rows.result.rows
    (λ i. by_resets c.args.circuit.now (c.new-rows.ensures i).rows) c.run_by_resets.result c.run_by_resets.ensures.run

pub returns-in-Nothing-clause-fault : goal.returns-in-Nothing-clause-fault
returns-in-Nothing-clause-fault c =
    let raw = c.args.circuit.now in
    by_resets_refused raw (given_text c.args.given) given.Nothing (ap given_text c.in-Nothing.is) c.new-rows.result.rows
    (λ i. by_resets raw (c.new-rows.ensures i).rows) c.run_by_resets.result
    (by_resets raw c.new-rows.result.rows, λ i. by_resets raw (c.new-rows.ensures i).rows) c.run_by_resets.ensures.memory

pub returns-in_ok-rows-in-Stimulus-clause-run : goal.returns-in_ok-rows-in-Stimulus-clause-run
returns-in_ok-rows-in-Stimulus-clause-run c =
    by_resets_given c.args.circuit.now (given_text c.args.given) (given.Stimulus c.in-Stimulus.text.now)
    (ap given_text c.in-Stimulus.is) c.in_ok-rows-in-Stimulus.rows.rows
    (c.in_ok-rows-in-Stimulus.rows.rows, c.in_ok-rows-in-Stimulus.ensures.rows, refl) c.run_by_resets-in-Stimulus.result
    c.run_by_resets-in-Stimulus.ensures.run

pub returns-in_ok-rows-in-Stimulus-clause-fault : goal.returns-in_ok-rows-in-Stimulus-clause-fault
returns-in_ok-rows-in-Stimulus-clause-fault c =
    let raw = c.args.circuit.now in
    let rows = c.in_ok-rows-in-Stimulus.rows.rows in
    by_resets_refused raw (given_text c.args.given) (given.Stimulus c.in-Stimulus.text.now) (ap given_text c.in-Stimulus.is) rows
    (rows, c.in_ok-rows-in-Stimulus.ensures.rows, refl) c.run_by_resets-in-Stimulus.result
    (by_resets raw rows, (rows, c.in_ok-rows-in-Stimulus.ensures.rows, refl)) c.run_by_resets-in-Stimulus.ensures.memory

pub returns-in_ok-property-in-Witness-clause-run : goal.returns-in_ok-property-in-Witness-clause-run
returns-in_ok-property-in-Witness-clause-run c =
    let w = c.in_ok-property-in-Witness.field-0 in
    let h = c.in_ok-property-in-Witness.ensures in
    let run : ReadRun = record { property = Some w.property; start = w.start.items; rows = w.rows.rows } in
    subst (λ (g : Given (List ℕ)). IsGiven c.args.circuit.now g run) (sym (ap given_text c.in-Witness.is))
    (record { property = w.property; start = w.start.items; rows = w.rows.rows }, h.spelled, h.admitted, refl)
