use Rattle.std.proofs.Common.{◌+◌, [], List, Err, length, refl, sym, ◌∙◌, ap, subst, take}
use Rattle.std.specs.Fmt.{decimal}
use Rattle.aig_parts.specs.declared.ternary.Tern.{Tern}
use Rattle.aig_bytes.specs.Flow.{flow}
use Rattle.aig_cnf.specs.Formula.{Cnf}
use Rattle.aig_command.proofs.Files.{answered}
use Rattle.aig_command.proofs.Written.{got_none, output_ends}
use Rattle.aig_command.specs.Command.{CommandEnds}
use Rattle.aig_command.specs.declared.run_fault.RunFault.TheVariants as run_faults
use Rattle.aig_sat.specs.model.ModelText.{IsModelOf}
use Rattle.aig_sim.specs.WitnessText.{witness_text}
use Rattle.aig_sim.specs.declared.witness.reach_fault.ReachFault.{ReachFault}
use Rattle.aig_commands.specs.ModelWitness.{RefusesModel, WritesModel, WritesNamed, no_formula, no_model, names}
use Rattle.aig_commands.proofs.ModelWitnesses.{enough_at_depth, enough_values, few_frames, frame_there, has_property, named_refused}
use Rattle.aig_commands.proofs.ModelWitnesses.{resets_long, rows_spread, start_spread, writes_named}
use Rattle.aig_commands.proofs.model_witness.read_model_and_write.Goals as goal

pub returns : goal.returns
returns g c =
    let raw = c.args.circuit.now in
    let query = c.args.query in
    let read' = c.in_ok-read.read in
    let h = c.in_ok-read.ensures.formula in
    let values' = c.as_slice.result.now in
    let run' = c.in_ok-run.run' in
    let e = c.in_ok-run.ensures in
    let is : IsModelOf read'.cnf.variables c.args.model.now values' =
    subst (λ (values : List Tern). IsModelOf read'.cnf.variables c.args.model.now values) (sym c.as_slice.ensures)
    (subst (λ n. IsModelOf n c.args.model.now c.in_ok-values.values) (c.variables.ensures.count ∙ ap (λ (f : Cnf). f.variables) c.formula.ensures) c.in_ok-values.ensures.values) in
    let enough = enough_values raw query read' h c.args.model.now values' is in
    let start_is = start_spread raw c.of.new.circuit query read' h c.in_ok-read.ensures.circuit values' c.deref.result.now
    run'.start.items (c.deref.ensures.value ∙ c.in_ok-resets.ensures.start) e.start in
    let rows_are = rows_spread raw c.of.new.circuit query read' h c.in_ok-read.ensures.circuit values' run'.rows.rows e.rows in
    let text = witness_text (decimal run'.reached.property) run'.start.items (take (run'.reached.frame + 1) run'.rows.rows) in
    output_ends g.W.Write.written g.W.Write.failures c.args.out.now c.write.new.out (WritesModel query c.args.model.now raw)
    text c.write.result c.write.ensures.written c.write.ensures.output
    (names read' values' _ text c.in_ok-read.ensures.accepted h is
    (writes_named raw c.facts.ensures query read' h values' enough run'.start.items run'.rows.rows run'.reached.frame
    run'.reached.property start_is rows_are e.asked e.reached c.write.ensures.position))

pub write-requires : goal.write-requires
write-requires g c =
    let raw = c.args.circuit.now in
    let query = c.args.query in
    let read' = c.in_ok-read.read in
    let h = c.in_ok-read.ensures.formula in
    let values' = c.as_slice.result.now in
    let run' = c.in_ok-run.run' in
    let e = c.in_ok-run.ensures in
    let is : IsModelOf read'.cnf.variables c.args.model.now values' =
    subst (λ (values : List Tern). IsModelOf read'.cnf.variables c.args.model.now values) (sym c.as_slice.ensures)
    (subst (λ n. IsModelOf n c.args.model.now c.in_ok-values.values) (c.variables.ensures.count ∙ ap (λ (f : Cnf). f.variables) c.formula.ensures) c.in_ok-values.ensures.values) in
    frame_there raw c.facts.ensures query read' h values' (enough_values raw query read' h c.args.model.now values' is)
    run'.rows.rows run'.reached.frame
    (rows_spread raw c.of.new.circuit query read' h c.in_ok-read.ensures.circuit values' run'.rows.rows e.rows) e.reached

pub found_run-requires-clause-values : goal.found_run-requires-clause-values
found_run-requires-clause-values g c =
    let query = c.args.query in
    let read' = c.in_ok-read.read in
    let h = c.in_ok-read.ensures.formula in
    let values' = c.as_slice.result.now in
    let is : IsModelOf read'.cnf.variables c.args.model.now values' =
    subst (λ (values : List Tern). IsModelOf read'.cnf.variables c.args.model.now values) (sym c.as_slice.ensures)
    (subst (λ n. IsModelOf n c.args.model.now c.in_ok-values.values) (c.variables.ensures.count ∙ ap (λ (f : Cnf). f.variables) c.formula.ensures) c.in_ok-values.ensures.values) in
    enough_at_depth c.args.circuit.now query read' h c.args.model.now values' is

pub found_run-requires-clause-property : goal.found_run-requires-clause-property
found_run-requires-clause-property g c =
    has_property c.args.circuit.now c.args.query c.in_ok-read.read c.in_ok-read.ensures.formula

pub found_run-requires-clause-frames : goal.found_run-requires-clause-frames
found_run-requires-clause-frames g c =
    few_frames c.args.circuit.now c.args.query c.in_ok-read.read c.in_ok-read.ensures.formula c.in_ok-read.ensures.accepted

pub found_run-requires-clause-resets : goal.found_run-requires-clause-resets
found_run-requires-clause-resets g c =
    ap length (c.deref.ensures.value ∙ c.in_ok-resets.ensures.start)
    ∙ resets_long c.args.circuit.now c.args.query c.of.new.circuit c.in_ok-read.ensures.circuit

pub returns-in_err-read : goal.returns-in_err-read
returns-in_err-read g c =
    answered c.from_residual.result (run_faults.Cnf c.in_err-read.field-0.0)
    (CommandEnds (flow g.W.Write.written g.W.Write.failures c.args.out.now c.args.out.now) run_faults.Output
    (WritesModel c.args.query c.args.model.now c.args.circuit.now))
    c.from_residual.ensures.1
    (CommandEnds.writes_all [] (no_formula c.in_err-read.field-0.0 c.in_err-read.ensures.refused)
    (got_none g.W.Write.written g.W.Write.failures c.args.out.now))

pub returns-in_err-values : goal.returns-in_err-values
returns-in_err-values g c =
    answered c.from_residual-in_err-values.result (run_faults.Model c.in_err-values.field-0.0)
    (CommandEnds (flow g.W.Write.written g.W.Write.failures c.args.out.now c.args.out.now) run_faults.Output
    (WritesModel c.args.query c.args.model.now c.args.circuit.now))
    c.from_residual-in_err-values.ensures.1
    (CommandEnds.writes_all []
    (no_model c.in_ok-read.read c.in_err-values.field-0.0 c.in_ok-read.ensures.accepted c.in_ok-read.ensures.formula
    (subst (λ n. RefusesModel n c.args.model.now c.in_err-values.field-0.0) (c.variables.ensures.count ∙ ap (λ (f : Cnf). f.variables) c.formula.ensures) c.in_err-values.ensures.refused))
    (got_none g.W.Write.written g.W.Write.failures c.args.out.now))

pub returns-in_err-resets : goal.returns-in_err-resets
returns-in_err-resets g c =
    let read' = c.in_ok-read.read in
    let values' = c.in_ok-values.values in
    answered c.from_residual-in_err-resets.result (run_faults.Reach c.in_err-resets.field-0.0)
    (CommandEnds (flow g.W.Write.written g.W.Write.failures c.args.out.now c.args.out.now) run_faults.Output
    (WritesModel c.args.query c.args.model.now c.args.circuit.now))
    c.from_residual-in_err-resets.ensures.1
    (CommandEnds.writes_all []
    (names read' values' _ [] c.in_ok-read.ensures.accepted c.in_ok-read.ensures.formula
    (subst (λ n. IsModelOf n c.args.model.now values') (c.variables.ensures.count ∙ ap (λ (f : Cnf). f.variables) c.formula.ensures) c.in_ok-values.ensures.values)
    (subst (λ (f : ReachFault). WritesNamed c.args.query values' c.args.circuit.now read' (Err (run_faults.Reach f)) [])
    (sym c.in_err-resets.ensures.memory) refl))
    (got_none g.W.Write.written g.W.Write.failures c.args.out.now))

pub returns-in_err-run : goal.returns-in_err-run
returns-in_err-run g c =
    let raw = c.args.circuit.now in
    let query = c.args.query in
    let read' = c.in_ok-read.read in
    let h = c.in_ok-read.ensures.formula in
    let values' = c.as_slice.result.now in
    let fault = c.in_err-run.field-0.0 in
    let is : IsModelOf read'.cnf.variables c.args.model.now values' =
    subst (λ (values : List Tern). IsModelOf read'.cnf.variables c.args.model.now values) (sym c.as_slice.ensures)
    (subst (λ n. IsModelOf n c.args.model.now c.in_ok-values.values) (c.variables.ensures.count ∙ ap (λ (f : Cnf). f.variables) c.formula.ensures) c.in_ok-values.ensures.values) in
    answered c.from_residual-in_err-run.result (run_faults.Reach fault)
    (CommandEnds (flow g.W.Write.written g.W.Write.failures c.args.out.now c.args.out.now) run_faults.Output
    (WritesModel query c.args.model.now raw))
    c.from_residual-in_err-run.ensures.1
    (CommandEnds.writes_all []
    (names read' values' _ [] c.in_ok-read.ensures.accepted h is
    (named_refused raw c.facts.ensures query read' h values' (enough_values raw query read' h c.args.model.now values' is) fault
    (λ e. c.in_err-run.ensures.none (ap Err e)) (λ e. c.in_err-run.ensures.there (ap Err e))))
    (got_none g.W.Write.written g.W.Write.failures c.args.out.now))
