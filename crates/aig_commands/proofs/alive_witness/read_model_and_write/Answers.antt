use Rattle.std.proofs.Common.{[], List, ap, sym, subst, ◌∙◌}
use Rattle.aig_parts.specs.declared.ternary.Tern.{Tern}
use Rattle.aig_bytes.specs.Flow.{flow}
use Rattle.aig_cnf.specs.Alive.{always_bad}
use Rattle.aig_cnf.specs.Query.{last}
use Rattle.aig_cnf.specs.Formula.{Cnf}
use Rattle.aig_command.proofs.Files.{answered}
use Rattle.aig_command.proofs.Written.{ends_map, got_none}
use Rattle.aig_command.specs.Command.{CommandEnds}
use Rattle.aig_command.specs.declared.run_fault.RunFault.TheVariants as run_faults
use Rattle.aig_sat.specs.model.ModelText.{IsModelOf}
use Rattle.aig_commands.specs.AliveWitness.{NamesKept, WritesAliveModel}
use Rattle.aig_commands.specs.ModelWitness.{RefusesModel}
use Rattle.aig_commands.proofs.ModelWitnesses.{enough_values}
use Rattle.aig_commands.proofs.alive_witness.read_model_and_write.Goals as goal

pub find_and_write-requires-clause-values : goal.find_and_write-requires-clause-values
find_and_write-requires-clause-values g c =
    let read' = c.in_ok-read.read in
    enough_values (always_bad c.args.circuit.now) (last c.args.frames 0) read' c.in_ok-read.ensures.formula c.args.model.now
    c.as_slice.result.now
    (subst (λ (values : List Tern). IsModelOf read'.cnf.variables c.args.model.now values) (sym c.as_slice.ensures)
    (subst (λ n. IsModelOf n c.args.model.now c.in_ok-values.values) (c.variables.ensures.count ∙ ap (λ (f : Cnf). f.variables) c.formula.ensures) c.in_ok-values.ensures.values))

pub returns : goal.returns
returns g c =
    let raw = c.args.circuit.now in
    let k = c.args.frames in
    let model' = c.args.model.now in
    let read' = c.in_ok-read.read in
    let values' = c.as_slice.result.now in
    let e = c.in_ok-read.ensures in
    let is : IsModelOf read'.cnf.variables model' values' =
    subst (λ (values : List Tern). IsModelOf read'.cnf.variables model' values) (sym c.as_slice.ensures)
    (subst (λ n. IsModelOf n model' c.in_ok-values.values) (c.variables.ensures.count ∙ ap (λ (f : Cnf). f.variables) c.formula.ensures) c.in_ok-values.ensures.values) in
    ends_map (flow g.W.Write.written g.W.Write.failures c.args.out.now c.find_and_write.new.out) run_faults.Output
    (NamesKept k values' raw read') (WritesAliveModel k model' raw)
    (λ answer text m. WritesAliveModel.names read' values' answer text e.accepted e.formula is m) c.find_and_write.result
    c.find_and_write.ensures

pub returns-in_err-read : goal.returns-in_err-read
returns-in_err-read g c =
    answered c.from_residual.result (run_faults.Cnf c.in_err-read.field-0.0)
    (CommandEnds (flow g.W.Write.written g.W.Write.failures c.args.out.now c.args.out.now) run_faults.Output
    (WritesAliveModel c.args.frames c.args.model.now c.args.circuit.now))
    c.from_residual.ensures.1
    (CommandEnds.writes_all [] (WritesAliveModel.no_formula c.in_err-read.field-0.0 c.in_err-read.ensures.refused)
    (got_none g.W.Write.written g.W.Write.failures c.args.out.now))

pub returns-in_err-values : goal.returns-in_err-values
returns-in_err-values g c =
    answered c.from_residual-in_err-values.result (run_faults.Model c.in_err-values.field-0.0)
    (CommandEnds (flow g.W.Write.written g.W.Write.failures c.args.out.now c.args.out.now) run_faults.Output
    (WritesAliveModel c.args.frames c.args.model.now c.args.circuit.now))
    c.from_residual-in_err-values.ensures.1
    (CommandEnds.writes_all []
    (WritesAliveModel.no_model c.in_ok-read.read c.in_err-values.field-0.0 c.in_ok-read.ensures.accepted c.in_ok-read.ensures.formula
    (subst (λ n. RefusesModel n c.args.model.now c.in_err-values.field-0.0) (c.variables.ensures.count ∙ ap (λ (f : Cnf). f.variables) c.formula.ensures) c.in_err-values.ensures.refused))
    (got_none g.W.Write.written g.W.Write.failures c.args.out.now))
