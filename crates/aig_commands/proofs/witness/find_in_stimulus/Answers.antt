use Rattle.std.proofs.Common.{[], Err, length, refl, sym, ◌∙◌, ap, subst}
use Rattle.aig_bytes.proofs.Results.{known_err}
use Rattle.aig_sim.specs.Reached.{ReachesNone}
use Rattle.aig_sim.specs.declared.witness.reach_fault.ReachFault.{ReachFault}
use Rattle.aig_command.specs.declared.run_fault.RunFault.{RunFault}
use Rattle.aig_command.specs.declared.run_fault.RunFault.TheVariants as run_faults
use Rattle.aig_commands.specs.Witness.{WritesWitness}
use Rattle.aig_commands.proofs.WitnessTexts.{reach_refused, start_length}
use Rattle.aig_commands.proofs.witness.find_in_stimulus.Goals as goal

pub find-requires-clause-start : goal.find-requires-clause-start
find-requires-clause-start c =
    ap length (c.deref.ensures.value ∙ c.in_ok-start.ensures.start) ∙ start_length c.args.circuit.now

pub returns-in_err-check_property-clause-refused : goal.returns-in_err-check_property-clause-refused
returns-in_err-check_property-clause-refused c =
    let raw = c.args.circuit.now in
    let asked = c.args.asked in
    let stimulus = c.args.stimulus.now in
    let (property, lacks) = c.in_err-check_property.ensures.none in
    known_err c.from_residual.result (run_faults.Reach c.in_err-check_property.field-0.0)
    (λ (f : RunFault). WritesWitness asked stimulus raw (Err f) []) c.from_residual.ensures.1
    (subst (λ (f : ReachFault). WritesWitness asked stimulus raw (Err (run_faults.Reach f)) []) (sym property) (lacks, refl))

pub returns-in_err-rows-clause-refused : goal.returns-in_err-rows-clause-refused
returns-in_err-rows-clause-refused c =
    let raw = c.args.circuit.now in
    let asked = c.args.asked in
    let stimulus = c.args.stimulus.now in
    known_err c.from_residual-in_err-rows.result (run_faults.Stimulus c.in_err-rows.field-0.0)
    (λ (f : RunFault). WritesWitness asked stimulus raw (Err f) []) c.from_residual-in_err-rows.ensures.1
    (c.in_ok-check_property.ensures.property, c.in_err-rows.ensures.fault, refl)

pub returns-in_err-start-clause-refused : goal.returns-in_err-start-clause-refused
returns-in_err-start-clause-refused c =
    let raw = c.args.circuit.now in
    let asked = c.args.asked in
    let stimulus = c.args.stimulus.now in
    known_err c.from_residual-in_err-start.result (run_faults.Reach c.in_err-start.field-0.0)
    (λ (f : RunFault). WritesWitness asked stimulus raw (Err f) []) c.from_residual-in_err-start.ensures.1
    (subst (λ (f : ReachFault). WritesWitness asked stimulus raw (Err (run_faults.Reach f)) []) (sym c.in_err-start.ensures.memory) refl)

pub returns-in_err-reached-clause-refused : goal.returns-in_err-reached-clause-refused
returns-in_err-reached-clause-refused c =
    let raw = c.args.circuit.now in
    let asked = c.args.asked in
    let stimulus = c.args.stimulus.now in
    let fault = c.in_err-reached.field-0.0 in
    let rows = c.in_ok-rows.rows.rows in
    let e = c.in_err-reached.ensures in
    known_err c.from_residual-in_err-reached.result (run_faults.Reach fault)
    (λ (f : RunFault). WritesWitness asked stimulus raw (Err f) []) c.from_residual-in_err-reached.ensures.1
    (reach_refused asked stimulus raw rows fault c.in_ok-check_property.ensures.property c.in_ok-rows.ensures.rows
    (λ is. subst (λ start. ReachesNone raw start rows asked) (c.deref.ensures.value ∙ c.in_ok-start.ensures.start)
    (e.none (ap Err is)))
    (λ is. e.property (ap Err is)))
