use Rattle.std.proofs.Common.{List, [], Err, refl, length, ap, subst, sym, ◌∙◌}
use Rattle.aig_parts.specs.declared.ternary.Tern.{Tern}
use Rattle.aig_bytes.proofs.Results.{known_err}
use Rattle.aig_command.specs.declared.run_fault.RunFault.TheVariants as run_faults
use Rattle.aig_refute.specs.PartialModels.{named_rows, named_start}
use Rattle.aig_refute.specs.Satisfiable.{KeepsConstraints}
use Rattle.aig_sim.specs.declared.witness.reach_fault.ReachFault.{ReachFault}
use Rattle.aig_sim.specs.declared.witness.reach_fault.ReachFault.TheVariants as reaches
use Rattle.aig_commands.specs.AliveWitness.{NamesKept}
use Rattle.aig_commands.specs.ModelWitness.{rows_named, start_named}
use Rattle.aig_commands.proofs.AliveRuns.{kept_alike, kept_refused}
use Rattle.aig_commands.proofs.NamedRuns.{named_start_length, reports_same}
use Rattle.aig_commands.proofs.WitnessTexts.{start_length}
use Rattle.aig_commands.proofs.alive_witness.kept_run.Goals as goal

pub refuse_broken-requires-clause-start : goal.refuse_broken-requires-clause-start
refuse_broken-requires-clause-start c =
    ap length c.in_ok-run.ensures.start ∙ named_start_length c.part-part.result.now c.args.frames c.args.values.now

pub spread_run-requires : goal.spread_run-requires
spread_run-requires c = ap length (c.deref.ensures.value ∙ c.in_ok-resets.ensures.start) ∙ start_length c.args.circuit.now

pub returns-clause-kept : goal.returns-clause-kept
returns-clause-kept c =
    let raw = c.args.circuit.now in
    let k = c.args.frames in
    let read' = c.args.read.now in
    let values' = c.args.values.now in
    let run' = c.in_ok-run.run' in
    let e = c.in_ok-run.ensures in
    (kept_alike raw k read' c.requires.read values' c.requires.values).0
    (subst (λ (start : List Tern). KeepsConstraints read'.small k start (named_rows read'.small k values'))
    (e.start ∙ ap (λ part. named_start part k values') c.part-part.ensures)
    (subst (λ (rows : List (List Tern)). KeepsConstraints read'.small k run'.start.items rows)
    (e.rows ∙ ap (λ part. named_rows part k values') c.part-part.ensures)
    (subst (λ part. KeepsConstraints part k run'.start.items run'.rows.rows) c.part-part.ensures c.in_ok-refuse_broken.ensures.kept)))

pub returns-in_err-refuse_broken-clause-refused : goal.returns-in_err-refuse_broken-clause-refused
returns-in_err-refuse_broken-clause-refused c =
    let raw = c.args.circuit.now in
    let k = c.args.frames in
    let read' = c.args.read.now in
    let values' = c.args.values.now in
    let run' = c.in_ok-run.run' in
    let e = c.in_ok-run.ensures in
    let broken = c.in_err-refuse_broken.ensures in
    let r = c.from_residual-in_err-refuse_broken in
    let fault = c.in_err-refuse_broken.field-0.0 in
    kept_refused raw k (start_named raw read' k values') (rows_named raw read' k values') r.result
    (λ is keeps. broken.none (ap Err (reports_same r.result fault reaches.NoRun r.ensures.1 is))
    (subst (λ part. KeepsConstraints part k run'.start.items run'.rows.rows) (sym c.part-part.ensures)
    (subst (λ (rows : List (List Tern)). KeepsConstraints read'.small k run'.start.items rows)
    (sym (e.rows ∙ ap (λ part. named_rows part k values') c.part-part.ensures))
    (subst (λ (start : List Tern). KeepsConstraints read'.small k start (named_rows read'.small k values'))
    (sym (e.start ∙ ap (λ part. named_start part k values') c.part-part.ensures))
    ((kept_alike raw k read' c.requires.read values' c.requires.values).1 keeps)))))
    (λ is. broken.property (ap Err (reports_same r.result fault reaches.Property r.ensures.1 is)))

pub returns-in_err-resets-clause-refused : goal.returns-in_err-resets-clause-refused
returns-in_err-resets-clause-refused c =
    let fault = c.in_err-resets.field-0.0 in
    known_err c.from_residual-in_err-resets.result fault
    (λ (f : ReachFault). NamesKept c.args.frames c.args.values.now c.args.circuit.now c.args.read.now (Err (run_faults.Reach f)) [])
    c.from_residual-in_err-resets.ensures.1
    (subst (λ (f : ReachFault). NamesKept c.args.frames c.args.values.now c.args.circuit.now c.args.read.now
    (Err (run_faults.Reach f)) []) (sym c.in_err-resets.ensures.memory) refl)
