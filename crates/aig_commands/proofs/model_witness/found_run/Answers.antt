use Rattle.std.proofs.Common.{Err, length, ap, ◌∙◌}
use Rattle.aig_cnf.specs.Formula.{Cnf}
use Rattle.aig_sim.specs.declared.witness.reach_fault.ReachFault.TheVariants as reaches
use Rattle.aig_commands.proofs.ModelWitnesses.{none_of_part}
use Rattle.aig_commands.proofs.NamedRuns.{named_start_length, reports_same}
use Rattle.aig_commands.proofs.model_witness.found_run.Goals as goal

pub first_frame-requires-clause-start : goal.first_frame-requires-clause-start
first_frame-requires-clause-start c =
    ap length c.in_ok-run.ensures.start ∙ named_start_length c.part-part.result.now c.depth.result c.args.values.now

pub returns-in_err-frame-clause-none : goal.returns-in_err-frame-clause-none
returns-in_err-frame-clause-none c = λ is.
    let read' = c.args.read.now in
    none_of_part c.part-part.result.now read'.small c.depth.result (length read'.cnf.goals) c.args.values.now
    c.in_ok-run.run'.start.items c.in_ok-run.run'.rows.rows c.part-part.ensures
    (c.depth.ensures ∙ ap (λ (f : Cnf). length f.goals) c.formula.ensures) c.in_ok-run.ensures.start c.in_ok-run.ensures.rows
    (c.in_err-frame.ensures.none
    (ap Err (reports_same c.from_residual-in_err-frame.result c.in_err-frame.field-0.0 reaches.NoRun
    c.from_residual-in_err-frame.ensures.1 is)))
