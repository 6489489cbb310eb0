use Rattle.std.proofs.Common.{List, Err, Some, ap, subst}
use Rattle.aig_parts.specs.declared.ternary.Tern.{Tern}
use Rattle.aig_sim.specs.Reached.{ReachesNone}
use Rattle.aig_sim.specs.declared.witness.reach_fault.ReachFault.TheVariants as reaches
use Rattle.aig_commands.proofs.NamedRuns.{reports_same}
use Rattle.aig_commands.proofs.model_witness.first_frame.Goals as goal

pub returns-in_err-reached-clause-none : goal.returns-in_err-reached-clause-none
returns-in_err-reached-clause-none c = λ is.
    subst (λ (start : List Tern). ReachesNone c.args.circuit.now start c.args.run.now.rows.rows (Some 0)) c.deref.ensures.value
    (c.in_err-reached.ensures.none
    (ap Err (reports_same c.from_residual.result c.in_err-reached.field-0.0 reaches.NoRun c.from_residual.ensures.1 is)))
