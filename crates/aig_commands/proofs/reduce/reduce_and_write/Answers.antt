use Rattle.std.proofs.Common.{[], refl}
use Rattle.aig_bytes.specs.Flow.{flow}
use Rattle.aig_command.proofs.Files.{answered}
use Rattle.aig_command.proofs.Written.{answer_ends, got_none}
use Rattle.aig_command.specs.Command.{CommandEnds}
use Rattle.aig_command.specs.declared.run_fault.RunFault.TheVariants as run_faults
use Rattle.aig_commands.specs.Reduce.{Reduces, reduction_text, verdict_of}
use Rattle.aig_commands.proofs.Reductions.{reduces}
use Rattle.aig_commands.proofs.reduce.reduce_and_write.Goals as goal

pub returns : goal.returns
returns g c =
    let reduction = c.in_ok-reduction.reduction in
    let read = c.in_ok-reduction.ensures in
    let e = c.report.ensures in
    answer_ends g.W.Write.written g.W.Write.failures c.args.out.now c.report.new.out (Reduces c.args.witness.now c.args.circuit)
    (reduction_text reduction) (verdict_of reduction) c.report.result e.written e.verdict e.output
    (reduces c.args.circuit c.args.witness.now read.circuit reduction e.position read.reduced)

pub returns-in_err-reduction : goal.returns-in_err-reduction
returns-in_err-reduction g c =
    answered c.from_residual.result c.in_err-reduction.field-0.0
    (CommandEnds (flow g.W.Write.written g.W.Write.failures c.args.out.now c.args.out.now) run_faults.Output
    (Reduces c.args.witness.now c.args.circuit))
    c.from_residual.ensures.1
    (CommandEnds.writes_all [] (c.in_err-reduction.ensures.refused, refl) (got_none g.W.Write.written g.W.Write.failures c.args.out.now))
