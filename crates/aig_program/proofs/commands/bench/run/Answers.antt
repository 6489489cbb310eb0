use Rattle.std.specs.Prelude.{IfSome}
use Rattle.aig_command.specs.declared.run_fault.RunFault.TheVariants as run_faults
use Rattle.aig_command.specs.declared.script_fault.ScriptFault.TheVariants as scripts
use Rattle.aig_script.specs.Bench.{LeavesBench}
use Rattle.aig_files.specs.declared.part.Part.TheVariants as parts
use Rattle.aig_program.specs.Ends.{EndsKeeping, OfText, seen}
use Rattle.aig_program.proofs.Endings.{ends_unread, ends_unwritten, nothing, of_any, of_any_two, of_both, slice_whole}
use Rattle.aig_program.proofs.commands.bench.run.Goals as goal

pub returns : goal.returns
returns g c =
    let w = g.W.Write.written in
    let f = g.W.Write.failures in
    let out = seen w f c.args.out.now c.write_replies.new.out in
    let left = g.F.Read.remaining in
    let r = c.write_replies in
    let io = run_faults.Script scripts.Io in
    record {
      ends =
          of_both (left c.args.it.circuit) (left c.args.it.stimulus) c.as_slice-file.result.now c.as_slice-rows.result.now
          (slice_whole (left c.args.it.circuit) _ _ c.as_slice-file.ensures.value c.in_ok-circuit.ensures.whole)
          (slice_whole (left c.args.it.stimulus) _ _ c.as_slice-rows.ensures.value c.in_ok-stimulus.ensures.whole)
          (λ file rows. IfSome (left c.args.it.script) (λ lines. EndsKeeping out io (OfText lines (LeavesBench file rows)) r.result))
          r.ensures.ends;
    }

pub returns-in_err-circuit : goal.returns-in_err-circuit
returns-in_err-circuit g c =
    let w = g.W.Write.written in
    let f = g.W.Write.failures in
    let out = seen w f c.args.out.now c.args.out.now in
    let left = g.F.Read.remaining in
    let r = c.from_residual in
    let io = run_faults.Script scripts.Io in
    record {
      ends =
          of_any_two (left c.args.it.circuit) (left c.args.it.stimulus)
          (λ file rows. IfSome (left c.args.it.script) (λ lines. EndsKeeping out io (OfText lines (LeavesBench file rows)) r.result))
          (λ file rows. of_any (left c.args.it.script) (λ lines. EndsKeeping out io (OfText lines (LeavesBench file rows)) r.result)
          (λ lines. EndsKeeping.ends (ends_unread (nothing w f c.args.out.now) r.result c.in_err-circuit.field-0.0 parts.Circuit c.in_err-circuit.ensures.fails r.ensures.1)));
    }

pub returns-in_err-stimulus : goal.returns-in_err-stimulus
returns-in_err-stimulus g c =
    let w = g.W.Write.written in
    let f = g.W.Write.failures in
    let out = seen w f c.args.out.now c.args.out.now in
    let left = g.F.Read.remaining in
    let r = c.from_residual-in_err-stimulus in
    let io = run_faults.Script scripts.Io in
    record {
      ends =
          of_any_two (left c.args.it.circuit) (left c.args.it.stimulus)
          (λ file rows. IfSome (left c.args.it.script) (λ lines. EndsKeeping out io (OfText lines (LeavesBench file rows)) r.result))
          (λ file rows. of_any (left c.args.it.script) (λ lines. EndsKeeping out io (OfText lines (LeavesBench file rows)) r.result)
          (λ lines. EndsKeeping.ends (ends_unread (nothing w f c.args.out.now) r.result c.in_err-stimulus.field-0.0 parts.Stimulus c.in_err-stimulus.ensures.fails r.ensures.1)));
    }

pub returns-in_err-files : goal.returns-in_err-files
returns-in_err-files g c =
    let w = g.W.Write.written in
    let f = g.W.Write.failures in
    let out = seen w f c.args.out.now c.args.out.now in
    let left = g.F.Read.remaining in
    let r = c.from_residual-in_err-files in
    let io = run_faults.Script scripts.Io in
    record {
      ends =
          of_any_two (left c.args.it.circuit) (left c.args.it.stimulus)
          (λ file rows. IfSome (left c.args.it.script) (λ lines. EndsKeeping out io (OfText lines (LeavesBench file rows)) r.result))
          (λ file rows. of_any (left c.args.it.script) (λ lines. EndsKeeping out io (OfText lines (LeavesBench file rows)) r.result)
          (λ lines. ends_unwritten (nothing w f c.args.out.now) r.result c.in_err-files.field-0.0 c.in_err-files.ensures.fails r.ensures.1));
    }
