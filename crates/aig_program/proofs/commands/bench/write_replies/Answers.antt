use Rattle.std.proofs.Common.{◌∙◌, Err, refl}
use Rattle.aig_command.specs.declared.run_fault.RunFault.TheVariants as run_faults
use Rattle.aig_command.specs.declared.script_fault.ScriptFault.TheVariants as scripts
use Rattle.aig_script.specs.Bench.{LeavesBench}
use Rattle.aig_program.specs.Ends.{EndsKeeping, OfText, as_meant}
use Rattle.aig_program.proofs.Endings.{ends_written, flushed_ends, known_at_first, of_left, text_ends}
use Rattle.aig_program.proofs.commands.bench.write_replies.Goals as goal

pub returns-in-Ok : goal.returns-in-Ok
returns-in-Ok g c =
    let w = g.W.Write.written in
    let f = g.W.Write.failures in
    let left = g.F.Read.remaining in
    let k = c.new-script in
    let Leaves = LeavesBench c.args.texts.circuit.now c.args.texts.stimulus.now in
    let io = run_faults.Script scripts.Io in
    record {
      ends = of_left (left c.args.script) (λ lines. EndsKeeping _ io (OfText lines Leaves) c.written.result) (λ lines is.
          ends_written w f _ _ _ io (OfText lines Leaves) c.bench-done.result c.in-Ok.bench c.written.result
          (text_ends _ _ io lines
          (known_at_first left c.args.script k.result.first k.result.inner k.ensures.first k.ensures.inner ∙ is) Leaves
          c.bench-done.result c.bench-done.ensures.ends) c.in-Ok.ensures.answer
          c.written.ensures.fails);
    }

pub returns : goal.returns
returns g c =
    let w = g.W.Write.written in
    let f = g.W.Write.failures in
    let left = g.F.Read.remaining in
    let k = c.new-script in
    let Leaves = LeavesBench c.args.texts.circuit.now c.args.texts.stimulus.now in
    let io = run_faults.Script scripts.Io in
    record {
      ends = of_left (left c.args.script) (λ lines. EndsKeeping _ io (OfText lines Leaves) _) (λ lines is.
          EndsKeeping.ends (as_meant (Err c.in-Err.fault)
          (flushed_ends w f _ _ _ io (OfText lines Leaves) c.bench-done.result (Err c.in-Err.fault)
          (text_ends _ _ io lines
          (known_at_first left c.args.script k.result.first k.result.inner k.ensures.first k.ensures.inner ∙ is) Leaves
          c.bench-done.result c.bench-done.ensures.ends) c.in-Err.ensures.answer) refl));
    }
