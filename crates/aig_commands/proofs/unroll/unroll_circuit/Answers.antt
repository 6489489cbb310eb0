use Rattle.std.proofs.Common.{[], refl}
use Rattle.aig_command.specs.declared.run_fault.RunFault.TheVariants as run_faults
use Rattle.aig_command.proofs.Files.{answered}
use Rattle.aig_bytes.specs.Flow.{flow}
use Rattle.aig_command.specs.Command.{CommandEnds}
use Rattle.aig_commands.specs.Unroll.{Unrolls, short_spelling}
use Rattle.aig_commands.proofs.unroll.unroll_circuit.Goals as goal
use Rattle.aig_command.proofs.Written.{got_none, output_ends, output_refused, one_at_most}

pub returns-clause-ends : goal.returns-clause-ends
returns-clause-ends g c =
    output_ends g.W.Write.written g.W.Write.failures c.args.out.now c.write_short.new.out (Unrolls c.args.frames c.args.to c.args.circuit.now)
    (short_spelling c.args.to c.in_ok-unrolled.unrolled) c.write_short.result c.write_short.ensures.written c.write_short.ensures.output
    (c.in_ok-unrolled.unrolled, c.in_ok-unrolled.ensures.answers, refl)

pub returns-clause-once : goal.returns-clause-once
returns-clause-once g c =
    let text = short_spelling c.args.to c.in_ok-unrolled.unrolled in
    record {
      count = one_at_most g.W.Write.written g.W.Write.failures c.args.out.now c.write_short.new.out text c.write_short.result c.write_short.ensures.written;
      refused = output_refused _ c.write_short.result c.write_short.ensures.output;
      output = λ is. (tt, text, (c.in_ok-unrolled.unrolled, c.in_ok-unrolled.ensures.answers, refl));
    }

pub returns-in_err-levels-clause-ends : goal.returns-in_err-levels-clause-ends
returns-in_err-levels-clause-ends g c =
    answered c.from_residual.result run_faults.Memory
    (CommandEnds (flow g.W.Write.written g.W.Write.failures c.args.out.now c.args.out.now) run_faults.Output (Unrolls c.args.frames c.args.to c.args.circuit.now))
    c.from_residual.ensures.1 (CommandEnds.writes_all [] refl (got_none g.W.Write.written g.W.Write.failures c.args.out.now))

pub returns-in_err-unrolled-clause-ends : goal.returns-in_err-unrolled-clause-ends
returns-in_err-unrolled-clause-ends g c =
    answered c.from_residual-in_err-unrolled.result (run_faults.Unroll c.in_err-unrolled.field-0.0)
    (CommandEnds (flow g.W.Write.written g.W.Write.failures c.args.out.now c.args.out.now) run_faults.Output (Unrolls c.args.frames c.args.to c.args.circuit.now))
    c.from_residual-in_err-unrolled.ensures.1
    (CommandEnds.writes_all [] (c.in_err-unrolled.ensures.answers, refl) (got_none g.W.Write.written g.W.Write.failures c.args.out.now))
