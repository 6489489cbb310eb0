use Rattle.std.proofs.Common.{refl, ap}
use Rattle.std.specs.Prelude.{Some}
use Rattle.aig_command.specs.Command.{OfFile}
use Rattle.aig_commands.specs.Unroll.{Unrolls}
use Rattle.aig_c.proofs.Endings.{after_err, after_ok, asked}
use Rattle.aig_c.proofs.Silent.{of_file, unrolls}
use Rattle.aig_c.proofs.circuits.aig_unroll.Goals as goal

pub returns-in-Ok-unroll_bytes : goal.returns-in-Ok-unroll_bytes
returns-in-Ok-unroll_bytes c = record {
  returns = asked (λ to. OfFile c.args.circuit.now (Unrolls c.args.frames to)) c.format.ensures
      (after_ok (OfFile c.args.circuit.now (Unrolls c.args.frames c.format.result)) c.unroll_bytes.new.out.bytes _ (ap Some c.in-Ok.ensures) refl
      c.bytes.ensures c.in-Ok-unroll_bytes.ensures.ends c.answer.ensures);
}

pub returns : goal.returns
returns c = record {
  returns = asked (λ to. OfFile c.args.circuit.now (Unrolls c.args.frames to)) c.format.ensures
      (after_err (OfFile c.args.circuit.now (Unrolls c.args.frames c.format.result)) (of_file (Unrolls c.args.frames c.format.result) (unrolls c.args.frames c.format.result) c.args.circuit.now)
      c.in-Err.fault c.unroll_bytes.new.out.bytes _ (ap Some c.in-Ok.ensures) refl c.bytes-in-Err.ensures c.in-Err.ensures.ends c.refuse.ensures);
}
