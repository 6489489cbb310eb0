use Rattle.std.proofs.Common.{refl, ap}
use Rattle.std.specs.Prelude.{Some}
use Rattle.aig_command.specs.Command.{OfFile}
use Rattle.aig_commands.specs.Toaig.{Converts}
use Rattle.aig_c.proofs.Endings.{after_err, after_ok, asked}
use Rattle.aig_c.proofs.Silent.{converts, of_file}
use Rattle.aig_c.proofs.circuits.aig_toaig.Goals as goal

pub returns-in-Ok-convert : goal.returns-in-Ok-convert
returns-in-Ok-convert c = record {
  returns = asked (λ to. OfFile c.args.circuit.now (Converts to)) c.format.ensures
      (after_ok (OfFile c.args.circuit.now (Converts c.format.result)) c.convert.new.out.bytes _ (ap Some c.in-Ok.ensures) refl
      c.bytes.ensures c.in-Ok-convert.ensures.ends c.answer.ensures);
}

pub returns : goal.returns
returns c = record {
  returns = asked (λ to. OfFile c.args.circuit.now (Converts to)) c.format.ensures
      (after_err (OfFile c.args.circuit.now (Converts c.format.result)) (of_file (Converts c.format.result) (converts c.format.result) c.args.circuit.now)
      c.in-Err.fault c.convert.new.out.bytes _ (ap Some c.in-Ok.ensures) refl c.bytes-in-Err.ensures c.in-Err.ensures.ends c.refuse.ensures);
}
