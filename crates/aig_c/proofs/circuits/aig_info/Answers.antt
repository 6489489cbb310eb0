use Rattle.std.proofs.Common.{refl, ap}
use Rattle.std.specs.Prelude.{Some}
use Rattle.aig_command.specs.Command.{OfFile}
use Rattle.aig_commands.specs.Info.{ListsFacts}
use Rattle.aig_c.proofs.Endings.{after_err_reading, after_ok_reading, asked}
use Rattle.aig_c.proofs.Silent.{facts}
use Rattle.aig_c.proofs.circuits.aig_info.Goals as goal

pub returns-in-Ok-info : goal.returns-in-Ok-info
returns-in-Ok-info c = record {
  returns = asked (λ held. OfFile c.args.circuit.now (ListsFacts (Some held))) c.new-reader.ensures
      (after_ok_reading (ListsFacts (Some c.new-reader.result)) c.args.circuit.now c.info.new.out.bytes _ (ap Some c.new-reader.ensures)
      (ap Some c.in-Ok.ensures) refl c.bytes.ensures c.in-Ok-info.ensures.ends c.answer.ensures);
}

pub returns : goal.returns
returns c = record {
  returns = asked (λ held. OfFile c.args.circuit.now (ListsFacts (Some held))) c.new-reader.ensures
      (after_err_reading (ListsFacts (Some c.new-reader.result)) (facts (Some c.new-reader.result)) c.args.circuit.now c.in-Err.fault c.info.new.out.bytes _ (ap Some c.new-reader.ensures)
      (ap Some c.in-Ok.ensures) refl c.bytes-in-Err.ensures c.in-Err.ensures.ends c.refuse.ensures);
}
