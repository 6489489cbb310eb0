use Rattle.std.proofs.Common.{refl, ap}
use Rattle.std.specs.Prelude.{Some}
use Rattle.aig_command.specs.Command.{OfFile}
use Rattle.aig_commands.specs.Cut.{WritesCut}
use Rattle.aig_c.proofs.Endings.{after_err_reading, after_ok_reading, asked}
use Rattle.aig_c.proofs.Silent.{cuts}
use Rattle.aig_c.proofs.circuits.aig_cut.Goals as goal

pub returns-in-Ok-cut : goal.returns-in-Ok-cut
returns-in-Ok-cut c = record {
  returns = asked (λ to. OfFile c.args.circuit.now (WritesCut c.args.cuts.now to)) c.format.ensures
      (after_ok_reading (WritesCut c.args.cuts.now c.format.result) c.args.circuit.now c.cut.new.out.bytes _ (ap Some c.new-reader.ensures)
      (ap Some c.in-Ok.ensures) refl c.bytes.ensures c.in-Ok-cut.ensures.ends c.answer.ensures);
}

pub returns : goal.returns
returns c = record {
  returns = asked (λ to. OfFile c.args.circuit.now (WritesCut c.args.cuts.now to)) c.format.ensures
      (after_err_reading (WritesCut c.args.cuts.now c.format.result) (cuts c.args.cuts.now c.format.result) c.args.circuit.now c.in-Err.fault c.cut.new.out.bytes _ (ap Some c.new-reader.ensures)
      (ap Some c.in-Ok.ensures) refl c.bytes-in-Err.ensures c.in-Err.ensures.ends c.refuse.ensures);
}
