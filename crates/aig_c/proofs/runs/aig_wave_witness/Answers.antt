use Rattle.std.proofs.Common.{refl, ap}
use Rattle.std.specs.Prelude.{Some}
use Rattle.aig_command.specs.Command.{OfFile}
use Rattle.aig_commands.specs.Wave.{DumpsRun}
use Rattle.aig_c.proofs.Endings.{after_err, after_ok}
use Rattle.aig_c.proofs.Silent.{dumps, of_file}
use Rattle.aig_c.proofs.runs.aig_wave_witness.Goals as goal

pub returns-in-Ok-wave_witness : goal.returns-in-Ok-wave_witness
returns-in-Ok-wave_witness c = record {
  returns = after_ok (OfFile c.args.circuit.now (DumpsRun c.args.witness.now)) c.wave_witness.new.out.bytes _ (ap Some c.in-Ok.ensures) refl
      c.bytes.ensures c.in-Ok-wave_witness.ensures.ends c.answer.ensures;
}

pub returns : goal.returns
returns c = record {
  returns = after_err (OfFile c.args.circuit.now (DumpsRun c.args.witness.now)) (of_file (DumpsRun c.args.witness.now) (dumps c.args.witness.now) c.args.circuit.now)
      c.in-Err.fault c.wave_witness.new.out.bytes _ (ap Some c.in-Ok.ensures) refl c.bytes-in-Err.ensures c.in-Err.ensures.ends c.refuse.ensures;
}
