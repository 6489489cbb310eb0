use Rattle.std.proofs.Common.{refl, ap}
use Rattle.std.specs.Prelude.{Some}
use Rattle.aig_command.specs.Command.{OfFile}
use Rattle.aig_commands.specs.Witness.{WritesWitness}
use Rattle.aig_c.proofs.Endings.{after_err, after_ok}
use Rattle.aig_c.proofs.Silent.{of_file, witness}
use Rattle.aig_c.proofs.runs.aig_witness.Goals as goal

pub returns-in-Ok-witness : goal.returns-in-Ok-witness
returns-in-Ok-witness c = record {
  returns = after_ok (OfFile c.args.circuit.now (WritesWitness (Some c.args.property) c.args.rows.now)) c.witness.new.out.bytes _ (ap Some c.in-Ok.ensures) refl
      c.bytes.ensures c.in-Ok-witness.ensures.ends c.answer.ensures;
}

pub returns : goal.returns
returns c = record {
  returns = after_err (OfFile c.args.circuit.now (WritesWitness (Some c.args.property) c.args.rows.now)) (of_file (WritesWitness (Some c.args.property) c.args.rows.now) (witness (Some c.args.property) c.args.rows.now) c.args.circuit.now)
      c.in-Err.fault c.witness.new.out.bytes _ (ap Some c.in-Ok.ensures) refl c.bytes-in-Err.ensures c.in-Err.ensures.ends c.refuse.ensures;
}
