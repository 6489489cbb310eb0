use Rattle.std.proofs.Common.{refl, ap}
use Rattle.std.specs.Prelude.{Some}
use Rattle.aig_commands.specs.Names.{ListsNames}
use Rattle.aig_c.proofs.Endings.{after_err_reading, after_ok_reading}
use Rattle.aig_c.proofs.Silent.{entries}
use Rattle.aig_c.proofs.circuits.aig_names.Goals as goal

pub returns-in-Ok-info_names : goal.returns-in-Ok-info_names
returns-in-Ok-info_names c = record {
  returns = after_ok_reading ListsNames c.args.circuit.now c.info_names.new.out.bytes _ (ap Some c.new-reader.ensures)
      (ap Some c.in-Ok.ensures) refl c.bytes.ensures c.in-Ok-info_names.ensures.ends c.answer.ensures;
}

pub returns : goal.returns
returns c = record {
  returns = after_err_reading ListsNames entries c.args.circuit.now c.in-Err.fault c.info_names.new.out.bytes _ (ap Some c.new-reader.ensures)
      (ap Some c.in-Ok.ensures) refl c.bytes-in-Err.ensures c.in-Err.ensures.ends c.refuse.ensures;
}
