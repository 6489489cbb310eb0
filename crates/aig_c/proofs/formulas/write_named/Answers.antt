use Rattle.std.proofs.Common.{refl, ap}
use Rattle.std.specs.Prelude.{Some}
use Rattle.aig_commands.specs.Questions.{NamesQuestion, asked_of}
use Rattle.aig_c.proofs.Endings.{after_err, after_ok}
use Rattle.aig_c.proofs.Silent.{names_run}
use Rattle.aig_c.proofs.formulas.write_named.Goals as goal

pub returns-in-Ok-model_witness : goal.returns-in-Ok-model_witness
returns-in-Ok-model_witness c = record {
  returns = after_ok (NamesQuestion (asked_of c.args.asked.question) c.args.model.now c.args.asked.circuit.now) c.model_witness.new.out.bytes _ (ap Some c.in-Ok.ensures) refl
      c.bytes.ensures c.in-Ok-model_witness.ensures.ends c.answer.ensures;
}

pub returns : goal.returns
returns c = record {
  returns = after_err (NamesQuestion (asked_of c.args.asked.question) c.args.model.now c.args.asked.circuit.now) (names_run (asked_of c.args.asked.question) c.args.model.now c.args.asked.circuit.now)
      c.in-Err.fault c.model_witness.new.out.bytes _ (ap Some c.in-Ok.ensures) refl c.bytes-in-Err.ensures c.in-Err.ensures.ends c.refuse.ensures;
}
