use Rattle.std.proofs.Common.{refl, ap}
use Rattle.std.specs.Prelude.{Some}
use Rattle.aig_commands.specs.Questions.{WritesQuestion, asked_of}
use Rattle.aig_c.proofs.Endings.{after_err, after_ok}
use Rattle.aig_c.proofs.Silent.{writes}
use Rattle.aig_c.proofs.formulas.write_formula.Goals as goal

pub returns-in-Ok-cnf : goal.returns-in-Ok-cnf
returns-in-Ok-cnf c = record {
  returns = after_ok (WritesQuestion (asked_of c.args.asked.question) c.args.asked.circuit.now) c.cnf.new.out.bytes _ (ap Some c.in-Ok.ensures) refl
      c.bytes.ensures c.in-Ok-cnf.ensures.ends c.answer.ensures;
}

pub returns : goal.returns
returns c = record {
  returns = after_err (WritesQuestion (asked_of c.args.asked.question) c.args.asked.circuit.now) (writes (asked_of c.args.asked.question) c.args.asked.circuit.now)
      c.in-Err.fault c.cnf.new.out.bytes _ (ap Some c.in-Ok.ensures) refl c.bytes-in-Err.ensures c.in-Err.ensures.ends c.refuse.ensures;
}
