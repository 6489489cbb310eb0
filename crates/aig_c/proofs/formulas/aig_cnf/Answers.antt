use Rattle.aig_command.specs.Command.{OfFile}
use Rattle.aig_commands.specs.Cnf.{WritesFormula}
use Rattle.aig_commands.specs.Questions.{WritesQuestion, asked_of}
use Rattle.aig_c.specs.Answers.{Returns, query_of}
use Rattle.aig_c.proofs.Flags.{by_flag}
use Rattle.aig_c.proofs.formulas.aig_cnf.Goals as goal

pub returns : goal.returns
returns c = record {
  returns = by_flag (λ asked. Returns (WritesQuestion asked c.args.circuit.now) c.write_formula.result c.args.room.now c.write_formula.new.room c.args.written.now c.write_formula.new.written)
      (λ step. Returns (OfFile c.args.circuit.now (WritesFormula (query_of step c.args.frames c.args.property))) c.write_formula.result c.args.room.now c.write_formula.new.room c.args.written.now c.write_formula.new.written)
      c.args.frames c.args.property (λ m. m) (λ m. m) c.args.step (asked_of c.question-question.result) c.question-question.ensures.steps
      c.question-question.ensures.within c.write_formula.ensures.returns;
}
