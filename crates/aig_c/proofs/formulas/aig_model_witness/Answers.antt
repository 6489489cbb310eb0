use Rattle.aig_command.specs.Command.{OfFile}
use Rattle.aig_commands.specs.ModelWitness.{WritesModel}
use Rattle.aig_commands.specs.Questions.{NamesQuestion, asked_of}
use Rattle.aig_c.specs.Answers.{Returns, query_of}
use Rattle.aig_c.proofs.Flags.{by_flag}
use Rattle.aig_c.proofs.formulas.aig_model_witness.Goals as goal

pub returns : goal.returns
returns c = record {
  returns = by_flag (λ asked. Returns (NamesQuestion asked c.args.model.now c.args.circuit.now) c.write_named.result c.args.room.now c.write_named.new.room c.args.written.now c.write_named.new.written)
      (λ step. Returns (OfFile c.args.circuit.now (WritesModel (query_of step c.args.frames c.args.property) c.args.model.now)) c.write_named.result c.args.room.now c.write_named.new.room c.args.written.now c.write_named.new.written)
      c.args.frames c.args.property (λ m. m) (λ m. m) c.args.step (asked_of c.question.result) c.question.ensures.steps
      c.question.ensures.within c.write_named.ensures.returns;
}
