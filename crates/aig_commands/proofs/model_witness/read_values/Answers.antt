use Rattle.aig_commands.proofs.ModelWitnesses.{model_refused}
use Rattle.aig_commands.proofs.model_witness.read_values.Goals as goal

pub returns-clause-refused : goal.returns-clause-refused
returns-clause-refused c =
    model_refused c.args.variables c.args.model.now c.read_model.result c.read_model.ensures.refused c.read_model.ensures.unsatisfiable c.read_model.ensures.unknown
