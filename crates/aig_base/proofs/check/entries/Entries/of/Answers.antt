use Rattle.aig_base.proofs.circuits.Entering.{entries_same, definition_variables}
use Rattle.aig_base.proofs.check.entries.Entries.of.Goals as goal

pub returns : goal.returns
returns c = entries_same c.args.raw.now.max_var _ _ _ _ (definition_variables c.args.raw.now) c.enter_gates.ensures
