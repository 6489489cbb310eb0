use Rattle.aig_shell.proofs.editing.Leading.{leads_one}
use Rattle.aig_shell.proofs.session.edits.set_input.Goals as goal

pub returns-clause-leads : goal.returns-clause-leads
returns-clause-leads c = leads_one _ _ _ c.in-Ok.ensures.edits.0 c.in-Ok.ensures.edits.1
