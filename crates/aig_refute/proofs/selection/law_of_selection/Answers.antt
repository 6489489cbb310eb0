use Rattle.aig_refute.proofs.SelectedVerdicts.{same_selected, unreachable_selected}
use Rattle.aig_refute.proofs.selection.law_of_selection.Goals as goal

pub returns : goal.returns
returns c = record { verdicts = same_selected; unreachable = unreachable_selected }
