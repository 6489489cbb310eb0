use Rattle.aig_script.proofs.Splits.{is_split, is_only_split}
use Rattle.aig_script.proofs.script_laws.law_of_lines.Goals as goal

pub returns-clause-split : goal.returns-clause-split
returns-clause-split c = is_split

pub returns-clause-one : goal.returns-clause-one
returns-clause-one c = is_only_split
