use Rattle.aig_script.proofs.Meanings.{has_one_meaning, in_turn, lines_in_turn}
use Rattle.aig_script.proofs.script_laws.law_of_one_meaning.Goals as goal

pub returns-clause-one : goal.returns-clause-one
returns-clause-one c = has_one_meaning

pub returns-clause-turns : goal.returns-clause-turns
returns-clause-turns c = in_turn

pub returns-clause-lines : goal.returns-clause-lines
returns-clause-lines c = lines_in_turn
