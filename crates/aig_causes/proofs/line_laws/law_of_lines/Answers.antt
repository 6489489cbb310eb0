use Rattle.aig_causes.proofs.Together.{at_last, goes_down}
use Rattle.aig_causes.proofs.line_laws.law_of_lines.Goals as goal

pub returns : goal.returns
returns c = record {
  last = λ raw m sources l h. at_last raw m sources l h;
  down = λ raw circuit m here after rest l explain all. goes_down raw circuit m here after rest l explain all;
}
