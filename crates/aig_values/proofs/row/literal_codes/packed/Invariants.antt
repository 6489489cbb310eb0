use Rattle.aig_values.proofs.LiteralLemmas.{ArePacked}
use Rattle.aig_values.proofs.row.literal_codes.packed.Given as goal

abbrev pub invariant-loop-place : goal.invariant-loop-place
invariant-loop-place l = ArePacked l.codes l.from l.place l.word
