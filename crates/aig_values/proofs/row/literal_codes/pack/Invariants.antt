use Rattle.aig_values.proofs.LiteralLemmas.{HaveCells}
use Rattle.aig_values.proofs.row.literal_codes.pack.Given as goal

abbrev pub invariant-loop-place : goal.invariant-loop-place
invariant-loop-place l = HaveCells l.words l.codes l.place
