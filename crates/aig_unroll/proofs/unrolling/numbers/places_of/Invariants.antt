use Rattle.aig_unroll.proofs.NumberLemmas.{ArePlacesTo}
use Rattle.aig_unroll.proofs.unrolling.numbers.places_of.Given as goal

abbrev pub invariant-loop-place : goal.invariant-loop-place
invariant-loop-place l = ArePlacesTo l.circuit l.order l.places.items l.place
