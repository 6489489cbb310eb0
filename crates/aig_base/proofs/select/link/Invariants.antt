use Rattle.std.proofs.Common.{◌≡◌, ◌≤◌, length, drop}
use Rattle.aig_base.specs.state.PropertyPlaces.{ArePlacesFrom}
use Rattle.aig_base.proofs.select.link.Given as goal

abbrev pub invariant-loop-place : goal.invariant-loop-place
invariant-loop-place l = record {
  within : l.place ≤ length l.numbers;
  size : length l.next ≡ length l.numbers;
  count : length l.first ≡ length l.initial.first;
  places : ArePlacesFrom l.place (drop l.place l.numbers) l.first l.next;
}

abbrev pub decreases-loop-place : goal.decreases-loop-place
decreases-loop-place l = l.place
