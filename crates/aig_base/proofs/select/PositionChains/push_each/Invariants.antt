use Rattle.std.proofs.Common.{◌-◌, length}
use Rattle.aig_base.specs.Selected.{places_from}
use Rattle.aig_base.proofs.selections.Walks.{Walked}
use Rattle.aig_base.proofs.select.PositionChains.push_each.Given as goal

abbrev pub invariant-loop-place : goal.invariant-loop-place
invariant-loop-place l =
    Walked l.into l.self.next.items (places_from 0 l.self.numbers.now l.number) l.name l.initial.list l.list l.place

abbrev pub decreases-loop-place : goal.decreases-loop-place
decreases-loop-place l = length l.self.next.items - l.place
