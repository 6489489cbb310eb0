use Rattle.std.proofs.Common.{◌≡◌, take}
use Rattle.aig_cut.proofs.parts.lists_of.Given as goal

abbrev pub invariant-loop-list : goal.invariant-loop-list
invariant-loop-list l = l.copies ≡ take l.list-index l.lists
