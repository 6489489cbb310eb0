use Rattle.std.proofs.Common.{◌≡◌, ◌≤◌, length, sum_by, take}
use Rattle.aig_parts.specs.Formed.{limit}
use Rattle.aig_parts.proofs.raw.sum_fits.Given as goal

abbrev pub invariant-loop-list : goal.invariant-loop-list
invariant-loop-list l = (l.total ≡ sum_by length (take l.list-index l.list-items)) × (l.total ≤ limit)
