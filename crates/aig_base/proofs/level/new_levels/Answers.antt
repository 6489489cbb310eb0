use Rattle.aig_base.proofs.checks.Faults.{in_range_parted}
use Rattle.aig_base.proofs.checks.TriedLevelLemmas.{tried_are_levels}
use Rattle.aig_base.proofs.level.new_levels.Goals as goal

pub found_levels-requires : goal.found_levels-requires
found_levels-requires c = record {
  counts = c.circuit.invariant.0.formed.counts;
  range = in_range_parted c.circuit.inside.raw c.circuit.invariant.0.sound.in_range;
}

pub returns-in-Some-2 : goal.returns-in-Some-2
returns-in-Some-2 c =
    rw (← c.circuit.view_is)
    (tried_are_levels c.circuit.inside.raw c.in-Some-2.levels.items (rw c.in-Some-2.is at c.in_ok-levels-2.ensures)
    c.circuit.invariant.0.sound)

pub grounded_levels-requires-clause-parts : goal.grounded_levels-requires-clause-parts
grounded_levels-requires-clause-parts c = record {
  counts = c.circuit.invariant.0.formed.counts;
  range = in_range_parted c.circuit.inside.raw c.circuit.invariant.0.sound.in_range;
}
