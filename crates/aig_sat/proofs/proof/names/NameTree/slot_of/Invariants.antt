use Rattle.std.proofs.Common.{◌+◌, ◌≤◌, length}
use Rattle.aig_sat.proofs.proof.names.NameTree.slot_of.Given as goal

abbrev pub invariant-loop : goal.invariant-loop
invariant-loop l = l.node + 16 ≤ length l.self.slots.items
