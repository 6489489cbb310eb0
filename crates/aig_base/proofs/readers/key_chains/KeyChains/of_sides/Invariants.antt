use Rattle.std.proofs.Common.{◌≡◌, ◌+◌, length, take}
use Rattle.aig_base.specs.state.KeyChains.{AreKeyChains}
use Rattle.aig_base.specs.state.Marks.{sides}
use Rattle.aig_base.proofs.readers.key_chains.KeyChains.of_sides.Given as goal

abbrev pub invariant-loop-gate : goal.invariant-loop-gate
invariant-loop-gate l = record {
  links : AreKeyChains (sides (take l.gate-index l.gates)) l.links.first.items l.links.next.items;
  size : length l.links.first.items ≡ l.max_var + 1;
}
