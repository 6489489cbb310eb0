use Rattle.std.proofs.Common.{take, arith, rules}
use Rattle.std.proofs.lemmas.List.{length_push}
use Rattle.aig_base.specs.state.Marks.{sides}
use Rattle.aig_base.proofs.lists.Chains.{links_same, sides_more, sides_so_far}
use Rattle.aig_base.proofs.readers.key_chains.KeyChains.of_sides.Goals as goal

pub add-requires-clause-room : goal.add-requires-clause-room
add-requires-clause-room c =
    omega (
      arith,
      c.loop-gate.invariant.links.size,
      sides_so_far c.args.gates.now c.loop-gate.gate-index
          c.loop-gate-test.true,
      c.requires.count,
    )

pub add-requires-in-loop-gate-clause-room : goal.add-requires-in-loop-gate-clause-room
add-requires-in-loop-gate-clause-room c =
    let done = sides (take c.loop-gate.gate-index c.args.gates.now) in
    let links = c.in_ok-add.ensures.links done c.loop-gate.invariant.links in
    omega (
      arith,
      links.size,
      length_push done c.var.result,
      sides_so_far c.args.gates.now c.loop-gate.gate-index
          c.loop-gate-test.true,
      c.requires.count,
    )

pub loop-gate-preserved : goal.loop-gate-preserved
loop-gate-preserved c = record {
  links = links_same _ _ _ _
      (sides_more c.args.gates.now c.loop-gate.gate-index c.var.result c.var-in-loop-gate.result c.gate-item.result
      c.loop-gate-test.true c.gate-item.is c.var.ensures c.var-in-loop-gate.ensures)
      (c.in_ok-add-2.ensures.links _ (c.in_ok-add.ensures.links _ c.loop-gate.invariant.links));
  size = search rules;
}
