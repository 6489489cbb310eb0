use Rattle.std.proofs.Common.{arith}
use Rattle.std.proofs.lemmas.Option.{slice_get_within}
use Rattle.aig_base.proofs.lists.Counting.{length-order}
use Rattle.aig_unroll.proofs.NumberLemmas.{gate_there, places_more}
use Rattle.aig_unroll.proofs.unrolling.numbers.places_of.Goals as goal

pub position_of-position-requires : goal.position_of-position-requires
position_of-position-requires c =
    gate_there c.args.circuit.now c.facts.ensures.sound c.args.order.now c.requires c.loop-place.place
    c.loop-place-test.true

pub overflow_cast-place : goal.overflow_cast-place
overflow_cast-place c =
    let counts = c.facts.ensures.formed.counts in
    omega (
      arith,
      length-order c.args.circuit.now c.facts.ensures.sound c.args.order.now c.requires,
      counts.gates,
      c.loop-place-test.true,
    )

pub index_mut-requires : goal.index_mut-requires
index_mut-requires c =
    let (g, at, is) = c.position_of-position.ensures in
    omega (
      arith,
      slice_get_within c.args.circuit.now.gates c.position_of-position.result g at,
      c.loop-place.invariant.size,
    )

pub loop-place-preserved : goal.loop-place-preserved
loop-place-preserved c =
    places_more c.args.circuit.now c.facts.ensures.sound c.args.order.now c.requires c.loop-place.places.items
    c.loop-place.place c.position_of-position.result c.loop-place-test.true c.position_of-position.ensures
    c.loop-place.invariant
