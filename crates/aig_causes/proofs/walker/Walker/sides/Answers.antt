use Rattle.std.proofs.Common.{arith}
use Rattle.aig_base.proofs.circuits.Circuits.{rhs0_defined, rhs0_in_range, rhs1_defined, rhs1_in_range}
use Rattle.aig_causes.specs.Causes.{moment}
use Rattle.aig_causes.specs.state.Walk.{IsSide}
use Rattle.aig_causes.proofs.Walks.{reached_sides}
use Rattle.aig_causes.proofs.walker.Walker.sides.Goals as goal

pub value_at-first-requires : goal.value_at-first-requires
value_at-first-requires g c =
    let (q, at) = c.requires.gate in
    record {
      frame = c.requires.walker.frame;
      range = rhs0_in_range c.args.bench.now.pair.circuit c.width.ensures.circuit.sound q c.args.gate at;
    }

pub value_at-second-requires : goal.value_at-second-requires
value_at-second-requires g c =
    let (q, at) = c.requires.gate in
    record {
      frame = c.requires.walker.frame;
      range = rhs1_in_range c.args.bench.now.pair.circuit c.width.ensures.circuit.sound q c.args.gate at;
    }

pub choose-chosen-requires : goal.choose-chosen-requires
choose-chosen-requires g c =
    let (q, at) = c.requires.gate in
    let fits0 = rhs0_in_range c.args.bench.now.pair.circuit c.width.ensures.circuit.sound q c.args.gate at in
    let fits1 = rhs1_in_range c.args.bench.now.pair.circuit c.width.ensures.circuit.sound q c.args.gate at in
    record {
      rhs0 = omega (arith, fits0, c.requires.walker.size);
      rhs1 = omega (arith, fits1, c.requires.walker.size);
      weights = c.requires.walker.walker.weights;
    }

pub returns : goal.returns
returns g c =
    let p = c.args.bench.now.pair in
    let (q, at) = c.requires.gate in
    let gate = c.args.gate in
    reached_sides p.circuit c.width.ensures.circuit.sound (moment p c.args.frame) (IsSide gate c.sides_of.result) gate
    c.value_at-first.result c.value_at-second.result
    (c.value_at-first.ensures (rhs0_defined p.circuit c.width.ensures.circuit.sound q gate at))
    (c.value_at-second.ensures (rhs1_defined p.circuit c.width.ensures.circuit.sound q gate at))
    (c.sides_of.ensures gate)
