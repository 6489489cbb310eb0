use Rattle.std.proofs.Common.{◌≡◌, ◌-◌, suc, arith}
use Rattle.aig_base.proofs.circuits.Circuits.{latch_definition, next_in_range}
use Rattle.aig_bench.specs.state.DrivenCircuit.{pair_of}
use Rattle.aig_bench.proofs.cells.Values.{latch_follows, latch_starts, latch_value}
use Rattle.aig_bench.proofs.engine.Engine.latch_value.Goals as goal

pub literal_at-requires-clause-variable : goal.literal_at-requires-clause-variable
literal_at-requires-clause-variable g c =
    let (i, at) = rw (← c.self.view_is) at c.requires.latch in
    let w = c.self.invariant.work in
    omega (arith, next_in_range c.self.inside.driven.circuit w.driven_is.circuit.sound i c.args.latch at, w.laid_out.flags_are.size)

pub returns-then-frame-eq0-clause-value : goal.returns-then-frame-eq0-clause-value
returns-then-frame-eq0-clause-value g c =
    let (i, at) = rw (← c.self.view_is) at c.requires.latch in
    let p = pair_of c.self.inside.driven in
    rw (← c.self.view_is, c.if-frame-eq0.true)
    (latch_value p 0 i c.args.latch c.first_value.result c.self.invariant.work.driven_is.circuit.sound at
    (rw c.first_value.ensures (latch_starts p i c.args.latch at)))

pub returns-else-frame-eq0-clause-value : goal.returns-else-frame-eq0-clause-value
returns-else-frame-eq0-clause-value g c =
    let (i, at) = rw (← c.self.view_is) at c.requires.latch in
    let before = rw (← c.self.view_is) at c.requires.next.before in
    let p = pair_of c.self.inside.driven in
    let sound = c.self.invariant.work.driven_is.circuit.sound in
    let e : c.args.frame ≡ suc (c.args.frame - 1) = omega (arith, c.if-frame-eq0.false) in
    rw (← c.self.view_is)
    (latch_value p c.args.frame i c.args.latch c.literal_at.result sound at
    (rw c.literal_at.ensures (latch_follows p c.args.frame (c.args.frame - 1) i c.args.latch _ sound e at (before (c.args.frame - 1) e))))

pub returns-then-frame-eq0-clause-positive : goal.returns-then-frame-eq0-clause-positive
returns-then-frame-eq0-clause-positive g c =
    let (i, at) = rw (← c.self.view_is) at c.requires.latch in
    let definition = latch_definition c.self.inside.driven.circuit c.self.invariant.work.driven_is.circuit.sound i c.args.latch at in
    omega arith

pub returns-else-frame-eq0-clause-positive : goal.returns-else-frame-eq0-clause-positive
returns-else-frame-eq0-clause-positive g c =
    let (i, at) = rw (← c.self.view_is) at c.requires.latch in
    let definition = latch_definition c.self.inside.driven.circuit c.self.invariant.work.driven_is.circuit.sound i c.args.latch at in
    omega arith
