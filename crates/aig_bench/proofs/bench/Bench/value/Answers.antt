use Rattle.std.proofs.Common.{refl, subst, arith, ◌<◌, length}
use Rattle.aig_base.specs.Sections.{IsDefined}
use Rattle.aig_base.specs.Sound.{IsInRange}
use Rattle.aig_parts.specs.Literal.{variable}
use Rattle.aig_values.specs.InputRows.{row_at}
use Rattle.aig_bench.specs.state.DrivenCircuit.{pair_of}
use Rattle.aig_bench.proofs.renewals.Engines.{held}
use Rattle.aig_bench.proofs.edits.Refusals.{value_no_frame, value_allowed}
use Rattle.aig_bench.proofs.cells.Values.{literal_has_value}
use Rattle.aig_bench.proofs.bench.Bench.value.Goals as goal

pub returns-then-frame-frames : goal.returns-then-frame-frames
returns-then-frame-frames g c =
    let driven = c.engine.inside.driven in
    let range : IsInRange driven.circuit c.args.literal =
    omega (arith, c.if-variable-max_var.false, c.max_var.ensures.value, c.var-variable.ensures) in
    let defined : IsDefined driven.circuit (variable c.args.literal) =
    subst (IsDefined driven.circuit) c.var-variable.ensures (c.if-not-is_defined.ensures.0 refl) in
    rw (← c.self.view_is, ← c.engine.view_is)
    (value_no_frame (pair_of driven) c.args.frame c.args.literal range defined
    (omega (arith, c.frames.ensures.frames, c.if-frame-frames.true)))

pub returns : goal.returns
returns g c =
    let k = held c.engine.invariant c.engine.view_is c.self.invariant in
    let driven = c.engine.inside.driven in
    let range : IsInRange driven.circuit c.args.literal =
    omega (arith, c.if-variable-max_var.false, c.max_var.ensures.value, c.var-variable.ensures) in
    let defined : IsDefined driven.circuit (variable c.args.literal) =
    subst (IsDefined driven.circuit) c.var-variable.ensures (c.if-not-is_defined.ensures.0 refl) in
    let there : c.args.frame < length driven.stimulus.rows = omega
    (arith, c.frames.ensures.frames, c.if-frame-frames.false) in
    rw (← c.self.view_is, ← c.engine.view_is, c.literal_at.ensures) (
      value_allowed (pair_of driven) c.args.frame c.args.literal range defined there,
      literal_has_value (pair_of driven) c.args.frame (row_at (g.G.Grid.cells c.engine.inside.grid) c.args.frame)
          c.args.literal
          k.working.bench.driven_is.circuit.sound
          (k.working.bench.current.each c.args.frame there (variable c.args.literal) defined),
    )
