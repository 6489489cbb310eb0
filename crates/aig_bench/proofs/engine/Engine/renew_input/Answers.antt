use Rattle.std.proofs.Common.{◌≡◌, ◌<◌, Some, slice_get, subst, length, arith}
use Rattle.aig_base.specs.Grounded as by
use Rattle.aig_base.specs.Sound.{IsSound}
use Rattle.aig_base.proofs.circuits.Circuits.{input_definition}
use Rattle.aig_base.proofs.lists.Items.{item_at}
use Rattle.aig_bench.specs.state.DrivenCircuit.{pair_of}
use Rattle.aig_bench.specs.state.Engine.{EngineState}
use Rattle.aig_bench.proofs.renewals.Renewing.{before_bit, stale_from_bit, renews_bit}
use Rattle.aig_bench.proofs.cells.Values.{input_value}
use Rattle.aig_bench.proofs.engine.Engine.renew_input.Goals as goal

pub put-requires : goal.put-requires
put-requires g c =
    let p = c.self.inside.driven in
    let l = c.index-inputs-position.result in
    let place : c.args.position < length p.circuit.inputs = rw (← c.self.view_is) at c.requires.position in
    let at : slice_get p.circuit.inputs c.args.position ≡ Some l =
    item_at _ _ c.args.position l c.inputs.ensures (rw c.inputs.ensures place) c.index-inputs-position.is in
    let sound = c.self.invariant.work.driven_is.circuit.sound in
    let definition = input_definition p.circuit sound c.args.position l at in
    let inside : c.args.frame < length p.stimulus.rows = rw (← c.self.view_is) at c.requires.frame in
    rw (c.var.ensures, ← c.self.view_is) (record {
      frame = inside;
      positive = omega arith;
      source = by.IsSource.input c.args.position l at;
      value = input_value (pair_of p) c.args.frame c.args.position l c.get-value.result sound inside at c.get-value.ensures;
    })

pub pass-first-requires : goal.pass-first-requires
pass-first-requires g c =
    let s = c.args.self.now in
    let p = c.self.inside.driven in
    let l = c.index-inputs-position.result in
    let place : c.args.position < length p.circuit.inputs = rw (← c.self.view_is) at c.requires.position in
    let at : slice_get s.pair.circuit.inputs c.args.position ≡ Some l =
    subst (λ (x : EngineState). slice_get x.pair.circuit.inputs c.args.position ≡ Some l) c.self.view_is
    (item_at _ _ c.args.position l c.inputs.ensures (rw c.inputs.ensures place) c.index-inputs-position.is) in
    let sound = subst (λ (x : EngineState). IsSound x.pair.circuit) c.self.view_is c.self.invariant.work.driven_is.circuit.sound in
    record {
      frame = rw c.put.ensures.row.pair c.requires.frame;
      before = before_bit s c.put.new.self sound c.args.frame c.args.position l c.requires.stale c.requires.frame at
          (rw c.var.ensures at c.put.ensures);
    }

pub renew_from-rest-requires : goal.renew_from-rest-requires
renew_from-rest-requires g c =
    let s = c.args.self.now in
    let p = c.self.inside.driven in
    let l = c.index-inputs-position.result in
    let place : c.args.position < length p.circuit.inputs = rw (← c.self.view_is) at c.requires.position in
    let at : slice_get s.pair.circuit.inputs c.args.position ≡ Some l =
    subst (λ (x : EngineState). slice_get x.pair.circuit.inputs c.args.position ≡ Some l) c.self.view_is
    (item_at _ _ c.args.position l c.inputs.ensures (rw c.inputs.ensures place) c.index-inputs-position.is) in
    let sound = subst (λ (x : EngineState). IsSound x.pair.circuit) c.self.view_is c.self.invariant.work.driven_is.circuit.sound in
    rw c.advance.ensures (stale_from_bit s c.put.new.self sound c.args.frame c.args.position l c.requires.stale c.requires.frame at
    (rw c.var.ensures at c.put.ensures) c.pass-first.new.self _ c.pass-first.ensures.passes)

pub returns : goal.returns
returns g c =
    let s = c.args.self.now in
    let p = c.self.inside.driven in
    let l = c.index-inputs-position.result in
    let place : c.args.position < length p.circuit.inputs = rw (← c.self.view_is) at c.requires.position in
    let at : slice_get s.pair.circuit.inputs c.args.position ≡ Some l =
    subst (λ (x : EngineState). slice_get x.pair.circuit.inputs c.args.position ≡ Some l) c.self.view_is
    (item_at _ _ c.args.position l c.inputs.ensures (rw c.inputs.ensures place) c.index-inputs-position.is) in
    let sound = subst (λ (x : EngineState). IsSound x.pair.circuit) c.self.view_is c.self.invariant.work.driven_is.circuit.sound in
    renews_bit s c.put.new.self sound c.args.frame c.args.position l c.requires.stale c.requires.frame at (rw c.var.ensures at c.put.ensures)
    c.pass-first.new.self _ c.pass-first.ensures.passes c.renew_from-rest.new.self _ _
    (rw c.advance.ensures at c.renew_from-rest.ensures.renews) c.total.ensures.evaluated c.total.ensures.changed
