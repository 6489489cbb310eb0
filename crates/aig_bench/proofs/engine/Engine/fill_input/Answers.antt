use Rattle.std.proofs.Common.{◌≡◌, ◌∙◌, ◌<◌, ℕ, Some, slice_get, length, ap, sym, subst, arith}
use Rattle.std.proofs.lemmas.Option.{same_Some}
use Rattle.aig_base.specs.Grounded as by
use Rattle.aig_base.proofs.circuits.Circuits.{input_definition}
use Rattle.aig_parts.specs.Literal.{variable}
use Rattle.aig_base.proofs.lists.Items.{item_at}
use Rattle.aig_bench.specs.state.DrivenCircuit.{pair_of}
use Rattle.aig_bench.specs.state.Engine.{EngineState}
use Rattle.aig_bench.specs.state.Filled.{FillsSource}
use Rattle.aig_bench.proofs.cells.Values.{input_value}
use Rattle.aig_bench.proofs.engine.Engine.fill_input.Goals as goal

pub fill_source-requires : goal.fill_source-requires
fill_source-requires g c =
    let p = c.self.inside.driven in
    let l = c.index-inputs-position.result in
    let place : c.args.position < length p.circuit.inputs = rw (← c.self.view_is) at c.requires.position in
    let at : slice_get p.circuit.inputs c.args.position ≡ Some l =
    item_at _ _ c.args.position l c.inputs.ensures (rw c.inputs.ensures place) c.index-inputs-position.is in
    let sound = c.self.invariant.work.driven_is.circuit.sound in
    let definition = input_definition p.circuit sound c.args.position l at in
    let inside : c.args.frame < length p.stimulus.rows = rw (← c.self.view_is) at c.requires.frame in
    rw (c.var.ensures, ← c.self.view_is) (record {
      frame = inside;
      positive = omega arith;
      source = by.IsSource.input c.args.position l at;
      value = input_value (pair_of p) c.args.frame c.args.position l c.get-value.result sound inside at c.get-value.ensures;
    })

pub returns : goal.returns
returns g c l is =
    let s = c.args.self.now in
    let p = c.self.inside.driven in
    let x = c.index-inputs-position.result in
    let place : c.args.position < length p.circuit.inputs = rw (← c.self.view_is) at c.requires.position in
    let at : slice_get s.pair.circuit.inputs c.args.position ≡ Some x =
    subst (λ (e : EngineState). slice_get e.pair.circuit.inputs c.args.position ≡ Some x) c.self.view_is
    (item_at _ _ c.args.position x c.inputs.ensures (rw c.inputs.ensures place) c.index-inputs-position.is) in
    let same : x ≡ l = same_Some x l (sym at ∙ is) in
    subst (λ (v : ℕ). FillsSource c.args.frame v s c.fill_source.new.self) (c.var.ensures ∙ ap variable same) c.fill_source.ensures
