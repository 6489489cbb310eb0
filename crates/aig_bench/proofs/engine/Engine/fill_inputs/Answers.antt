use Rattle.std.proofs.Common.{◌≡◌, ℕ, Some, slice_get, length, get_or, sym, subst, arith}
use Rattle.std.proofs.lemmas.Option.{slice_get-get_or}
use Rattle.aig_parts.specs.Literal.{variable}
use Rattle.aig_values.specs.InputRows.{row_at}
use Rattle.aig_values.proofs.Evaluation.{items_all, items_more}
use Rattle.aig_bench.specs.BenchState.{CircuitAndRows}
use Rattle.aig_bench.specs.state.Current.{HoldsInPair}
use Rattle.aig_bench.specs.state.Engine.{EngineState}
use Rattle.aig_bench.proofs.new_frames.Filling.{one_more, pair_kept}
use Rattle.aig_bench.proofs.engine.Engine.fill_inputs.Goals as goal

pub loop-position-preserved : goal.loop-position-preserved
loop-position-preserved g c =
    let a = c.args.self.now in
    let b = c.loop-position.self in
    let new = c.fill_input.new.self in
    let t = c.args.frame in
    let n = c.loop-position.position in
    let i = c.loop-position.invariant in
    let xs = a.pair.circuit.inputs in
    let size = subst (λ (s : EngineState). c.self.inside.driven.stimulus.width ≡ length s.pair.circuit.inputs) c.self.view_is
    c.self.invariant.work.driven_is.width in
    let l = get_or xs n 0 in
    let at : slice_get xs n ≡ Some l =
    slice_get-get_or xs n 0 (omega (arith, size, c.loop-position-test.true, c.width-position-end.ensures.width)) in
    let more = one_more t (variable l) a b new i.fills (c.fill_input.ensures l
    (subst (λ (p : CircuitAndRows). slice_get p.circuit.inputs n ≡ Some l) (sym (pair_kept a b i.fills.same)) at)) in
    record {
      fills = more.row;
      inputs = items_more (λ (k : ℕ). HoldsInPair a.pair t (row_at new.cells t) (variable k)) xs n l at
          (λ j k below is. more.keeps.keeps (variable k) (i.inputs j k below is)) more.holds;
    }

pub returns-clause-inputs : goal.returns-clause-inputs
returns-clause-inputs g c =
    let a = c.args.self.now in
    let t = c.args.frame in
    let size = subst (λ (s : EngineState). c.self.inside.driven.stimulus.width ≡ length s.pair.circuit.inputs) c.self.view_is
    c.self.invariant.work.driven_is.width in
    items_all (λ (k : ℕ). HoldsInPair a.pair t (row_at c.loop-position.self.cells t) (variable k)) a.pair.circuit.inputs
    c.loop-position.position (omega (arith, size, c.loop-position-test.false, c.width-position-end.ensures.width))
    c.loop-position.invariant.inputs
