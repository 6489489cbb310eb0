use Rattle.std.proofs.Common.{◌∙◌, ◌<◌, length, ap, sym, subst}
use Rattle.aig_values.specs.InputRows.{row_at}
use Rattle.aig_bench.specs.BenchState.{CircuitAndRows}
use Rattle.aig_bench.specs.state.Current.{HoldsInputsInPair, HoldsLatchesInPair, IsCurrentRow}
use Rattle.aig_bench.specs.state.Engine.{EngineState}
use Rattle.aig_bench.proofs.new_frames.Filling.{pair_kept, still_inputs, still_latches}
use Rattle.aig_bench.proofs.new_frames.Swept.{current_swept, laid_out_swept}
use Rattle.aig_bench.proofs.engine.Engine.fill.Goals as goal

pub invariant_of-self : goal.invariant_of-self
invariant_of-self g c =
    let (gates, full, e) = c.sweep.ensures.cells in
    let w = c.self.invariant.work in
    let t = c.args.frame in
    let a = c.args.self.now in
    let b = c.fill_inputs.new.self in
    let d = c.fill_latches.new.self in
    let same = ap (λ (s : EngineState). s.pair) c.self.view_is ∙ pair_kept b d c.fill_latches.ensures.fills.same
    ∙ pair_kept a b c.fill_inputs.ensures.fills.same in
    let lt = subst (λ (p : CircuitAndRows). t < length p.rows) (sym same) c.requires.next.frame in
    record {
      work = record {
        driven_is = w.driven_is;
        laid_out = laid_out_swept c.self.inside.driven _ _ _ _ t gates w.driven_is w.laid_out lt full e c.sweep.ensures.flags;
        levels = w.levels;
        readers = w.readers;
        buckets = w.buckets;
        sides = w.sides;
        size = w.size;
        heads = w.heads;
        gates = w.gates;
      };
      lists = c.self.invariant.lists;
      orders = c.self.invariant.orders;
    }

pub returns-clause-current : goal.returns-clause-current
returns-clause-current g c =
    let (gates, full, e) = c.sweep.ensures.cells in
    let a = c.args.self.now in
    let b = c.fill_inputs.new.self in
    let d = c.fill_latches.new.self in
    let t = c.args.frame in
    let w = c.self.invariant.work in
    let x = c.fill_inputs.ensures in
    let y = c.fill_latches.ensures in
    let same = ap (λ (s : EngineState). s.pair) c.self.view_is ∙ pair_kept b d y.fills.same ∙ pair_kept a b x.fills.same in
    let lt = subst (λ (p : CircuitAndRows). t < length p.rows) (sym same) c.requires.next.frame in
    subst (λ (p : CircuitAndRows). IsCurrentRow p t (row_at (g.G.Grid.cells c.sweep.new.grid) t)) same
    (current_swept c.self.inside.driven _ (g.G.Grid.gate_flags c.sweep.new.grid) _ _ t gates w.driven_is w.laid_out lt full e
    (subst (λ (s : EngineState). HoldsInputsInPair s.pair t (row_at s.cells t)) (sym c.self.view_is)
    (still_inputs t a b d x.fills y.fills y.keeps x.inputs))
    (subst (λ (s : EngineState). HoldsLatchesInPair s.pair t (row_at s.cells t)) (sym c.self.view_is)
    (still_latches t a b d x.fills y.fills y.keeps y.latches)))
