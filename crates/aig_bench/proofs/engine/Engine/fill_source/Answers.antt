use Rattle.std.proofs.Common.{List, ◌<◌, ◌*◌, length, refl, sym, subst, arith}
use Rattle.aig_parts.specs.declared.ternary.Tern.{Tern}
use Rattle.aig_base.specs.Grounded.{IsSource}
use Rattle.aig_base.specs.Value.{start_of}
use Rattle.aig_values.specs.InputRows.{row_at}
use Rattle.aig_values.proofs.Evaluation.{holds_new, renews_write}
use Rattle.aig_bench.specs.BenchState.{HasValue}
use Rattle.aig_bench.specs.state.Current.{HoldsInPair}
use Rattle.aig_bench.specs.state.DrivenCircuit.{pair_of}
use Rattle.aig_bench.specs.state.Engine.{EngineState}
use Rattle.aig_bench.specs.state.Filled.{KeepsRowValues}
use Rattle.aig_bench.proofs.new_frames.Swept.{row_put, source_inside}
use Rattle.aig_bench.proofs.passes.Puts.{no_gate, put_others, put_work}
use Rattle.aig_bench.proofs.engine.Engine.fill_source.Goals as goal

pub put_source-requires-clause-source : goal.put_source-requires-clause-source
put_source-requires-clause-source g c =
    let w = c.self.invariant.work in
    let lt = subst (λ (s : EngineState). c.args.frame < length s.pair.rows) (sym c.self.view_is) c.requires.frame in
    let source = subst (λ (s : EngineState). IsSource s.pair.circuit c.args.variable) (sym c.self.view_is) c.requires.source in
    no_gate _ _ _ _ _ _ _ w lt c.requires.positive source

pub invariant_of-self : goal.invariant_of-self
invariant_of-self g c =
    let w = c.self.invariant.work in
    let lt = subst (λ (s : EngineState). c.args.frame < length s.pair.rows) (sym c.self.view_is) c.requires.frame in
    let source = subst (λ (s : EngineState). IsSource s.pair.circuit c.args.variable) (sym c.self.view_is) c.requires.source in
    record {
      work = put_work _ _ _ _ _ _ _ w lt c.requires.positive source _ _ c.args.value c.put_source.ensures.cells c.put_source.ensures.gates;
      lists = record {
        readers = c.self.invariant.lists.readers;
        here = c.self.invariant.lists.here;
        ahead = c.self.invariant.lists.ahead;
      };
      orders = c.self.invariant.orders;
    }

pub returns : goal.returns
returns g c =
    let w = c.self.invariant.work in
    let lt = subst (λ (s : EngineState). c.args.frame < length s.pair.rows) (sym c.self.view_is) c.requires.frame in
    let source = subst (λ (s : EngineState). IsSource s.pair.circuit c.args.variable) (sym c.self.view_is) c.requires.source in
    let value = subst (λ (s : EngineState). HasValue s.pair c.args.frame (2 * c.args.variable) c.args.value) (sym c.self.view_is) c.requires.value in
    let driven = c.self.inside.driven in
    let old = row_at (g.G.Grid.cells c.self.inside.grid) c.args.frame in
    let wide = source_inside driven _ _ c.args.frame c.args.variable w.driven_is w.laid_out lt source in
    let is = row_put driven _ (g.G.Grid.cells c.self.inside.grid) _ c.args.frame c.args.variable c.args.value w.laid_out lt
    c.put_source.ensures.cells in
    rw (← c.self.view_is) (record {
      row = record {
        same = refl;
        others = put_others _ _ _ _ _ _ _ w lt c.requires.positive source _ c.args.value c.put_source.ensures.cells;
        count = omega (arith, c.put_source.ensures.count);
      };
      keeps = subst (KeepsRowValues (pair_of driven) c.args.frame old) (sym is)
          (renews_write driven.circuit (start_of driven.circuit) driven.stimulus.rows c.args.frame old c.args.variable c.args.value wide value);
      holds = subst (λ (row : List Tern). HoldsInPair (pair_of driven) c.args.frame row c.args.variable) (sym is)
          (holds_new driven.circuit (start_of driven.circuit) driven.stimulus.rows c.args.frame old c.args.variable c.args.value wide value);
    })
