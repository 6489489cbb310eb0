use Rattle.std.proofs.Common.{◌*◌, ◌<◌, length, refl, rules, sym, subst}
use Rattle.aig_base.specs.Grounded.{IsSource}
use Rattle.aig_base.specs.Readers.{ReadsVariable}
use Rattle.aig_bench.specs.BenchState.{HasValue}
use Rattle.aig_bench.specs.state.Engine.{EngineState}
use Rattle.aig_bench.proofs.passes.Puts.{queued_kept, put_moves, put_others, put_next_latches, put_next_latches_none}
use Rattle.aig_bench.proofs.passes.Puts.{in_range, inside_flags, inside_readers, no_gate, put_work, source_readers_fit}
use Rattle.aig_bench.proofs.passes.Puts.{source_linked, queued_put, not_the_value}
use Rattle.aig_bench.proofs.engine.Engine.put.Goals as goal

pub get-before-requires-clause-variable : goal.get-before-requires-clause-variable
get-before-requires-clause-variable g c =
    let w = c.self.invariant.work in
    let lt = subst (λ (s : EngineState). c.args.frame < length s.pair.rows) (sym c.self.view_is) c.requires.frame in
    let source = subst (λ (s : EngineState). IsSource s.pair.circuit c.args.variable) (sym c.self.view_is) c.requires.source in
    inside_flags _ _ _ _ _ _ _ w lt c.requires.positive source

pub put_source-requires-clause-source : goal.put_source-requires-clause-source
put_source-requires-clause-source g c =
    let w = c.self.invariant.work in
    let lt = subst (λ (s : EngineState). c.args.frame < length s.pair.rows) (sym c.self.view_is) c.requires.frame in
    let source = subst (λ (s : EngineState). IsSource s.pair.circuit c.args.variable) (sym c.self.view_is) c.requires.source in
    no_gate _ _ _ _ _ _ _ w lt c.requires.positive source

pub list-readers-requires : goal.list-readers-requires
list-readers-requires g c =
    let w = c.self.invariant.work in
    let lt = subst (λ (s : EngineState). c.args.frame < length s.pair.rows) (sym c.self.view_is) c.requires.frame in
    let source = subst (λ (s : EngineState). IsSource s.pair.circuit c.args.variable) (sym c.self.view_is) c.requires.source in
    inside_readers _ _ _ _ _ _ _ w lt c.requires.positive source

pub link_all-requires : goal.link_all-requires
link_all-requires g c =
    let w = c.self.invariant.work in
    let lt = subst (λ (s : EngineState). c.args.frame < length s.pair.rows) (sym c.self.view_is) c.requires.frame in
    let source = subst (λ (s : EngineState). IsSource s.pair.circuit c.args.variable) (sym c.self.view_is) c.requires.source in
    (c.self.inside.fanouts.levels, w.buckets, source_readers_fit _ _ _ _ _ _ c.list-readers.result.now w c.list-readers.ensures (in_range _ _ _ _ _ _ _ w lt c.requires.positive source))

pub list_all-requires : goal.list_all-requires
list_all-requires g c =
    let w = c.self.invariant.work in
    let lt = subst (λ (s : EngineState). c.args.frame < length s.pair.rows) (sym c.self.view_is) c.requires.frame in
    let source = subst (λ (s : EngineState). IsSource s.pair.circuit c.args.variable) (sym c.self.view_is) c.requires.source in
    (c.self.inside.driven.circuit, c.self.invariant.lists.readers, in_range _ _ _ _ _ _ _ w lt c.requires.positive source, c.self.invariant.lists.ahead)

pub invariant_of-self : goal.invariant_of-self
invariant_of-self g c =
    let w = c.self.invariant.work in
    let lt = subst (λ (s : EngineState). c.args.frame < length s.pair.rows) (sym c.self.view_is) c.requires.frame in
    let source = subst (λ (s : EngineState). IsSource s.pair.circuit c.args.variable) (sym c.self.view_is) c.requires.source in
    let put = put_work _ _ _ _ _ _ _ w lt c.requires.positive source _ _ c.args.value c.put_source.ensures.cells c.put_source.ensures.gates in
    record {
      work = source_linked _ _ _ _ _ _ c.list-readers.result.now put c.list-readers.ensures (in_range _ _ _ _ _ _ _ w lt c.requires.positive source)
          c.link_all.new.self (c.link_all.ensures.buckets _ w.buckets) c.link_all.ensures.links;
      lists = record {
        readers = c.self.invariant.lists.readers;
        here = c.self.invariant.lists.here;
        ahead = c.list_all.ensures.list _ c.self.invariant.lists.ahead;
      };
      orders = c.self.invariant.orders;
    }

pub invariant_of-self-else-ne : goal.invariant_of-self-else-ne
invariant_of-self-else-ne g c =
    let w = c.self.invariant.work in
    let lt = subst (λ (s : EngineState). c.args.frame < length s.pair.rows) (sym c.self.view_is) c.requires.frame in
    let source = subst (λ (s : EngineState). IsSource s.pair.circuit c.args.variable) (sym c.self.view_is) c.requires.source in
    record {
      work = put_work _ _ _ _ _ _ _ w lt c.requires.positive source _ _ c.args.value c.put_source.ensures.cells c.put_source.ensures.gates;
      lists = record {
        readers = c.self.invariant.lists.readers;
        here = c.self.invariant.lists.here;
        ahead = c.self.invariant.lists.ahead;
      };
      orders = c.self.invariant.orders;
    }

pub returns-then-ne : goal.returns-then-ne
returns-then-ne g c =
    let w = c.self.invariant.work in
    let lt = subst (λ (s : EngineState). c.args.frame < length s.pair.rows) (sym c.self.view_is) c.requires.frame in
    let source = subst (λ (s : EngineState). IsSource s.pair.circuit c.args.variable) (sym c.self.view_is) c.requires.source in
    let value = subst (λ (s : EngineState). HasValue s.pair c.args.frame (2 * c.args.variable) c.args.value) (sym c.self.view_is) c.requires.value in
    let ne = not_the_value _ c.get-before.result c.args.value c.get-before.ensures (search rules) in
    let inside = in_range _ _ _ _ _ _ _ w lt c.requires.positive source in
    rw (← c.self.view_is) (record {
      row = record {
        pair = refl;
        levels = refl;
        others = put_others _ _ _ _ _ _ _ w lt c.requires.positive source _ c.args.value c.put_source.ensures.cells;
        next_latches = put_next_latches _ _ _ _ _ _ _ w lt c.requires.positive source _ c.args.value c.put_source.ensures.cells c.self.inside.pending.ahead c.list_all.new.list
            (c.list_all.ensures.lists c.self.inside.driven.circuit c.self.invariant.lists.readers inside);
        evaluations = search rules;
      };
      here = refl;
      puts = put_moves _ _ _ _ _ _ _ w lt c.requires.positive source _ c.args.value c.link_all.new.self c.put_source.ensures.cells value
          (queued_put _ _ _ _ _ _ c.list-readers.result.now w c.list-readers.ensures inside c.link_all.new.self _ ne c.link_all.ensures.links);
    })

pub returns-else-ne : goal.returns-else-ne
returns-else-ne g c =
    let w = c.self.invariant.work in
    let lt = subst (λ (s : EngineState). c.args.frame < length s.pair.rows) (sym c.self.view_is) c.requires.frame in
    let source = subst (λ (s : EngineState). IsSource s.pair.circuit c.args.variable) (sym c.self.view_is) c.requires.source in
    let value = subst (λ (s : EngineState). HasValue s.pair c.args.frame (2 * c.args.variable) c.args.value) (sym c.self.view_is) c.requires.value in
    rw (← c.self.view_is) (record {
      row = record {
        pair = refl;
        levels = refl;
        others = put_others _ _ _ _ _ _ _ w lt c.requires.positive source _ c.args.value c.put_source.ensures.cells;
        next_latches = put_next_latches_none _ _ _ _ _ _ _ w lt c.requires.positive source _ c.args.value c.put_source.ensures.cells c.get-before.result c.get-before.ensures (search rules) _;
        evaluations = search rules;
      };
      here = refl;
      puts = put_moves _ _ _ _ _ _ _ w lt c.requires.positive source _ c.args.value c.self.inside.pending.buckets c.put_source.ensures.cells value
          (queued_kept c.self.inside.pending.buckets (ReadsVariable c.self.inside.driven.circuit) c.args.variable _ c.get-before.result c.args.value
          c.get-before.ensures (search rules));
    })
