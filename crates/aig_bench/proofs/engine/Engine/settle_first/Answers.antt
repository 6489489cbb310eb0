use Rattle.std.proofs.Common.{◌≡◌, ◌<◌, length, refl, sym, subst, slice_index, arith}
use Rattle.std.proofs.lemmas.Bool.{false≢true}
use Rattle.aig_parts.specs.Literal.{variable}
use Rattle.aig_bench.specs.state.Engine.{EngineState}
use Rattle.aig_bench.proofs.queues.Queued.{queued_count_less}
use Rattle.aig_bench.proofs.passes.SweepSteps.{taken_gate, taken_cells, taken_work, queued_less, was_queued}
use Rattle.aig_bench.proofs.passes.SweepSteps.{queued_no_more, level_is, readers_fit, linked_work, linked_less}
use Rattle.aig_bench.proofs.passes.SweepSteps.{linked_no_more, written_work, sweeps_changed, sweeps_same}
use Rattle.aig_bench.proofs.passes.SweepSteps.{next_latches_changed, next_latches_unchanged, other_rows, taken_in_range}
use Rattle.aig_bench.proofs.passes.SweepSteps.{linked_first, next_first}
use Rattle.aig_bench.proofs.engine.Engine.settle_first.Goals as goal

pub take-taken-requires-clause-level : goal.take-taken-requires-clause-level
take-taken-requires-clause-level g c =
    let w = c.self.invariant.work in
    let size = w.levels.size in
    let heads = w.size in
    let inside = rw (← c.self.view_is) at c.requires.level in
    omega arith

pub take-taken-requires-clause-buckets : goal.take-taken-requires-clause-buckets
take-taken-requires-clause-buckets g c = (c.self.inside.fanouts.levels, c.self.invariant.work.buckets)

pub take-taken-requires-clause-first : goal.take-taken-requires-clause-first
take-taken-requires-clause-first g c =
    subst (λ (s : EngineState). slice_index s.heads c.args.level ≡ c.args.first) (sym c.self.view_is) c.requires.first.is

pub returns-then-changed-clause-next : goal.returns-then-changed-clause-next
returns-then-changed-clause-next g c =
    let w = c.self.invariant.work in
    let gate = c.take-taken.result.gate in
    let takes = c.take-taken.ensures.takes c.self.inside.fanouts.levels w.buckets in
    let (q, at) = taken_gate _ _ _ _ _ c.args.first gate w takes.was_queued c.take-taken.ensures.lhs c.take-taken.ensures.sides in
    let e : variable gate.lhs ≡ c.args.first = omega (arith, c.take-taken.ensures.lhs) in
    let lt = subst (λ (s : EngineState). c.args.frame < length s.pair.rows) (sym c.self.view_is) c.requires.frame in
    linked_first _ _ _ _ _ _ _ _ _ q _ w lt takes at e c.list-readers.result.now c.list-readers.ensures c.link_all.new.self
    (c.link_all.ensures.buckets _ takes.buckets) c.link_all.ensures.links _ c.take-taken.ensures.next

pub returns-else-changed-clause-next : goal.returns-else-changed-clause-next
returns-else-changed-clause-next g c =
    let w = c.self.invariant.work in
    let gate = c.take-taken.result.gate in
    let takes = c.take-taken.ensures.takes c.self.inside.fanouts.levels w.buckets in
    let (q, at) = taken_gate _ _ _ _ _ c.args.first gate w takes.was_queued c.take-taken.ensures.lhs c.take-taken.ensures.sides in
    let e : variable gate.lhs ≡ c.args.first = omega (arith, c.take-taken.ensures.lhs) in
    let lt = subst (λ (s : EngineState). c.args.frame < length s.pair.rows) (sym c.self.view_is) c.requires.frame in
    next_first _ _ _ _ _ _ _ _ _ q _ w lt takes at e _ c.take-taken.ensures.next

pub evaluate-changed-requires-clause-gate : goal.evaluate-changed-requires-clause-gate
evaluate-changed-requires-clause-gate g c =
    let w = c.self.invariant.work in
    let gate = c.take-taken.result.gate in
    let takes = c.take-taken.ensures.takes c.self.inside.fanouts.levels w.buckets in
    let (q, at) = taken_gate _ _ _ _ _ c.args.first gate w takes.was_queued c.take-taken.ensures.lhs c.take-taken.ensures.sides in
    let e : variable gate.lhs ≡ c.args.first = omega (arith, c.take-taken.ensures.lhs) in
    let lt = subst (λ (s : EngineState). c.args.frame < length s.pair.rows) (sym c.self.view_is) c.requires.frame in
    taken_cells _ _ _ _ _ _ _ _ _ q _ w lt takes at e

pub list-readers-requires : goal.list-readers-requires
list-readers-requires g c =
    let w = c.self.invariant.work in
    let gate = c.take-taken.result.gate in
    let takes = c.take-taken.ensures.takes c.self.inside.fanouts.levels w.buckets in
    let (q, at) = taken_gate _ _ _ _ _ c.args.first gate w takes.was_queued c.take-taken.ensures.lhs c.take-taken.ensures.sides in
    let e : variable gate.lhs ≡ c.args.first = omega (arith, c.take-taken.ensures.lhs) in
    let lt = subst (λ (s : EngineState). c.args.frame < length s.pair.rows) (sym c.self.view_is) c.requires.frame in
    omega (arith, taken_in_range _ _ _ _ _ _ _ _ _ q _ w lt takes at e, w.readers.size)

pub link_all-requires : goal.link_all-requires
link_all-requires g c =
    let w = c.self.invariant.work in
    let gate = c.take-taken.result.gate in
    let takes = c.take-taken.ensures.takes c.self.inside.fanouts.levels w.buckets in
    let (q, at) = taken_gate _ _ _ _ _ c.args.first gate w takes.was_queued c.take-taken.ensures.lhs c.take-taken.ensures.sides in
    let e : variable gate.lhs ≡ c.args.first = omega (arith, c.take-taken.ensures.lhs) in
    let lt = subst (λ (s : EngineState). c.args.frame < length s.pair.rows) (sym c.self.view_is) c.requires.frame in
    (c.self.inside.fanouts.levels, takes.buckets, readers_fit _ _ _ _ _ _ _ _ _ q _ w lt takes at e c.list-readers.result.now c.list-readers.ensures)

pub list_all-requires : goal.list_all-requires
list_all-requires g c =
    let w = c.self.invariant.work in
    let gate = c.take-taken.result.gate in
    let takes = c.take-taken.ensures.takes c.self.inside.fanouts.levels w.buckets in
    let (q, at) = taken_gate _ _ _ _ _ c.args.first gate w takes.was_queued c.take-taken.ensures.lhs c.take-taken.ensures.sides in
    let e : variable gate.lhs ≡ c.args.first = omega (arith, c.take-taken.ensures.lhs) in
    let lt = subst (λ (s : EngineState). c.args.frame < length s.pair.rows) (sym c.self.view_is) c.requires.frame in
    (c.self.inside.driven.circuit, c.self.invariant.lists.readers, taken_in_range _ _ _ _ _ _ _ _ _ q _ w lt takes at e, c.self.invariant.lists.ahead)

pub invariant_of-self : goal.invariant_of-self
invariant_of-self g c =
    let w = c.self.invariant.work in
    let gate = c.take-taken.result.gate in
    let takes = c.take-taken.ensures.takes c.self.inside.fanouts.levels w.buckets in
    let (q, at) = taken_gate _ _ _ _ _ c.args.first gate w takes.was_queued c.take-taken.ensures.lhs c.take-taken.ensures.sides in
    let e : variable gate.lhs ≡ c.args.first = omega (arith, c.take-taken.ensures.lhs) in
    let lt = subst (λ (s : EngineState). c.args.frame < length s.pair.rows) (sym c.self.view_is) c.requires.frame in
    record {
      work = written_work _ _ _ _ _ _ _ _ _ q _ w lt takes at e _ c.if-changed.ensures.cells _ c.link_all.new.self c.if-changed.ensures.gates
          (linked_work _ _ _ _ _ _ _ _ _ q _ w lt takes at e c.list-readers.result.now c.list-readers.ensures c.link_all.new.self (c.link_all.ensures.buckets _ takes.buckets) c.link_all.ensures.links);
      lists = record {
        readers = c.self.invariant.lists.readers;
        here = c.self.invariant.lists.here;
        ahead = c.list_all.ensures.list _ c.self.invariant.lists.ahead;
      };
      orders = c.self.invariant.orders;
    }

pub invariant_of-self-else-changed : goal.invariant_of-self-else-changed
invariant_of-self-else-changed g c =
    let w = c.self.invariant.work in
    let gate = c.take-taken.result.gate in
    let takes = c.take-taken.ensures.takes c.self.inside.fanouts.levels w.buckets in
    let (q, at) = taken_gate _ _ _ _ _ c.args.first gate w takes.was_queued c.take-taken.ensures.lhs c.take-taken.ensures.sides in
    let e : variable gate.lhs ≡ c.args.first = omega (arith, c.take-taken.ensures.lhs) in
    let lt = subst (λ (s : EngineState). c.args.frame < length s.pair.rows) (sym c.self.view_is) c.requires.frame in
    record {
      work = written_work _ _ _ _ _ _ _ _ _ q _ w lt takes at e _ c.if-changed.ensures.cells _ c.take-taken.new.self c.if-changed.ensures.gates (taken_work _ _ _ _ _ _ _ _ _ q _ w lt takes at e);
      lists = record {
        readers = c.self.invariant.lists.readers;
        here = c.self.invariant.lists.here;
        ahead = c.self.invariant.lists.ahead;
      };
      orders = c.self.invariant.orders;
    }

pub returns-then-changed-clause-fewer : goal.returns-then-changed-clause-fewer
returns-then-changed-clause-fewer g c =
    let w = c.self.invariant.work in
    let gate = c.take-taken.result.gate in
    let takes = c.take-taken.ensures.takes c.self.inside.fanouts.levels w.buckets in
    let (q, at) = taken_gate _ _ _ _ _ c.args.first gate w takes.was_queued c.take-taken.ensures.lhs c.take-taken.ensures.sides in
    let e : variable gate.lhs ≡ c.args.first = omega (arith, c.take-taken.ensures.lhs) in
    let lt = subst (λ (s : EngineState). c.args.frame < length s.pair.rows) (sym c.self.view_is) c.requires.frame in
    rw (← c.self.view_is)
    (queued_count_less c.self.inside.fanouts.levels c.self.inside.pending.buckets.marks.items c.link_all.new.self.marks.items c.args.level _
    w.buckets.chained.marks_size (linked_less _ _ _ _ _ _ _ _ _ q _ w lt takes at e c.list-readers.result.now c.list-readers.ensures c.link_all.new.self (c.link_all.ensures.buckets _ takes.buckets) c.link_all.ensures.links) (level_is _ _ _ _ _ _ _ _ _ q _ w lt takes at e) (was_queued _ _ _ _ _ _ _ _ _ q _ w lt takes at e) (linked_no_more _ _ _ _ _ _ _ _ _ q _ w lt takes at e c.list-readers.result.now c.list-readers.ensures c.link_all.new.self (c.link_all.ensures.buckets _ takes.buckets) c.link_all.ensures.links))

pub returns-else-changed-clause-fewer : goal.returns-else-changed-clause-fewer
returns-else-changed-clause-fewer g c =
    let w = c.self.invariant.work in
    let gate = c.take-taken.result.gate in
    let takes = c.take-taken.ensures.takes c.self.inside.fanouts.levels w.buckets in
    let (q, at) = taken_gate _ _ _ _ _ c.args.first gate w takes.was_queued c.take-taken.ensures.lhs c.take-taken.ensures.sides in
    let e : variable gate.lhs ≡ c.args.first = omega (arith, c.take-taken.ensures.lhs) in
    let lt = subst (λ (s : EngineState). c.args.frame < length s.pair.rows) (sym c.self.view_is) c.requires.frame in
    rw (← c.self.view_is)
    (queued_count_less c.self.inside.fanouts.levels c.self.inside.pending.buckets.marks.items c.take-taken.new.self.marks.items c.args.level _
    w.buckets.chained.marks_size (λ u stands k. queued_less _ _ _ _ _ _ _ _ _ q _ w lt takes at e u k) (level_is _ _ _ _ _ _ _ _ _ q _ w lt takes at e) (was_queued _ _ _ _ _ _ _ _ _ q _ w lt takes at e) (queued_no_more _ _ _ _ _ _ _ _ _ q _ w lt takes at e))

pub returns-then-changed-clause-settles : goal.returns-then-changed-clause-settles
returns-then-changed-clause-settles g c =
    let w = c.self.invariant.work in
    let gate = c.take-taken.result.gate in
    let takes = c.take-taken.ensures.takes c.self.inside.fanouts.levels w.buckets in
    let (q, at) = taken_gate _ _ _ _ _ c.args.first gate w takes.was_queued c.take-taken.ensures.lhs c.take-taken.ensures.sides in
    let e : variable gate.lhs ≡ c.args.first = omega (arith, c.take-taken.ensures.lhs) in
    let lt = subst (λ (s : EngineState). c.args.frame < length s.pair.rows) (sym c.self.view_is) c.requires.frame in
    rw (← c.self.view_is, c.if-changed.true) (record {
      row = record {
        pair = refl;
        levels = refl;
        others = other_rows _ _ _ _ _ _ _ _ _ q _ w lt takes at e _ c.if-changed.ensures.cells;
        next_latches = next_latches_changed _ _ _ _ _ _ _ _ _ q _ w lt takes at e _ c.if-changed.ensures.cells c.self.inside.pending.ahead c.list_all.new.list (c.list_all.ensures.lists c.self.inside.driven.circuit
            c.self.invariant.lists.readers (taken_in_range _ _ _ _ _ _ _ _ _ q _ w lt takes at e));
        evaluations = c.if-changed.ensures.count;
      };
      here = refl;
      few = omega arith;
      sweeps = sweeps_changed _ _ _ _ _ _ _ _ _ q _ w lt takes at e _ c.if-changed.ensures.cells c.list-readers.result.now c.list-readers.ensures c.link_all.new.self
          c.link_all.ensures.links (c.if-changed.ensures.changed.0 refl);
    })

pub returns-else-changed-clause-settles : goal.returns-else-changed-clause-settles
returns-else-changed-clause-settles g c =
    let w = c.self.invariant.work in
    let gate = c.take-taken.result.gate in
    let takes = c.take-taken.ensures.takes c.self.inside.fanouts.levels w.buckets in
    let (q, at) = taken_gate _ _ _ _ _ c.args.first gate w takes.was_queued c.take-taken.ensures.lhs c.take-taken.ensures.sides in
    let e : variable gate.lhs ≡ c.args.first = omega (arith, c.take-taken.ensures.lhs) in
    let lt = subst (λ (s : EngineState). c.args.frame < length s.pair.rows) (sym c.self.view_is) c.requires.frame in
    rw (← c.self.view_is, c.if-changed.false) (record {
      row = record {
        pair = refl;
        levels = refl;
        others = other_rows _ _ _ _ _ _ _ _ _ q _ w lt takes at e _ c.if-changed.ensures.cells;
        next_latches = next_latches_unchanged _ _ _ _ _ _ _ _ _ q _ w lt takes at e _ c.if-changed.ensures.cells (λ k. false≢true (c.if-changed.ensures.changed.1 k)) _;
        evaluations = c.if-changed.ensures.count;
      };
      here = refl;
      few = omega arith;
      sweeps = sweeps_same _ _ _ _ _ _ _ _ _ q _ w lt takes at e _ c.if-changed.ensures.cells (λ k. false≢true (c.if-changed.ensures.changed.1 k));
    })
