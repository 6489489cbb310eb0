use Rattle.std.proofs.Common.{◌≡◌, ◌∙◌, inr, suc, Some, slice_get, length, [], refl, ap, subst, arith}
use Rattle.std.proofs.lemmas.Option.{slice_get_within}
use Rattle.aig_parts.specs.declared.raw.Raw.{Raw}
use Rattle.aig_bench.specs.Edit.{set_reset}
use Rattle.aig_bench.specs.BenchState.{CircuitAndRows}
use Rattle.aig_bench.specs.state.DrivenCircuit.{pair_of}
use Rattle.aig_bench.proofs.renewals.Engines.{held, settled_renewed}
use Rattle.aig_bench.proofs.renewals.Changed.{driven_restarted, laid_out_restarted, levels_restarted, readers_restarted}
use Rattle.aig_bench.proofs.edits.Edited.{all_latches, all_next, other_start, work_for, none_current, all_consistent}
use Rattle.aig_bench.proofs.edits.Edited.{all_touched, all_changed, follows_reset, forces_none, none_forced}
use Rattle.aig_bench.proofs.carries.LatchChains.{latches_reset, readers_reset}
use Rattle.aig_bench.proofs.edits.Named.{latch_at_named}
use Rattle.aig_bench.proofs.edits.Refusals.{refused, reset_allowed}
use Rattle.aig_bench.proofs.new_frames.GateLists.{orders_reset}
use Rattle.aig_bench.proofs.bench.Bench.set_reset.Goals as goal

pub returns-in_err-position-clause-edits : goal.returns-in_err-position-clause-edits
returns-in_err-position-clause-edits g c =
    rw (← c.self.view_is, ← c.engine.view_is)
    (refused (pair_of c.engine.inside.driven) (set_reset c.args.latch c.args.value) c.from_residual.result
    c.in_err-position.field-0.0 c.from_residual.ensures.1 (c.in_err-position.ensures.fault c.args.value))

pub invariant_of-engine : goal.invariant_of-engine
invariant_of-engine g c =
    let k = held c.engine.invariant c.engine.view_is c.self.invariant in
    let driven = c.engine.inside.driven in
    let w = k.working.work in
    let e = c.replace_reset.ensures in
    let h = k.lists in
    let size = latches_reset driven.circuit _ c.args.latch c.args.value e in
    record {
      work = work_for driven _ c.engine.inside.fanouts c.engine.inside.fanouts _ _ _ _ c.engine.inside.pending.buckets w k.working.empty
          (ap (λ (x : Raw). x.max_var) e)
          (driven_restarted driven _ c.args.latch c.args.value w.driven_is e)
          (laid_out_restarted driven _ c.args.latch c.args.value _ _ w.laid_out e)
          (levels_restarted driven.circuit _ c.args.latch c.args.value _ w.levels e)
          (readers_restarted driven.circuit _ c.args.latch c.args.value _ w.readers e)
          refl (ap (λ (x : Raw). x.gates) e);
      lists = record {
        readers = readers_reset driven.circuit _ c.args.latch c.args.value c.engine.inside.fanouts.latches h.readers e;
        here = rw size (c.add.ensures.list (length driven.circuit.latches) h.here);
        ahead = rw size h.ahead;
      };
      orders = orders_reset driven.circuit c.replace_reset.new.self c.args.latch c.args.value c.engine.inside.order e c.engine.invariant.orders;
    }

pub renew_from-requires : goal.renew_from-requires
renew_from-requires g c =
    let k = held c.engine.invariant c.engine.view_is c.self.invariant in
    let driven = c.engine.inside.driven in
    let w = k.working.work in
    let e = c.replace_reset.ensures in
    let follows = follows_reset driven _ c.args.latch c.args.value e in
    let sound = (driven_restarted driven _ c.args.latch c.args.value w.driven_is e).circuit.sound in
    record {
      queued = k.idle.queued;
      ahead = k.idle.ahead;
      cells = record {
        first_is = omega arith;
        before = λ u e. absurd (omega arith);
        gates = λ v j. absurd (omega (arith, j.1));
        consistent = all_consistent driven (record driven { circuit = c.replace_reset.new.self }) c.engine.inside.fanouts c.engine.inside.pending.buckets _ _ []
            k.working follows sound refl;
        next = all_next driven (record driven { circuit = c.replace_reset.new.self }) c.engine.inside.fanouts c.engine.inside.pending.buckets _ _ []
            k.working follows sound refl;
      };
      carried = all_latches driven (record driven { circuit = c.replace_reset.new.self }) c.engine.inside.fanouts c.engine.inside.pending.buckets _ _ []
          k.working follows sound refl c.add.new.self.marks.items
          (λ i x at out. other_start driven.circuit c.args.latch c.args.value c.in_ok-position.position i x
          w.driven_is.circuit.sound c.in_ok-position.ensures.latch
          (subst (λ (k : Raw). slice_get k.latches i ≡ Some x) e at)
          (λ k. out ((c.add.ensures.adds (suc i)).1 (inr (omega arith)))));
    }

pub replace_reset-requires : goal.replace_reset-requires
replace_reset-requires g c =
    latch_at_named c.engine.inside.driven.circuit c.args.latch c.in_ok-position.position c.in_ok-position.ensures.latch

pub overflow_add-position : goal.overflow_add-position
overflow_add-position g c =
    let k = held c.engine.invariant c.engine.view_is c.self.invariant in
    let (x, at, e) = c.in_ok-position.ensures.latch in
    let inside = slice_get_within c.engine.inside.driven.circuit.latches c.in_ok-position.position x at in
    let few = k.working.work.driven_is.circuit.formed.counts.latches in
    omega arith

pub add-requires-clause-inside : goal.add-requires-clause-inside
add-requires-clause-inside g c =
    let k = held c.engine.invariant c.engine.view_is c.self.invariant in
    let (x, at, e) = c.in_ok-position.ensures.latch in
    let inside = slice_get_within c.engine.inside.driven.circuit.latches c.in_ok-position.position x at in
    let size = k.lists.here.size in
    omega arith

pub invariant_of-self-2 : goal.invariant_of-self-2
invariant_of-self-2 g c =
    settled_renewed _ _ _ c.renew_from.new.self _ (none_current _ _) c.renew_from.ensures.renews

pub returns-clause-works : goal.returns-clause-works
returns-clause-works g c =
    let k = held c.engine.invariant c.engine.view_is c.self.invariant in
    let driven = c.engine.inside.driven in
    let w = k.working.work in
    let e = c.replace_reset.ensures in
    let follows = follows_reset driven _ c.args.latch c.args.value e in
    let sound = (driven_restarted driven _ c.args.latch c.args.value w.driven_is e).circuit.sound in
    let is = ap (λ (x : Raw). let p : CircuitAndRows = record { circuit = x; rows = driven.stimulus.rows } in p) e in
    rw (← c.self.view_is, ← c.engine.view_is) (
      all_touched driven (record driven { circuit = c.replace_reset.new.self }) c.engine.inside.fanouts c.engine.inside.pending.buckets _ _ [] k.working follows sound refl
          (set_reset c.args.latch c.args.value) is (forces_none (pair_of driven) c.args.latch c.args.value)
          (none_forced c.replace_reset.new.self) _ _ _ c.renew_from.ensures.renews.renewed,
      all_changed driven (record driven { circuit = c.replace_reset.new.self }) c.engine.inside.fanouts c.engine.inside.pending.buckets _ _ [] k.working follows sound refl
          (set_reset c.args.latch c.args.value) is (forces_none (pair_of driven) c.args.latch c.args.value)
          (none_forced c.replace_reset.new.self) _ _ _ c.renew_from.ensures.renews.renewed,
      c.renew_from.ensures.renews.count,
    )

pub returns-clause-edits : goal.returns-clause-edits
returns-clause-edits g c =
    let driven = c.engine.inside.driven in
    rw (← c.self.view_is, ← c.engine.view_is) (
      reset_allowed (pair_of driven) c.args.latch c.args.value
          (latch_at_named driven.circuit c.args.latch c.in_ok-position.position c.in_ok-position.ensures.latch),
      c.renew_from.ensures.renews.pair ∙ ap (λ (x : Raw). let p : CircuitAndRows = record { circuit = x; rows = driven.stimulus.rows } in p) c.replace_reset.ensures,
    )
