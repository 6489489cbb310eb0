use Rattle.std.proofs.Common.{arith, ◌∙◌, refl, ap, sym, subst, [], ◌∷◌}
use Rattle.aig_bytes.proofs.Results.{known_err}
use Rattle.aig_base.specs.Changes.{with_gate}
use Rattle.aig_bench.specs.declared.engine.driven_circuit.DrivenCircuit.{DrivenCircuit}
use Rattle.aig_bench.specs.Edit.{Edits, rewire}
use Rattle.aig_bench.specs.BenchState.{CircuitAndRows}
use Rattle.aig_bench.specs.state.DrivenCircuit.{pair_of}
use Rattle.aig_bench.specs.state.Engine.{EngineState, IsSettled}
use Rattle.aig_bench.specs.state.Renewed.{IsStaleFrom, RenewsAll}
use Rattle.aig_bench.proofs.renewals.Engines.{held, settled_renewed}
use Rattle.aig_bench.proofs.edits.Edited.{none_current, all_latches, all_next, all_consistent, all_touched, all_changed}
use Rattle.aig_bench.proofs.edits.Edited.{follows_rewire, forces_gate, gate_forced}
use Rattle.aig_bench.proofs.edits.FourReaders.{no_memory}
use Rattle.aig_bench.proofs.edits.Refusals.{lacking, rewire_refused, rewire_allowed}
use Rattle.aig_bench.proofs.edits.Rewired.{driven_rewired}
use Rattle.aig_bench.proofs.bench.Bench.rewire.Goals as goal

pub invariant_of-self-in_err-replace_gate : goal.invariant_of-self-in_err-replace_gate
invariant_of-self-in_err-replace_gate g c =
    subst IsSettled (sym c.in_err-replace_gate.ensures.same) c.self.invariant

pub invariant_of-self-2 : goal.invariant_of-self-2
invariant_of-self-2 g c =
    settled_renewed _ _ _ c.renew_from.new.self _ (none_current _ _) c.renew_from.ensures.renews

pub returns-in_err-replace_gate-clause-edits : goal.returns-in_err-replace_gate-clause-edits
returns-in_err-replace_gate-clause-edits g c =
    let p = pair_of c.engine.inside.driven in
    let h = c.in_err-replace_gate.ensures in
    let same = ap (λ (s : EngineState). s.pair) (rw (← c.engine.view_is) at h.same) in
    let cycle = rw (← c.engine.view_is) at h.cycle in
    rw (← c.self.view_is, ← c.engine.view_is)
    (subst (λ (q : CircuitAndRows). Edits p (rewire c.args.lhs c.args.r0 c.args.r1) c.from_residual-in_err-replace_gate.result q) (sym same)
    (lacking p (rewire c.args.lhs c.args.r0 c.args.r1) c.from_residual-in_err-replace_gate.result
    c.in_err-replace_gate.field-0.0 c.from_residual-in_err-replace_gate.ensures.1
    (rewire_refused p c.args.lhs c.args.r0 c.args.r1 c.in_ok-check_rewire.ensures.gate c.in_ok-check_rewire.ensures.range
    c.in_ok-check_rewire.ensures.defined c.in_err-replace_gate.field-0.0 h.others cycle)))

pub returns-in_err-check_rewire-clause-memory : goal.returns-in_err-check_rewire-clause-memory
returns-in_err-check_rewire-clause-memory g c =
    known_err c.from_residual.result c.in_err-check_rewire.field-0.0 _ c.from_residual.ensures.1
    (λ e. absurd (no_memory (pair_of c.engine.inside.driven) c.args.lhs c.args.r0 c.args.r1 c.in_err-check_rewire.field-0.0
    c.in_err-check_rewire.ensures.fault e))

pub returns-in_err-replace_gate-clause-memory : goal.returns-in_err-replace_gate-clause-memory
returns-in_err-replace_gate-clause-memory g c =
    rw (← c.self.view_is, ← c.engine.view_is)
    (known_err c.from_residual-in_err-replace_gate.result c.in_err-replace_gate.field-0.0 _
    c.from_residual-in_err-replace_gate.ensures.1 (rw (← c.engine.view_is) at c.in_err-replace_gate.ensures.memory))

pub renew_from-requires : goal.renew_from-requires
renew_from-requires g c =
    let k = held c.engine.invariant c.engine.view_is c.self.invariant in
    let driven = c.engine.inside.driven in
    let w = k.working.work in
    let acyclic = rw (← c.engine.view_is) at c.in_ok-replace_gate.ensures.acyclic in
    let rewired = rw (← c.engine.view_is) at c.in_ok-replace_gate.ensures.rewired in
    let d = c.in_ok-check_rewire.ensures.defined in
    let x = c.var.result in
    let new : DrivenCircuit = record driven { circuit = with_gate driven.circuit c.args.lhs c.args.r0 c.args.r1 } in
    let now = driven_rewired driven new c.args.lhs c.args.r0 c.args.r1 w.driven_is refl refl d.0 d.1 acyclic in
    let follows = follows_rewire driven new c.args.lhs c.args.r0 c.args.r1 x c.var.ensures refl refl in
    subst (λ (s : EngineState). IsStaleFrom s (x ∷ []) 0) (sym rewired) (record {
      queued = k.idle.queued;
      ahead = k.idle.ahead;
      cells = record {
        first_is = omega arith;
        before = λ u e. absurd (omega arith);
        gates = λ v j. gate_forced driven.circuit new.circuit c.args.lhs c.args.r0 c.args.r1 x v c.in_ok-check_rewire.ensures.gate
            c.var.ensures refl j;
        consistent = all_consistent driven new c.engine.inside.fanouts c.engine.inside.pending.buckets _ _ (x ∷ []) k.working follows
            now.circuit.sound refl;
        next = all_next driven new c.engine.inside.fanouts c.engine.inside.pending.buckets _ _ (x ∷ []) k.working follows
            now.circuit.sound refl;
      };
      carried = all_latches driven new c.engine.inside.fanouts c.engine.inside.pending.buckets _ _ (x ∷ []) k.working follows
          now.circuit.sound refl c.engine.inside.pending.here.marks.items (λ i l at out. (l, at, refl, refl));
    })

pub returns-clause-edits : goal.returns-clause-edits
returns-clause-edits g c =
    let acyclic = rw (← c.engine.view_is) at c.in_ok-replace_gate.ensures.acyclic in
    let rewired = rw (← c.engine.view_is) at c.in_ok-replace_gate.ensures.rewired in
    rw (← c.self.view_is, ← c.engine.view_is) (
      rewire_allowed (pair_of c.engine.inside.driven) c.args.lhs c.args.r0 c.args.r1 c.in_ok-check_rewire.ensures.gate
          c.in_ok-check_rewire.ensures.range c.in_ok-check_rewire.ensures.defined acyclic,
      c.renew_from.ensures.renews.pair ∙ ap (λ (s : EngineState). s.pair) rewired,
    )

pub returns-clause-works : goal.returns-clause-works
returns-clause-works g c =
    let k = held c.engine.invariant c.engine.view_is c.self.invariant in
    let driven = c.engine.inside.driven in
    let w = k.working.work in
    let acyclic = rw (← c.engine.view_is) at c.in_ok-replace_gate.ensures.acyclic in
    let rewired = rw (← c.engine.view_is) at c.in_ok-replace_gate.ensures.rewired in
    let d = c.in_ok-check_rewire.ensures.defined in
    let x = c.var.result in
    let new : DrivenCircuit = record driven { circuit = with_gate driven.circuit c.args.lhs c.args.r0 c.args.r1 } in
    let now = driven_rewired driven new c.args.lhs c.args.r0 c.args.r1 w.driven_is refl refl d.0 d.1 acyclic in
    let follows = follows_rewire driven new c.args.lhs c.args.r0 c.args.r1 x c.var.ensures refl refl in
    let r = subst (λ (s : EngineState). RenewsAll (x ∷ []) 0 s c.renew_from.new.self c.renew_from.result) rewired
    c.renew_from.ensures.renews in
    rw (← c.self.view_is, ← c.engine.view_is) (
      all_touched driven new c.engine.inside.fanouts c.engine.inside.pending.buckets _ _ (x ∷ []) k.working follows
          now.circuit.sound refl (rewire c.args.lhs c.args.r0 c.args.r1) refl
          (λ t v. forces_gate (pair_of driven) c.args.lhs c.args.r0 c.args.r1 x t v c.var.ensures)
          (λ v j. gate_forced driven.circuit new.circuit c.args.lhs c.args.r0 c.args.r1 x v c.in_ok-check_rewire.ensures.gate
          c.var.ensures refl j) _ _ _ r.renewed,
      all_changed driven new c.engine.inside.fanouts c.engine.inside.pending.buckets _ _ (x ∷ []) k.working follows
          now.circuit.sound refl (rewire c.args.lhs c.args.r0 c.args.r1) refl
          (λ t v. forces_gate (pair_of driven) c.args.lhs c.args.r0 c.args.r1 x t v c.var.ensures)
          (λ v j. gate_forced driven.circuit new.circuit c.args.lhs c.args.r0 c.args.r1 x v c.in_ok-check_rewire.ensures.gate
          c.var.ensures refl j) _ _ _ r.renewed,
      r.count,
    )
