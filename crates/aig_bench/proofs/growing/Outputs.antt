-- Another literal at an output: nothing but the outputs changes.
use Rattle.std.proofs.Common.{◌≡◌, inl, inr, ℕ, Bool, List, refl, sym, subst}
use Rattle.aig_parts.specs.declared.ternary.Tern.{Tern}
use Rattle.aig_parts.specs.declared.raw.Raw.{Raw}
use Rattle.aig_base.specs.Changes.{with_output}
use Rattle.aig_base.specs.Grounded as grounded
use Rattle.aig_base.specs.Grounded.{IsSource, Level}
use Rattle.aig_base.specs.Levels.{AreLevels}
use Rattle.aig_parts.specs.Literal.{variable}
use Rattle.aig_base.specs.Readers.{AreReaders}
use Rattle.aig_base.specs.Sections.{IsDefined}
use Rattle.aig_base.proofs.growth.Outputs.{with_output-circuit}
use Rattle.aig_bench.specs.declared.engine.driven_circuit.DrivenCircuit.{DrivenCircuit}
use Rattle.aig_bench.specs.declared.engine.fanouts.Fanouts.{Fanouts}
use Rattle.aig_bench.specs.declared.propagate.pending.Pending.{Pending}
use Rattle.aig_bench.specs.state.Current.{IsLaidOut, AreCurrent}
use Rattle.aig_bench.specs.Edit.{set_output}
use Rattle.aig_bench.specs.state.Pending.{IsSettledBench}
use Rattle.aig_bench.specs.state.DrivenCircuit.{IsDriven, pair_of}
use Rattle.aig_bench.specs.Touched.{HasOther, Touches, Changes, AreCells}
use Rattle.aig_bench.proofs.edits.Edited.{lists_for, work_for, working}
use Rattle.aig_bench.proofs.cells.Kept.{HasAll, holds_still, none_other}
use Rattle.aig_bench.proofs.carries.LatchChains.{readers_same}
use Rattle.aig_bench.proofs.renewals.RenewalLemmas.{cells_none}

module _ (raw : Raw) (i l : ℕ) where
  level_was : {v n : ℕ} → Level (with_output raw i l) v n → Level raw v n
  level_was (grounded.Level.source v s) = grounded.Level.source v (source_was v s)
    where
      source_was : (v : ℕ) → IsSource (with_output raw i l) v → IsSource raw v
      source_was v grounded.IsSource.constant = grounded.IsSource.constant
      source_was v (grounded.IsSource.input p l at) = grounded.IsSource.input p l at
      source_was v (grounded.IsSource.latch p x at) = grounded.IsSource.latch p x at
  level_was (grounded.Level.gate q g a b at la lb) = grounded.Level.gate q g a b at (level_was la) (level_was lb)

  same_parts : HasAll raw (with_output raw i l)
  same_parts = record { inputs = refl; latches = refl; gates = λ q g at. at }

module _ (driven : DrivenCircuit) (i l : ℕ) where
  abbrev after : DrivenCircuit
  after = record driven { circuit = with_output driven.circuit i l }

  driven_is : IsDriven driven → IsDefined driven.circuit (variable l) → IsDriven after
  driven_is p d = record {
    circuit = with_output-circuit driven.circuit i l p.circuit d;
    width = p.width;
    widths = p.widths;
    frames = p.frames;
    cells = p.cells;
  }

  laid_out : (flags : List Bool) (cells : List (List Tern)) → IsLaidOut driven flags cells → IsLaidOut after flags cells
  laid_out flags cells h = record {
    flags_are = record { size = h.flags_are.size; gates = h.flags_are.gates; others = h.flags_are.others };
    rows_are = record {
      frames_are = h.rows_are.frames_are;
      widths = h.rows_are.widths;
      constants = h.rows_are.constants;
    };
  }

  current : (n : ℕ) (cells : List (List Tern)) → AreCurrent (pair_of driven) n cells → AreCurrent (pair_of after) n cells
  current n cells h = record {
    each = λ t lt v d. holds_still (pair_of driven) (with_output driven.circuit i l) (same_parts driven.circuit i l) t v _ _
        refl (h.each t lt v d);
  }

  -- a bench with the other output is ready
  pub ready_set : (c : Raw) (fanouts : Fanouts) (pending : Pending) (flags : List Bool) (cells : List (List Tern))
      → c ≡ with_output driven.circuit i l → IsDefined driven.circuit (variable l) → IsSettledBench driven fanouts pending flags cells
      → IsSettledBench (record driven { circuit = c }) fanouts pending flags cells
  ready_set c fanouts pending flags cells e d r =
      let w = r.working.work in
      let p = driven_is w.driven_is d in
      let out = laid_out flags cells w.laid_out in
      let readers : AreReaders (with_output driven.circuit i l) fanouts.readers =
      record { size = w.readers.size; each = w.readers.each; once = w.readers.once } in
      let levels : AreLevels (with_output driven.circuit i l) fanouts.levels =
      record { size = w.levels.size; each = λ v n k. w.levels.each v n (level_was driven.circuit i l k) } in
      subst (λ (x : Raw). IsSettledBench (record driven { circuit = x }) fanouts pending flags cells) (sym e)
      (record {
        working = working after fanouts pending.buckets flags cells
            (work_for driven after fanouts fanouts flags flags cells cells pending.buckets w r.working.empty refl p out levels
            readers refl refl)
            r.working.empty (current _ cells r.working.bench.current);
        lists = lists_for driven after fanouts fanouts pending r.lists refl
            (readers_same driven.circuit (with_output driven.circuit i l) fanouts.latches r.lists.readers refl refl
            (λ p x at. (x, at, refl)) (λ p y at. (y, at, refl)));
        idle = r.idle;
      })

-- no value changes
module _ (driven : DrivenCircuit) (i l : ℕ) (p : IsDriven driven) (d : IsDefined driven.circuit (variable l)) where
  no_other : (t v : ℕ) → HasOther (pair_of driven) (pair_of (after driven i l)) t v → ⊥
  no_other = none_other (pair_of driven) (with_output driven.circuit i l) (same_parts driven.circuit i l)
      (with_output-circuit driven.circuit i l p.circuit d).sound

  pub set_touched : AreCells (Touches (pair_of driven) (set_output i l)) 0
  set_touched = cells_none _ (λ t v k. elim k [
    | inl f ↦ absurd f
    | inr r ↦ elim r.1.4 [ inl o ↦ no_other t _ o | inr o ↦ no_other t _ o ]
  ])

  pub set_changed : AreCells (Changes (pair_of driven) (set_output i l)) 0
  set_changed = cells_none _ (λ t v k. no_other t v k.2)
