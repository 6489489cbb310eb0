-- Values that become x all at once, and are put back.
use Rattle.std.proofs.Common.{◌≡◌, inl, inr, ℕ, zero, suc, ◌-◌, ◌<◌, ◌≤◌, List, [], ◌∷◌, ◌++◌, length, map, Some}
use Rattle.std.proofs.Common.{slice_get, slice_set, refl, sym, ap, ◌∙◌, subst, arith}
use Rattle.std.proofs.lemmas.Bool.{cases_eq, cases_lt}
use Rattle.std.proofs.lemmas.List.{length-map, length-set}
use Rattle.std.proofs.lemmas.Option.{same_Some}
use Rattle.aig_parts.specs.declared.ternary.Tern.{Tern}
use Rattle.aig_parts.specs.declared.ternary.Tern.TheVariants.{One, X}
use Rattle.aig_parts.specs.declared.latch.Latch.{Latch}
use Rattle.aig_parts.specs.declared.raw.Raw.{Raw}
use Rattle.aig_base.specs.Runs.{Allows}
use Rattle.aig_base.specs.Sound.{IsSound}
use Rattle.aig_base.specs.Value.{Value, reset_value}
use Rattle.aig_base.proofs.values.AllowedStarts.{allows_any}
use Rattle.aig_base.proofs.values.Refined.{AllZip-slice_get}
use Rattle.aig_sim.specs.Verdict.{StartsWrong}
use Rattle.aig_sim.specs.WitnessText.{Witness}
use Rattle.aig_values.specs.InputRows.{row_at, with_cell}
use Rattle.aig_bench.specs.BenchState.{CircuitAndRows}
use Rattle.aig_bench.specs.Edit.{edited, set_bit, set_reset}
use Rattle.aig_bench.proofs.cells.CellLemmas.{frames_written, get_set_other, row_written}
use Rattle.aig_bench.proofs.cells.Earlier.{value_before}
use Rattle.aig_reduce.specs.declared.place.Cleared.{Cleared}
use Rattle.aig_reduce.specs.Irreducible.{IsConfirmedWitness}
use Rattle.aig_reduce.specs.Reduction.{values_of, witness_of}
use Rattle.aig_reduce.specs.state.Looks.{ReachesFrom}
use Rattle.aig_reduce.specs.state.Places.{AreTried, IsBefore, IsPlace, IsUpTo, Undoes}
use Rattle.aig_base.specs.Resets.{IsSameLatch}
use Rattle.aig_reduce.specs.state.Reducing.{Clearing, Confirms, IsRunOf, PutsValue, Reducing, Runs}
use Rattle.aig_reduce.proofs.Irreducibles.{cell_covers, fewer_x, lengths, row_lengths, run_of, run_shaped}
use Rattle.aig_reduce.proofs.Places.{lengths_written, tried_list, tried_more}
use Rattle.aig_base.proofs.values.Resets.{latches_length, other_reset_more, start_restarted}
use Rattle.aig_reduce.proofs.RunLemmas.{confirmed_reaches}
use Rattle.aig_reduce.proofs.Tries.{cell_back, look_confirms, reducing_skips}

-- ---- what is put back

pub place_written : (rows : List (List Tern)) (t p : ℕ) (w : Tern) → IsPlace rows t p → IsPlace (with_cell rows t p w) t p
place_written rows t p w (lt, lt') =
    let e : length (row_at (with_cell rows t p w) t) ≡ length (row_at rows t) =
    ap length (row_written rows t p w lt) ∙ length-set (row_at rows t) p w in
    (omega (arith, lt, frames_written rows t p w), omega (arith, lt', e))

undoes_more : (es : List Cleared) (now next old : List (List Tern)) (e : Cleared) → IsPlace next e.place.list e.place.position
    → now ≡ with_cell next e.place.list e.place.position e.value → Undoes es now old → Undoes (es ++ e ∷ []) next old
unfolding Undoes
undoes_more [] now next old e place is h = (next, refl, place, sym h ∙ is)
undoes_more (x ∷ es) now next old e place is (mid, u, there, same) =
    (mid, undoes_more es now next mid e place is u, there, same)

pub undoes_nothing : (es : List Cleared) (values : List (List Tern)) → es ≡ [] → Undoes es values values
unfolding Undoes
undoes_nothing es values e = subst (λ (x : List Cleared). Undoes x values values) (sym e) refl

pub undoes_none : (es : List Cleared) (now old : List (List Tern)) → es ≡ [] → Undoes es now old → now ≡ old
unfolding Undoes
undoes_none es now old e h = subst (λ (x : List Cleared). Undoes x now old) e h

-- x at one more place
pub undoes_x : (es : List Cleared) (now next old : List (List Tern)) (e : Cleared) → IsPlace now e.place.list e.place.position
    → slice_get (row_at now e.place.list) e.place.position ≡ Some e.value
    → next ≡ with_cell now e.place.list e.place.position X → Undoes es now old → Undoes (es ++ e ∷ []) next old
undoes_x es now next old e place was is h =
    subst (λ (n : List (List Tern)). Undoes (es ++ e ∷ []) n old) (sym is)
    (undoes_more es now (with_cell now e.place.list e.place.position X) old e
    (place_written now e.place.list e.place.position X place)
    (sym (cell_back now e.place.list e.place.position X e.value was)) h)

-- the last one is put back
pub undoes_last : (es : List Cleared) (e : Cleared) (now old : List (List Tern)) → Undoes (es ++ e ∷ []) now old
    → IsPlace now e.place.list e.place.position × Undoes es (with_cell now e.place.list e.place.position e.value) old
unfolding Undoes
undoes_last [] e now old (mid, same, place, is) = (
  subst (λ (n : List (List Tern)). IsPlace n e.place.list e.place.position) (sym same) place,
  ap (λ (n : List (List Tern)). with_cell n e.place.list e.place.position e.value) same ∙ sym is,
)
undoes_last (x ∷ es) e now old (mid, u, there, is) =
    let (place, v) = undoes_last es e now mid u in (place, (mid, v, there, is))

-- ---- places

pub up_to_then : (t p u q v r : ℕ) → IsUpTo t p u q → IsUpTo u q v r → IsUpTo t p v r
up_to_then t p u q v r (inl a) (inl b) = inl (omega (arith, a, b))
up_to_then t p u q v r (inl a) (inr b) = inl (omega (arith, a, b.0))
up_to_then t p u q v r (inr a) (inl b) = inl (omega (arith, a.0, b))
up_to_then t p u q v r (inr a) (inr b) = inr (a.0 ∙ b.0, omega (arith, a.1, b.1))

-- a place that is not before another up to which it goes is that one
pub at_place : (t p u q : ℕ) → IsUpTo t p u q → (IsBefore t p u q → ⊥) → (u ≡ t) × (q ≡ p)
at_place t p u q (inl a) denied = absurd (denied (inl a))
at_place t p u q (inr a) denied = elim (cases_lt p q) [
  | inl lt ↦ absurd (denied (inr (a.0, lt)))
  | inr le ↦ (sym a.0, omega (arith, le, a.1))
]

pub item_there : {A : Type 0} (xs : List A) (p : ℕ) → p < length xs → (x : A) × (slice_get xs p ≡ Some x)
item_there [] p lt = absurd (omega (arith, lt))
item_there (x ∷ xs) zero lt = (x, refl)
item_there (x ∷ xs) (suc p) lt = item_there xs p (omega (arith, lt))

pub place_shaped : (v w : List (List Tern)) (t p : ℕ) → map length v ≡ map length w → IsPlace w t p → IsPlace v t p
place_shaped v w t p e (lt, lt') = (omega (arith, lt, lengths v w e), omega (arith, lt', row_lengths v w t e))

-- the end of a list, where it has no value at a position
pub no_place : (values : List (List Tern)) (t p : ℕ) → t < length values → (IsPlace values t p → ⊥) → length (row_at values t) ≤ p
no_place values t p lt denied = elim (cases_lt p (length (row_at values t))) [
  | inl less ↦ absurd (denied (lt, less))
  | inr le ↦ le
]

-- ---- one value

pub runs_length : (raw : Raw) (pair : CircuitAndRows) (start : List Tern) → Runs raw pair start → length start ≡ length raw.latches
runs_length raw pair start h =
    ap length (sym h.start_is) ∙ length-map pair.circuit.latches (λ (x : Latch). reset_value x.reset)
    ∙ latches_length raw pair.circuit h.resets

pub puts_start : (raw : Raw) (old new : CircuitAndRows) (start start' : List Tern) (i lit : ℕ) (x : Latch) (w : Tern)
    → IsSound old.circuit → Runs raw old start → slice_get raw.latches i ≡ Some x → x.lit ≡ lit
    → new ≡ edited old (set_reset lit w) → start' ≡ slice_set start i w → PutsValue raw old start 0 i w new start'
puts_start raw old new start start' i lit x w sound runs at named e s =
    let (y, here, same) = AllZip-slice_get IsSameLatch raw.latches old.circuit.latches i x runs.resets.latches at in
    let runs' : Runs raw (edited old (set_reset lit w)) (slice_set start i w) = record {
      resets = other_reset_more raw old.circuit lit w runs.resets;
      start_is =
          start_restarted old.circuit sound lit w i y here (same.0 ∙ named) ∙ ap (λ (s : List Tern). slice_set s i w) runs.start_is;
    } in
    record {
      runs =
          subst (λ (p : CircuitAndRows). Runs raw p start') (sym e)
          (subst (λ (s : List Tern). Runs raw (edited old (set_reset lit w)) s) (sym s) runs');
      values =
          ap (λ (s : List Tern). s ∷ new.rows) s
          ∙ ap (λ (p : CircuitAndRows). slice_set start i w ∷ p.rows) e;
    }

pub puts_input : (raw : Raw) (old new : CircuitAndRows) (start start' : List Tern) (t u p : ℕ) (w : Tern) → Runs raw old start
    → new ≡ edited old (set_bit u p w) → start' ≡ start → t ≡ suc u → PutsValue raw old start t p w new start'
puts_input raw old new start start' t u p w runs e s is =
    subst (λ (n : ℕ). PutsValue raw old start n p w new start') (sym is)
    (record {
      runs =
          subst (λ (p : CircuitAndRows). Runs raw p start') (sym e)
          (subst (λ (s : List Tern). Runs raw (edited old (set_bit u p w)) s) (sym s)
          (record { resets = runs.resets; start_is = runs.start_is }));
      values =
          ap (λ (s : List Tern). s ∷ new.rows) s ∙ ap (λ (p : CircuitAndRows). start ∷ p.rows) e;
    })

-- ---- values that become x all at once

module _ (raw : Raw) (given : Witness) (property : ℕ) where
  pub clearing_begins : (pair : CircuitAndRows) (start : List Tern) (t p : ℕ) → Reducing raw given pair property start t p
      → Clearing raw given pair property start (t - 1) t p
  clearing_begins pair start t p h =
      let w = witness_of property (start ∷ pair.rows) in
      let run = run_of raw w h.runs.confirmed in
      let r = confirmed_reaches raw h.runs.circuit w run h.runs.confirmed.verdict in
      record {
        circuit = h.runs.circuit;
        runs = record { resets = h.runs.resets; start_is = h.runs.start_is };
        run = run;
        property_is = h.property_is;
        starts = r.starts;
        from = omega arith;
        constrained = λ u i l less lt at. r.constrained u i l lt at;
        tried = λ c. h.tried;
      }

  pub clearing_ends : (pair : CircuitAndRows) (start : List Tern) (first t p : ℕ)
      → Clearing raw given pair property start first t p → Confirms raw property (start ∷ pair.rows)
      → Reducing raw given pair property start t p
  clearing_ends pair start first t p h c = record {
    runs = record {
      circuit = h.circuit;
      resets = h.runs.resets;
      start_is = h.runs.start_is;
      confirmed = record {
        latches = h.run.latches;
        widths = h.run.widths;
        some = h.run.some;
        property = h.run.property;
        verdict = c;
      };
    };
    property_is = h.property_is;
    tried = h.tried c;
  }

  -- the run is confirmed by a look
  pub clearing_confirmed : (pair : CircuitAndRows) (start : List Tern) (first t p : ℕ)
      → Clearing raw given pair property start first t p → ReachesFrom pair property first
      → Reducing raw given pair property start t p
  clearing_confirmed pair start first t p h looks =
      clearing_ends pair start first t p h
      (look_confirms raw pair start h.runs h.circuit property h.run first h.starts
      (λ u i l less lt at. h.constrained u i l less lt at) looks)

  pub clearing_list : (pair : CircuitAndRows) (start : List Tern) (first t p : ℕ) → length (row_at (start ∷ pair.rows) t) ≤ p
      → Clearing raw given pair property start first t p → Clearing raw given pair property start first (suc t) 0
  clearing_list pair start first t p all h = record {
    circuit = h.circuit;
    runs = h.runs;
    run = h.run;
    property_is = h.property_is;
    starts = h.starts;
    from = omega (arith, h.from);
    constrained = h.constrained;
    tried = λ c. tried_list (Confirms raw property) (values_of given) (start ∷ pair.rows) t p all (h.tried c);
  }

  pub clearing_fixed : (pair : CircuitAndRows) (start : List Tern) (first p : ℕ) (x : Latch) → p < length start
      → slice_get raw.latches p ≡ Some x → (1 < x.reset → ⊥) → Clearing raw given pair property start first 0 p
      → Clearing raw given pair property start first 0 (suc p)
  clearing_fixed pair start first p x lt at fixed h = record {
    circuit = h.circuit;
    runs = h.runs;
    run = h.run;
    property_is = h.property_is;
    starts = h.starts;
    from = h.from;
    constrained = h.constrained;
    tried = λ c. (reducing_skips raw given pair property start p x lt at fixed (clearing_ends pair start first 0 p h c)).tried;
  }

  module _ (pair : CircuitAndRows) (start : List Tern) (first t p : ℕ) (place : IsPlace (start ∷ pair.rows) t p)
      (h : Clearing raw given pair property start first t p) (new : CircuitAndRows) (start' : List Tern)
      (puts : PutsValue raw pair start t p X new start') where
    run_then : IsRunOf raw (witness_of property (start' ∷ new.rows))
    run_then =
        subst (λ (values : List (List Tern)). IsRunOf raw (witness_of property values)) (sym puts.values)
        (run_shaped raw property (with_cell (start ∷ pair.rows) t p X) (start ∷ pair.rows)
        (lengths_written (start ∷ pair.rows) t p X) h.run)

    tried_then : Confirms raw property (start' ∷ new.rows)
        → AreTried (Confirms raw property) (values_of given) (start' ∷ new.rows) t (suc p)
    tried_then c =
        let c' : Confirms raw property (with_cell (start ∷ pair.rows) t p X) = subst (Confirms raw property) puts.values c in
        tried_more (Confirms raw property) (values_of given) (start ∷ pair.rows) t p place.0 place.1
        (h.tried (fewer_x raw property (with_cell (start ∷ pair.rows) t p X) (start ∷ pair.rows) h.circuit h.run
        (cell_covers (start ∷ pair.rows) t p) c'))
        (start' ∷ new.rows) (inl (c', puts.values))

  starts_then : (pair : CircuitAndRows) (start : List Tern) (first p : ℕ) (x : Latch) → slice_get raw.latches p ≡ Some x
      → 1 < x.reset → Clearing raw given pair property start first 0 p → (i : ℕ) → StartsWrong raw (slice_set start p X) i → ⊥
  starts_then pair start first p x at free h i k = elim (cases_eq i p) [
    | inl e ↦
        let there : slice_get raw.latches p ≡ Some k.latch = ap (slice_get raw.latches) (sym e) ∙ k.latch_is in
        let same : k.latch ≡ x = same_Some k.latch x (sym there ∙ at) in
        k.wrong (subst (λ (y : Latch). Allows y k.value) (sym same) (allows_any raw h.circuit.sound p x at k.value free))
    | inr ne ↦ h.starts i (record {
      latch = k.latch;
      value = k.value;
      latch_is = k.latch_is;
      value_is = sym (get_set_other start p i X ne) ∙ k.value_is;
      wrong = k.wrong;
    })
  ]

  constrained_then : (pair : CircuitAndRows) (start : List Tern) (first f p : ℕ) → first ≤ f
      → ((u i l : ℕ) → u < first → u < length pair.rows → slice_get raw.constraints i ≡ Some l → Value raw start pair.rows u l One)
      → (u i l : ℕ) → u < first → u < length (with_cell pair.rows f p X) → slice_get raw.constraints i ≡ Some l
      → Value raw start (with_cell pair.rows f p X) u l One
  constrained_then pair start first f p from h u i l less lt at =
      value_before raw start pair.rows (with_cell pair.rows f p X) first
      (λ k below. get_set_other pair.rows f k _ (λ e. absurd (omega (arith, below, from, e)))) less
      (h u i l less (omega (arith, lt, frames_written pair.rows f p X)) at)

  -- x at one more place
  pub clearing_x : (pair : CircuitAndRows) (start : List Tern) (first t p : ℕ) → IsPlace (start ∷ pair.rows) t p
      → (t ≡ 0 → (x : Latch) × (slice_get raw.latches p ≡ Some x) × (1 < x.reset))
      → Clearing raw given pair property start first t p → (new : CircuitAndRows) (start' : List Tern)
      → PutsValue raw pair start t p X new start' → Clearing raw given new property start' first t (suc p)
  clearing_x pair start first zero p place free h new start' puts =
      let (x, at, over) = free refl in
      let values : start' ∷ new.rows ≡ slice_set start p X ∷ pair.rows = puts.values in
      let s : start' ≡ slice_set start p X = cc in
      record {
        circuit = h.circuit;
        runs = puts.runs;
        run = run_then pair start first zero p place h new start' puts;
        property_is = h.property_is;
        starts = λ i k.
            starts_then pair start first p x at over h i (subst (λ (v : List Tern). StartsWrong raw v i) s k);
        from = h.from;
        constrained = λ u i l less lt there. absurd (omega (arith, less, h.from));
        tried = tried_then pair start first zero p place h new start' puts;
      }
  clearing_x pair start first (suc f) p place free h new start' puts =
      let values : start' ∷ new.rows ≡ start ∷ with_cell pair.rows f p X = puts.values in
      let s : start' ≡ start = cc in
      let r : new.rows ≡ with_cell pair.rows f p X = cc in
      let below : first ≤ f = omega (arith, h.from) in
      record {
        circuit = h.circuit;
        runs = puts.runs;
        run = run_then pair start first (suc f) p place h new start' puts;
        property_is = h.property_is;
        starts = λ i k. h.starts i (subst (λ (v : List Tern). StartsWrong raw v i) s k);
        from = h.from;
        constrained = λ u i l less lt there.
            subst (λ (v : List Tern). Value raw v new.rows u l One) (sym s)
            (subst (λ (rows : List (List Tern)). Value raw start rows u l One) (sym r)
            (constrained_then pair start first f p below h.constrained u i l less
            (omega (arith, lt, ap length r)) there));
        tried = tried_then pair start first (suc f) p place h new start' puts;
      }

  -- all values are put back
  pub taken_back : (old : CircuitAndRows) (start : List Tern) (t p : ℕ) → Reducing raw given old property start t p
      → (new : CircuitAndRows) (start' : List Tern) → Runs raw new start' → start' ∷ new.rows ≡ start ∷ old.rows
      → Reducing raw given new property start' t p
  taken_back old start t p h new start' runs e = record {
    runs = record {
      circuit = h.runs.circuit;
      resets = runs.resets;
      start_is = runs.start_is;
      confirmed =
          subst (λ (values : List (List Tern)). IsConfirmedWitness raw (witness_of property values)) (sym e) h.runs.confirmed;
    };
    property_is = h.property_is;
    tried =
        subst (λ (values : List (List Tern)). AreTried (Confirms raw property) (values_of given) values t p) (sym e) h.tried;
  }

-- what holds at a position holds at it where it is named otherwise
pub clearing_named : (raw : Raw) (given : Witness) (pair : CircuitAndRows) (n m : ℕ) (start : List Tern) (first t p : ℕ)
    → n ≡ m → Clearing raw given pair m start first t p → Clearing raw given pair n start first t p
clearing_named raw given pair n m start first t p e h =
    subst (λ (k : ℕ). Clearing raw given pair k start first t p) (sym e) h

pub reducing_named : (raw : Raw) (given : Witness) (pair : CircuitAndRows) (n m : ℕ) (start : List Tern) (t p : ℕ)
    → n ≡ m → Reducing raw given pair m start t p → Reducing raw given pair n start t p
reducing_named raw given pair n m start t p e h =
    subst (λ (k : ℕ). Reducing raw given pair k start t p) (sym e) h

-- the same place by other names
pub reducing_at : (raw : Raw) (given : Witness) (pair : CircuitAndRows) (property : ℕ) (start : List Tern) (t p u q : ℕ)
    → u ≡ t → q ≡ p → Reducing raw given pair property start u q → Reducing raw given pair property start t p
reducing_at raw given pair property start t p u q e f h =
    subst (λ (n : ℕ). Reducing raw given pair property start n p) e
    (subst (λ (n : ℕ). Reducing raw given pair property start u n) f h)

pub clearing_at : (raw : Raw) (given : Witness) (pair : CircuitAndRows) (property : ℕ) (start : List Tern) (first t p u q : ℕ)
    → u ≡ t → q ≡ p → Clearing raw given pair property start first u q → Clearing raw given pair property start first t p
clearing_at raw given pair property start first t p u q e f h =
    subst (λ (n : ℕ). Clearing raw given pair property start first n p) e
    (subst (λ (n : ℕ). Clearing raw given pair property start first u n) f h)

-- a start is at a place of the first list
pub start_within : (start : List Tern) (rows : List (List Tern)) (t p : ℕ) → t ≡ 0 → IsPlace (start ∷ rows) t p → p < length start
start_within start rows t p e place = subst (λ (n : ℕ). p < length (row_at (start ∷ rows) n)) e place.1
