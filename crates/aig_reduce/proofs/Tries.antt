-- A value is tried: the bench looks at the run from the frame that the edit changes.
use Rattle.std.proofs.Common.{◌≡◌, inl, inr, ℕ, zero, suc, ◌<◌, ◌≤◌, List, [], ◌∷◌, length, map, Some, slice_get}
use Rattle.std.proofs.Common.{slice_set, refl, sym, ap, ◌∙◌, subst, arith}
use Rattle.std.proofs.lemmas.Bool.{cases_eq, cases_lt}
use Rattle.std.proofs.lemmas.List.{length-map, length-set}
use Rattle.std.proofs.lemmas.Option.{same_Some}
use Rattle.aig_parts.specs.declared.ternary.Tern.{Tern}
use Rattle.aig_parts.specs.declared.ternary.Tern.TheVariants.{One, X}
use Rattle.aig_parts.specs.declared.latch.Latch.{Latch}
use Rattle.aig_parts.specs.declared.raw.Raw.{Raw}
use Rattle.aig_base.specs.Changes.{with_reset}
use Rattle.aig_base.specs.Circuit.{IsCircuit}
use Rattle.aig_base.specs.Runs.{Allows}
use Rattle.aig_base.specs.Sound.{IsSound}
use Rattle.aig_base.specs.Value.{Value}
use Rattle.aig_base.proofs.values.AllowedStarts.{allows_any, forbids_x}
use Rattle.aig_base.proofs.values.Refined.{AllZip-slice_get}
use Rattle.aig_sim.specs.declared.witness.verdict.Verdict.TheVariants as verdict
use Rattle.aig_sim.specs.Verdict.{StartsWrong, IsVerdict}
use Rattle.aig_sim.specs.WitnessText.{Witness}
use Rattle.aig_values.specs.InputRows.{row_at, with_cell}
use Rattle.aig_base.specs.Sections.{IsLatchLiteral}
use Rattle.aig_bench.specs.BenchState.{CircuitAndRows, HasValue}
use Rattle.aig_bench.specs.Edit.{edited, set_bit, set_reset}
use Rattle.aig_bench.proofs.cells.CellLemmas.{get_set_other, get_set_same, frames_written}
use Rattle.aig_bench.proofs.cells.Earlier.{value_before}
use Rattle.aig_bench.proofs.edits.Named.{latch_at_named}
use Rattle.aig_reduce.specs.Irreducible.{IsConfirmedWitness}
use Rattle.aig_reduce.specs.Reduction.{values_of, witness_of, with_x_between, IsKept, IsReduced}
use Rattle.aig_reduce.specs.state.Looks.{ReachesFrom}
use Rattle.aig_reduce.specs.state.Places.{AreTried}
use Rattle.aig_base.specs.Resets.{IsSameLatch, HasOtherResets}
use Rattle.aig_reduce.specs.state.Reducing.{Runs, IsRunOf, RunsWitness, Confirms, Reducing, TriesPlace}
use Rattle.aig_reduce.proofs.Irreducibles.{run_of, run_shaped}
use Rattle.aig_reduce.proofs.Places.{lengths_written, tried_none, tried_more, tried_list, tried_all}
use Rattle.aig_base.proofs.values.Resets.{other_resets_back, other_reset_more, value_with, start_restarted}
use Rattle.aig_reduce.proofs.RunLemmas.{Reaches, confirmed_reaches, reaches_confirmed}

module _ (raw : Raw) (pair : CircuitAndRows) (start : List Tern) (h : Runs raw pair start) where
  -- the values of the pair are those of the run
  pub shown : {t l : ℕ} {w : Tern} → HasValue pair t l w → Value raw start pair.rows t l w
  shown {t} {l} {w} v =
      value_with pair.circuit raw (other_resets_back raw pair.circuit h.resets) start pair.rows
      (subst (λ (s : List Tern). Value pair.circuit s pair.rows t l w) h.start_is v)

  pub shows : {t l : ℕ} {w : Tern} → Value raw start pair.rows t l w → HasValue pair t l w
  shows {t} {l} {w} v =
      subst (λ (s : List Tern). Value pair.circuit s pair.rows t l w) (sym h.start_is)
      (value_with raw pair.circuit h.resets start pair.rows v)

  module _ (circuit : IsCircuit raw) (property : ℕ) (run : IsRunOf raw (witness_of property (start ∷ pair.rows))) where
    abbrev w : Witness
    w = witness_of property (start ∷ pair.rows)

    -- what a look from frame t on shows, where all constraints are 1 before it
    pub look_confirms : (t : ℕ) → ((p : ℕ) → StartsWrong raw start p → ⊥)
        → ((u p l : ℕ) → u < t → u < length pair.rows → slice_get raw.constraints p ≡ Some l → Value raw start pair.rows u l One)
        → ReachesFrom pair property t → IsVerdict raw w verdict.Confirmed
    look_confirms t starts before looks = reaches_confirmed raw circuit w run (record {
      starts = starts;
      constrained = λ u p l lt at. elim (cases_lt u t) [
        | inl below ↦ before u p l below lt at
        | inr from ↦ shown (looks.constrained u from lt p l (ap (λ (ls : List ℕ). slice_get ls p) h.resets.constraints ∙ at))
      ];
      bad = λ l at. shown (looks.bad l (ap (λ (ls : List ℕ). slice_get ls property) h.resets.bad ∙ at));
    })

    pub look_confirmed : (t : ℕ) → IsVerdict raw w verdict.Confirmed → ReachesFrom pair property t
    look_confirmed t k =
        let r = confirmed_reaches raw circuit w run k in
        record {
          constrained = λ u from lt p l at.
              shows (r.constrained u p l lt (ap (λ (ls : List ℕ). slice_get ls p) (sym h.resets.constraints) ∙ at));
          bad = λ l at. shows (r.bad l (ap (λ (ls : List ℕ). slice_get ls property) (sym h.resets.bad) ∙ at));
        }

-- ---- what is taken back

pub set_back : {A : Type 0} (xs : List A) (i : ℕ) (x a : A) → slice_get xs i ≡ Some a → slice_set (slice_set xs i x) i a ≡ xs
set_back [] i x a at = let no : ⊥ = cc in absurd no
set_back (y ∷ xs) zero x a at = ap (λ (z : _). z ∷ xs) (sym (same_Some y a at))
set_back (y ∷ xs) (suc i) x a at = ap (λ (zs : List _). y ∷ zs) (set_back xs i x a at)

pub cell_back : (rows : List (List Tern)) (t p : ℕ) (x a : Tern) → slice_get (row_at rows t) p ≡ Some a
    → with_cell (with_cell rows t p x) t p a ≡ rows
cell_back [] zero p x a at = let no : ⊥ = cc in absurd no
cell_back [] (suc t) p x a at = let no : ⊥ = cc in absurd no
cell_back (row ∷ rows) zero p x a at = ap (λ (r : List Tern). r ∷ rows) (set_back row p x a at)
cell_back (row ∷ rows) (suc t) p x a at = ap (λ (rs : List (List Tern)). row ∷ rs) (cell_back rows t p x a at)

-- ---- an input

module _ (raw : Raw) (old : CircuitAndRows) (property : ℕ) (start : List Tern) (h : RunsWitness raw old property start) where
  run_old : IsRunOf raw (witness_of property (start ∷ old.rows))
  run_old = run_of raw (witness_of property (start ∷ old.rows)) h.confirmed

  reaches_old : Reaches raw (witness_of property (start ∷ old.rows))
  reaches_old = confirmed_reaches raw h.circuit (witness_of property (start ∷ old.rows)) run_old h.confirmed.verdict

  -- a run with the values of a shape like the old one, with its verdict
  confirmed_as : (values : List (List Tern)) → map length values ≡ map length (start ∷ old.rows)
      → IsVerdict raw (witness_of property values) verdict.Confirmed → IsConfirmedWitness raw (witness_of property values)
  confirmed_as values e v =
      let r = run_shaped raw property values (start ∷ old.rows) e run_old in
      record { latches = r.latches; widths = r.widths; some = r.some; property = r.property; verdict = v }

  module _ (t p : ℕ) where
    abbrev with_input : CircuitAndRows
    with_input = record old { rows = with_cell old.rows t p X }

    input_shape : map length (start ∷ with_cell old.rows t p X) ≡ map length (start ∷ old.rows)
    input_shape = ap (λ (ns : List ℕ). length start ∷ ns) (lengths_written old.rows t p X)

    input_run : IsRunOf raw (witness_of property (start ∷ with_cell old.rows t p X))
    input_run = run_shaped raw property (start ∷ with_cell old.rows t p X) (start ∷ old.rows) input_shape run_old

    input_runs : Runs raw with_input start
    input_runs = record { resets = h.resets; start_is = h.start_is }

    frames_same : length (with_cell old.rows t p X) ≡ length old.rows
    frames_same = frames_written old.rows t p X

    pub input_stays : ReachesFrom with_input property t → TriesPlace raw old property start with_input property start (suc t) p
    input_stays looks =
        let v = look_confirms raw with_input start input_runs h.circuit property input_run t reaches_old.starts
        (λ u q l below lt at.
        value_before raw start old.rows (with_cell old.rows t p X) t
        (λ k less. get_set_other old.rows t k _ (λ e. absurd (omega arith))) below
        (reaches_old.constrained u q l (omega (arith, lt, frames_same)) at))
        looks in
        record {
          runs = record {
            circuit = h.circuit;
            resets = h.resets;
            start_is = h.start_is;
            confirmed = confirmed_as (start ∷ with_cell old.rows t p X) input_shape v;
          };
          property_is = refl;
          tries = inl (v, refl);
        }

    pub input_back : (ReachesFrom with_input property t → ⊥) → TriesPlace raw old property start old property start (suc t) p
    input_back denied = record {
      runs = h;
      property_is = refl;
      tries = inr (λ c. denied (look_confirmed raw with_input start input_runs h.circuit property input_run t c), refl);
    }

  -- ---- a start

  module _ (sound : IsSound old.circuit) (i lit : ℕ) (x : Latch) (at : slice_get raw.latches i ≡ Some x) (named : x.lit ≡ lit)
      (free : 1 < x.reset) where
    restarts : (pair : CircuitAndRows) (begins : List Tern) → IsSound pair.circuit → Runs raw pair begins → (w : Tern)
        → Runs raw (record pair { circuit = with_reset pair.circuit lit w }) (slice_set begins i w)
    restarts pair begins s runs w =
        let (y, here, same) = AllZip-slice_get IsSameLatch raw.latches pair.circuit.latches i x runs.resets.latches at in
        record {
          resets = other_reset_more raw pair.circuit lit w runs.resets;
          start_is =
              start_restarted pair.circuit s lit w i y here (same.0 ∙ named)
              ∙ ap (λ (s : List Tern). slice_set s i w) runs.start_is;
        }

    abbrev with_start : CircuitAndRows
    with_start = record old { circuit = with_reset old.circuit lit X }

    start_shape : map length (slice_set start i X ∷ old.rows) ≡ map length (start ∷ old.rows)
    start_shape = ap (λ (n : ℕ). n ∷ map length old.rows) (length-set start i X)

    start_run : IsRunOf raw (witness_of property (slice_set start i X ∷ old.rows))
    start_run = run_shaped raw property (slice_set start i X ∷ old.rows) (start ∷ old.rows) start_shape run_old

    start_runs : Runs raw with_start (slice_set start i X)
    start_runs = restarts old start sound (record { resets = h.resets; start_is = h.start_is }) X

    starts_right : (q : ℕ) → StartsWrong raw (slice_set start i X) q → ⊥
    starts_right q k = elim (cases_eq q i) [
      | inl e ↦
          let there : slice_get raw.latches i ≡ Some k.latch =
          ap (slice_get raw.latches) (sym e) ∙ k.latch_is in
          let same : k.latch ≡ x = same_Some k.latch x (sym there ∙ at) in
          k.wrong (subst (λ (y : Latch). Allows y k.value) (sym same) (allows_any raw h.circuit.sound i x at k.value free))
      | inr ne ↦ reaches_old.starts q (record {
        latch = k.latch;
        value = k.value;
        latch_is = k.latch_is;
        value_is = sym (get_set_other start i q X ne) ∙ k.value_is;
        wrong = k.wrong;
      })
    ]

    pub start_stays : ReachesFrom with_start property 0
        → TriesPlace raw old property start with_start property (slice_set start i X) 0 i
    start_stays looks =
        let v = look_confirms raw with_start (slice_set start i X) start_runs h.circuit property start_run 0 starts_right
        (λ u q l below lt there. absurd (omega (arith, below))) looks in
        record {
          runs = record {
            circuit = h.circuit;
            resets = start_runs.resets;
            start_is = start_runs.start_is;
            confirmed = confirmed_as (slice_set start i X ∷ old.rows) start_shape v;
          };
          property_is = refl;
          tries = inl (v, refl);
        }

    -- the start is put back
    pub start_back : (given : Tern) → slice_get start i ≡ Some given → IsSound with_start.circuit
        → (ReachesFrom with_start property 0 → ⊥)
        → TriesPlace raw old property start (record with_start { circuit = with_reset with_start.circuit lit given }) property start 0 i
    start_back given was s denied =
        let back = restarts with_start (slice_set start i X) s start_runs given in
        record {
          runs = record {
            circuit = h.circuit;
            resets = back.resets;
            start_is = back.start_is ∙ set_back start i X given was;
            confirmed = h.confirmed;
          };
          property_is = refl;
          tries = inr (λ c. denied (look_confirmed raw with_start (slice_set start i X) start_runs h.circuit property start_run 0 c), refl);
        }

-- what a bench makes of a try, where its parts are told apart
tries_same : (raw : Raw) (old : CircuitAndRows) (property : ℕ) (start : List Tern) (new new' : CircuitAndRows)
    (n n' : ℕ) (s s' : List Tern) (t p : ℕ) → new' ≡ new → n' ≡ n → s' ≡ s
    → TriesPlace raw old property start new n s t p → TriesPlace raw old property start new' n' s' t p
tries_same raw old property start new new' n n' s s' t p e f g h =
    subst (λ (q : CircuitAndRows). TriesPlace raw old property start q n' s' t p) (sym e)
    (subst (λ (m : ℕ). TriesPlace raw old property start new m s' t p) (sym f)
    (subst (λ (v : List Tern). TriesPlace raw old property start new n v t p) (sym g) h))

looks_same : (p q : CircuitAndRows) (m n t : ℕ) → p ≡ q → m ≡ n → ReachesFrom p m t → ReachesFrom q n t
looks_same p q m n t e f h =
    subst (λ (x : CircuitAndRows). ReachesFrom x n t) e (subst (λ (k : ℕ). ReachesFrom p k t) f h)

module _ (raw : Raw) (old : CircuitAndRows) (property : ℕ) (start : List Tern) (h : RunsWitness raw old property start)
    (one : CircuitAndRows) (n : ℕ) (s : List Tern) (n_is : n ≡ property) (s_is : s ≡ start) where
  module _ (t p : ℕ) (e : one ≡ edited old (set_bit t p X)) where
    pub input_kept : ReachesFrom one n t → TriesPlace raw old property start one n s (suc t) p
    input_kept looks =
        tries_same raw old property start (with_input raw old property start h t p) one property n start s (suc t) p e n_is s_is
        (input_stays raw old property start h t p
        (looks_same one (with_input raw old property start h t p) n property t e n_is looks))

    pub input_taken_back : (two : CircuitAndRows) (m : ℕ) (r : List Tern) (given : Tern)
        → slice_get (row_at old.rows t) p ≡ Some given → two ≡ edited one (set_bit t p given) → m ≡ n → r ≡ s
        → (ReachesFrom one n t → ⊥) → TriesPlace raw old property start two m r (suc t) p
    input_taken_back two m r given was f m_is r_is denied =
        tries_same raw old property start old two property m start r (suc t) p
        (f ∙ ap (λ (q : CircuitAndRows). edited q (set_bit t p given)) e
        ∙ ap (λ (rows : List (List Tern)). let q : CircuitAndRows = record { circuit = old.circuit; rows = rows } in q)
        (cell_back old.rows t p X given was)) (m_is ∙ n_is) (r_is ∙ s_is)
        (input_back raw old property start h t p
        (λ k. denied (looks_same (with_input raw old property start h t p) one property n t (sym e) (sym n_is) k)))

  module _ (i lit : ℕ) (x : Latch) (at : slice_get raw.latches i ≡ Some x) (named : x.lit ≡ lit) (free : 1 < x.reset)
      (sound : IsSound old.circuit) (sound' : IsSound one.circuit) (e : one ≡ edited old (set_reset lit X)) where
    pub start_kept : (r : List Tern) → r ≡ slice_set s i X → ReachesFrom one n 0
        → TriesPlace raw old property start one n r 0 i
    start_kept r r_is looks =
        tries_same raw old property start (with_start raw old property start h sound i lit x at named free) one property n
        (slice_set start i X) r 0 i e n_is (r_is ∙ ap (λ (v : List Tern). slice_set v i X) s_is)
        (start_stays raw old property start h sound i lit x at named free
        (looks_same one (with_start raw old property start h sound i lit x at named free) n property 0 e n_is looks))

    pub start_taken_back : (two : CircuitAndRows) (m : ℕ) (r : List Tern) (given : Tern) → slice_get start i ≡ Some given
        → two ≡ edited one (set_reset lit given) → m ≡ n → r ≡ s → (ReachesFrom one n 0 → ⊥)
        → TriesPlace raw old property start two m r 0 i
    start_taken_back two m r given was f m_is r_is denied =
        let w = with_start raw old property start h sound i lit x at named free in
        tries_same raw old property start (edited w (set_reset lit given)) two property m start r 0 i
        (f ∙ ap (λ (q : CircuitAndRows). edited q (set_reset lit given)) e) (m_is ∙ n_is) (r_is ∙ s_is)
        (start_back raw old property start h sound i lit x at named free given was
        (subst (λ (q : CircuitAndRows). IsSound q.circuit) e sound')
        (λ k. denied (looks_same w one property n 0 (sym e) (sym n_is) k)))

-- a latch of the circuit is one of the circuit with other resets
pub latch_named : (raw other : Raw) (i lit : ℕ) (x : Latch) → HasOtherResets raw other → slice_get raw.latches i ≡ Some x
    → x.lit ≡ lit → IsLatchLiteral other lit
latch_named raw other i lit x h at named =
    let (y, here, same) = AllZip-slice_get IsSameLatch raw.latches other.latches i x h.latches at in
    latch_at_named other lit i (y, here, same.0 ∙ named)

pub latch_named_still : (raw other : Raw) (i lit : ℕ) (x : Latch) (w : Tern) → HasOtherResets raw other
    → slice_get raw.latches i ≡ Some x → x.lit ≡ lit → IsLatchLiteral (with_reset other lit w) lit
latch_named_still raw other i lit x w h at named =
    latch_named raw (with_reset other lit w) i lit x (other_reset_more raw other lit w h) at named

-- ---- place by place

module _ (raw : Raw) (given : Witness) where
  pub reducing_more : (old : CircuitAndRows) (property : ℕ) (start : List Tern) (new : CircuitAndRows) (property' : ℕ)
      (start' : List Tern) (t p : ℕ) → t < length (start ∷ old.rows) → p < length (row_at (start ∷ old.rows) t)
      → Reducing raw given old property start t p → TriesPlace raw old property start new property' start' t p
      → Reducing raw given new property' start' t (suc p)
  reducing_more old property start new property' start' t p lt lt' h tries = record {
    runs = tries.runs;
    property_is = tries.property_is ∙ h.property_is;
    tried = subst (λ (n : ℕ). AreTried (Confirms raw n) (values_of given) (start' ∷ new.rows) t (suc p)) (sym tries.property_is)
        (tried_more (Confirms raw property) (values_of given) (start ∷ old.rows) t p lt lt' h.tried (start' ∷ new.rows) tries.tries);
  }

  -- a latch with a reset of 0 or 1 cannot start at x
  pub reducing_skips : (now : CircuitAndRows) (property : ℕ) (start : List Tern) (p : ℕ) (x : Latch) → p < length start
      → slice_get raw.latches p ≡ Some x → (1 < x.reset → ⊥) → Reducing raw given now property start 0 p
      → Reducing raw given now property start 0 (suc p)
  reducing_skips now property start p x lt at fixed h = record {
    runs = h.runs;
    property_is = h.property_is;
    tried = tried_more (Confirms raw property) (values_of given) (start ∷ now.rows) 0 p (omega arith) lt h.tried
        (start ∷ now.rows)
        (inr (
          λ c. c.first (verdict.Initial p) (omega arith) (record {
            latch = x;
            value = X;
            latch_is = at;
            value_is = get_set_same start p X lt;
            wrong = forbids_x raw h.runs.circuit.sound p x at fixed;
          }),
          refl,
        ));
  }

  pub reducing_frames : (now : CircuitAndRows) (property : ℕ) (start : List Tern) (t p : ℕ)
      → Reducing raw given now property start t p → length now.rows ≡ length given.rows
  reducing_frames now property start t p h =
      let same : length (map length (start ∷ now.rows)) ≡ length (map length (values_of given)) = ap length h.tried.shape in
      omega (arith, same, length-map now.rows (length {A = Tern}), length-map given.rows (length {A = Tern}))

  pub reducing_list : (now : CircuitAndRows) (property : ℕ) (start : List Tern) (t p : ℕ)
      → length (row_at (start ∷ now.rows) t) ≤ p → Reducing raw given now property start t p
      → Reducing raw given now property start (suc t) 0
  reducing_list now property start t p all h = record {
    runs = h.runs;
    property_is = h.property_is;
    tried = tried_list (Confirms raw property) (values_of given) (start ∷ now.rows) t p all h.tried;
  }

  pub reducing_begins : (now : CircuitAndRows) → RunsWitness raw now given.property given.start → now.rows ≡ given.rows
      → Reducing raw given now given.property given.start 0 0
  reducing_begins now h e = record {
    runs = h;
    property_is = refl;
    tried = subst (λ (rows : List (List Tern)). AreTried (Confirms raw given.property) (values_of given) (given.start ∷ rows) 0 0) (sym e)
        (tried_none (Confirms raw given.property) (values_of given)
        (subst (λ (rows : List (List Tern)). Confirms raw given.property (given.start ∷ rows)) e h.confirmed.verdict));
  }

  pub reducing_ends : (now : CircuitAndRows) (property : ℕ) (start : List Tern) (t p : ℕ) → length now.rows < t
      → Reducing raw given now property start t p
      → IsReduced raw given (record { property = property; start = start; rows = now.rows })
  reducing_ends now property start t p all h = record {
    property = h.property_is;
    shape = h.tried.shape;
    values = subst (λ (n : ℕ). (t p : ℕ) (a b : Tern) → slice_get (row_at (values_of given) t) p ≡ Some a
        → slice_get (row_at (start ∷ now.rows) t) p ≡ Some b
        → IsKept (IsVerdict raw (witness_of n (with_x_between (start ∷ now.rows) (values_of given) t p)) verdict.Confirmed) a b)
        h.property_is
        (tried_all (Confirms raw property) (values_of given) (start ∷ now.rows) t p (omega (arith, all)) h.tried);
  }
