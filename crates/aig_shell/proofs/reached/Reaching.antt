-- Which properties the run of a session reaches.
use Rattle.std.proofs.Common.{◌≡◌, ◌≢◌, ◌⊎◌, inl, inr, ℕ, zero, suc, ◌+◌, ◌-◌, ◌<◌, ◌≤◌, List, [], ◌∷◌, length, take}
use Rattle.std.proofs.Common.{drop, Option, Some, slice_get, refl, sym, ap, ◌∙◌, subst, arith}
use Rattle.std.proofs.lemmas.Bool.{cases_eq, cases_lt}
use Rattle.std.proofs.lemmas.List.{length-take-le, take-append-drop}
use Rattle.std.proofs.lemmas.Option.{same_Some, slice_get_within, slice_get-map}
use Rattle.aig_parts.specs.declared.latch.Latch.{Latch}
use Rattle.aig_parts.specs.declared.raw.Raw.{Raw}
use Rattle.aig_parts.specs.declared.ternary.Tern.{Tern}
use Rattle.aig_parts.specs.declared.ternary.Tern.TheVariants.{Zero, One, X}
use Rattle.aig_base.specs.Circuit.{IsCircuit}
use Rattle.aig_base.specs.Value as value
use Rattle.aig_base.specs.Value.{Value, reset_value, start_of}
use Rattle.aig_base.proofs.values.OneValue.{have_one_value}
use Rattle.aig_base.proofs.values.UniqueValue.{unique}
use Rattle.aig_bench.specs.BenchState.{CircuitAndRows, HasValue}
use Rattle.aig_base.specs.Resets.{HasOtherResets}
use Rattle.aig_base.proofs.values.Resets.{other_resets_back, start_length, value_with}
use Rattle.aig_sim.specs.declared.witness.verdict.Verdict.TheVariants as verdict
use Rattle.aig_sim.specs.Reached.{IsAskedFor, IsFirstReached, Reaches, ReachesNone, witness_at}
use Rattle.aig_sim.proofs.VerdictLemmas.{reached}
use Rattle.aig_values.proofs.PropertyLines.{bad_defined}
use Rattle.aig_values.specs.InputRows.{HaveWidth}
use Rattle.aig_values.proofs.TraceLemmas.{value_stays}
use Rattle.aig_shell.specs.Standing.{HoldAt, HoldBefore, IsBroken, IsFirstAt, StartsRight}

-- ---- rows that are cut short

short_get : {A : Type 0} (rows : List A) (n t : ℕ) → t < n → slice_get (take n rows) t ≡ slice_get rows t
short_get rows zero t lt = absurd (omega (arith, lt))
short_get [] (suc n) t lt = refl
short_get (row ∷ rows) (suc n) zero lt = refl
short_get (row ∷ rows) (suc n) (suc t) lt = short_get rows n t (omega (arith, lt))

module _ (raw : Raw) (start : List Tern) (rows : List (List Tern)) (n : ℕ) where
  value_short : {t l : ℕ} {w : Tern} → t < n → Value raw start rows t l w → Value raw start (take n rows) t l w
  value_short lt (value.constant_false t) = value.constant_false t
  value_short lt (value.constant_true t) = value.constant_true t
  value_short lt (value.input t p l w row at is cell) = value.input t p l w row at (short_get rows n t lt ∙ is) cell
  value_short lt (value.latch_first p x w at is) = value.latch_first p x w at is
  value_short lt (value.latch_next t p x w at v) = value.latch_next t p x w at (value_short (omega (arith, lt)) v)
  value_short lt (value.gate t q g a b at va vb) = value.gate t q g a b at (value_short lt va) (value_short lt vb)
  value_short lt (value.negated t l w over odd v) = value.negated t l w over odd (value_short lt v)

-- ---- starts

-- a start by resets is right
pub own_right : (raw : Raw) → StartsRight raw (start_of raw)
own_right raw k h =
    let at : slice_get (start_of raw) k ≡ Some (reset_value h.latch.reset) =
    slice_get-map (λ (x : Latch). reset_value x.reset) raw.latches k ∙ rw h.latch_is refl in
    h.wrong (inr (same_Some h.value (reset_value h.latch.reset) (sym h.value_is ∙ at)))

-- ---- circuits that differ by resets reach the same

module _ (raw other : Raw) (r : HasOtherResets raw other) (start : List Tern) (rows : List (List Tern)) where
  pub reaches_with : StartsRight other start → (t k : ℕ) → Reaches raw start rows t k → Reaches other start rows t k
  reaches_with right t k h = record {
    frame = h.frame;
    property = let lt = h.property in omega (arith, lt, ap length r.bad);
    confirmed = reached other (witness_at start rows t k) right
        (λ u q below no. h.confirmed.first (verdict.Constraint u q) (omega arith) (
          below,
          record {
            literal = no.literal;
            value = no.value;
            literal_is = ap (λ (ls : List ℕ). slice_get ls q) (sym r.constraints) ∙ no.literal_is;
            value_is = value_with other raw (other_resets_back raw other r) start (take (t + 1) rows) no.value_is;
            not_one = no.not_one;
          },
        ))
        (λ no. h.confirmed.first verdict.NotBad (omega arith) (record {
          literal = no.literal;
          value = no.value;
          literal_is = ap (λ (ls : List ℕ). slice_get ls k) (sym r.bad) ∙ no.literal_is;
          value_is = value_with other raw (other_resets_back raw other r) start (take (t + 1) rows) no.value_is;
          not_one = no.not_one;
        }));
  }

module _ (raw : Raw) (p : CircuitAndRows) (r : HasOtherResets p.circuit raw) (asked : Option ℕ) where
  pub none_with : ReachesNone p.circuit (start_of p.circuit) p.rows asked → ReachesNone raw (start_of p.circuit) p.rows asked
  none_with none t k asks h =
      none t k asks
      (reaches_with raw p.circuit (other_resets_back p.circuit raw r) (start_of p.circuit) p.rows (own_right p.circuit) t k h)

  pub first_with : StartsRight raw (start_of p.circuit) → (t k : ℕ)
      → IsFirstReached p.circuit (start_of p.circuit) p.rows asked t k → IsFirstReached raw (start_of p.circuit) p.rows asked t k
  first_with right t k h = record {
    asked_for = h.asked_for;
    reaches = reaches_with p.circuit raw r (start_of p.circuit) p.rows right t k h.reaches;
    first = λ u q before asks no. h.first u q before asks
        (reaches_with raw p.circuit (other_resets_back p.circuit raw r) (start_of p.circuit) p.rows (own_right p.circuit) u q no);
  }

-- what a search of the bench's circuit finds
module _ (raw : Raw) (p : CircuitAndRows) (r : HasOtherResets p.circuit raw) (asked : Option ℕ) (given : Raw) (start : List Tern)
    (rows : List (List Tern)) (e : given ≡ p.circuit) (f : start ≡ start_of given) (g : rows ≡ p.rows) where
  pub found_first : StartsRight raw (start_of p.circuit) → (t k : ℕ) → IsFirstReached given start rows asked t k
      → IsFirstReached raw (start_of p.circuit) p.rows asked t k
  found_first right t k h =
      first_with raw p r asked right t k
      (subst (λ (z : List (List Tern)). IsFirstReached p.circuit (start_of p.circuit) z asked t k) g
      (subst (λ (z : List Tern). IsFirstReached p.circuit z rows asked t k) (f ∙ ap start_of e)
      (subst (λ (z : Raw). IsFirstReached z start rows asked t k) e h)))

  pub found_none : ReachesNone given start rows asked → ReachesNone raw (start_of p.circuit) p.rows asked
  found_none h =
      none_with raw p r asked
      (subst (λ (z : List (List Tern)). ReachesNone p.circuit (start_of p.circuit) z asked) g
      (subst (λ (z : List Tern). ReachesNone p.circuit z rows asked) (f ∙ ap start_of e)
      (subst (λ (z : Raw). ReachesNone z start rows asked) e h)))

-- ---- constraints

pub hold_more : (p : CircuitAndRows) (t : ℕ) → HoldBefore p t → HoldAt p t → HoldBefore p (t + 1)
hold_more p t before here u lt = elim (cases_eq u t) [
  | inl e ↦ subst (HoldAt p) (sym e) here
  | inr ne ↦ before u (omega (arith, lt, ne))
]

-- ---- one property

one_or_not : (w : Tern) → (w ≡ One) ⊎ (w ≢ One)
one_or_not Zero = inr (λ e. let no : ⊥ = cc in no)
one_or_not One = inl refl
one_or_not X = inr (λ e. let no : ⊥ = cc in no)

module _ (raw : Raw) (p : CircuitAndRows) (r : HasOtherResets p.circuit raw) (circuit : IsCircuit p.circuit)
    (fits : HaveWidth (length p.circuit.inputs) p.rows) where
  short_value : (n t l : ℕ) (w : Tern) → t < n → HasValue p t l w → Value raw (start_of p.circuit) (take n p.rows) t l w
  short_value n t l w lt v =
      value_short raw (start_of p.circuit) p.rows n lt (value_with p.circuit raw r (start_of p.circuit) p.rows v)

  long_value : (n t l : ℕ) (w : Tern) → Value raw (start_of p.circuit) (take n p.rows) t l w → HasValue p t l w
  long_value n t l w v =
      value_with raw p.circuit (other_resets_back p.circuit raw r) (start_of p.circuit) p.rows
      (subst (λ (rows : List (List Tern)). Value raw (start_of p.circuit) rows t l w) (take-append-drop n p.rows)
      (value_stays (drop n p.rows) v))

  size : (t : ℕ) → t < length p.rows → length (take (t + 1) p.rows) ≡ t + 1
  size t lt = length-take-le (t + 1) p.rows (omega (arith, lt))

  module _ (t k : ℕ) (h : Reaches raw (start_of p.circuit) p.rows t k) where
    -- a property that is reached is 1
    not_other : (l : ℕ) (w : Tern) → slice_get p.circuit.bad k ≡ Some l → HasValue p t l w → w ≢ One → ⊥
    not_other l w at v other =
        let lt = h.frame in
        let last : t ≡ length (take (t + 1) p.rows) - 1 = omega (arith, size t lt) in
        h.confirmed.first verdict.NotBad (omega arith) (record {
          literal = l;
          value = w;
          literal_is = ap (λ (ls : List ℕ). slice_get ls k) r.bad ∙ at;
          value_is = subst (λ (n : ℕ). Value raw (start_of p.circuit) (take (t + 1) p.rows) n l w) last
              (short_value (t + 1) t l w (omega arith) v);
          not_one = other;
        })

    pub reached_one : (l : ℕ) → slice_get p.circuit.bad k ≡ Some l → HasValue p t l One
    reached_one l at =
        let (w, v, only) = have_one_value p.circuit (start_of p.circuit) p.rows circuit.sound circuit.acyclic
        (record { latches = start_length p.circuit; inputs = fits }) t l h.frame (bad_defined p.circuit circuit.sound k l at) in
        elim (one_or_not w) [
          | inl e ↦ subst (HasValue p t l) e v
          | inr ne ↦ absurd (not_other l w at v ne)
        ]

    -- and all constraints are 1 up to its frame
    pub none_broken : (u c : ℕ) (w : Tern) → u < t + 1 → IsBroken p u c w → ⊥
    none_broken u c w lt b =
        let below = h.frame in
        h.confirmed.first (verdict.Constraint u c) (omega arith) (
          omega (arith, lt, size t below),
          record {
            literal = b.literal;
            value = w;
            literal_is = ap (λ (ls : List ℕ). slice_get ls c) r.constraints ∙ b.literal_is;
            value_is = short_value (t + 1) u b.literal w lt b.value_is;
            not_one = b.not_one;
          },
        )

  module _ (t k l : ℕ) (at : slice_get p.circuit.bad k ≡ Some l) (first : IsFirstAt p l One t) where
    reaches_here : StartsRight raw (start_of p.circuit) → HoldBefore p (t + 1) → Reaches raw (start_of p.circuit) p.rows t k
    reaches_here right held =
        let lt = first.frame in
        let last : t ≡ length (take (t + 1) p.rows) - 1 = omega (arith, size t lt) in
        let here : slice_get raw.bad k ≡ Some l = ap (λ (ls : List ℕ). slice_get ls k) r.bad ∙ at in
        record {
          frame = lt;
          property = slice_get_within raw.bad k l here;
          confirmed = reached raw (witness_at (start_of p.circuit) p.rows t k) right
              (λ u c below no. no.not_one (unique p.circuit (start_of p.circuit) p.rows circuit.sound
              (long_value (t + 1) u no.literal no.value no.value_is)
              (held u (omega (arith, below, size t lt)) c no.literal
              (ap (λ (ls : List ℕ). slice_get ls c) (sym r.constraints) ∙ no.literal_is))))
              (λ no. no.not_one (unique p.circuit (start_of p.circuit) p.rows circuit.sound
              (long_value (t + 1) t no.literal no.value
              (subst (λ (n : ℕ). Value raw (start_of p.circuit) (take (t + 1) p.rows) n no.literal no.value) (sym last) no.value_is))
              (subst (λ (m : ℕ). HasValue p t m One) (same_Some l no.literal (sym here ∙ no.literal_is)) first.value)));
        }

    not_before : (u : ℕ) → u < t → Reaches raw (start_of p.circuit) p.rows u k → ⊥
    not_before u lt h = first.before u lt (reached_one u k h l at)

    pub first_reached : StartsRight raw (start_of p.circuit) → HoldBefore p (t + 1)
        → IsFirstReached raw (start_of p.circuit) p.rows (Some k) t k
    first_reached right held = record { asked_for = refl; reaches = reaches_here right held; first = before }
      where
        before : (u q : ℕ) → (u < t) ⊎ ((u ≡ t) × (q < k)) → IsAskedFor (Some k) q → Reaches raw (start_of p.circuit) p.rows u q → ⊥
        before u q (inl lt) asks h =
            not_before u lt (subst (λ (n : ℕ). Reaches raw (start_of p.circuit) p.rows u n) asks h)
        before u q (inr (e, lt)) asks h = omega (arith, lt, asks)

    -- a constraint that is not 1 at this frame or before stands against it
    pub none_reached : (b c : ℕ) (w : Tern) → b ≤ t → IsBroken p b c w → ReachesNone raw (start_of p.circuit) p.rows (Some k)
    none_reached b c w le broken u q asks h =
        let same = subst (λ (n : ℕ). Reaches raw (start_of p.circuit) p.rows u n) asks h in
        elim (cases_lt u b) [
          | inl lt ↦ not_before u (omega (arith, lt, le)) same
          | inr more ↦ none_broken u k same b c w (omega (arith, more)) broken
        ]
