-- Latches at frame 0: which of them start as their resets say.
use Rattle.std.proofs.Common.{◌≡◌, ◌↔◌, ℕ, ◌+◌, ◌<◌, Bool, true, false, List, [], ◌∷◌, ◌++◌, length, map, take, get_or}
use Rattle.std.proofs.Common.{Contains, Some, slice_get, IsTrue, inl, inr, refl, sym, ap, ◌∙◌, subst, arith}
use Rattle.std.proofs.Common.{append_assoc}
use Rattle.std.proofs.Math.Bool.{beq}
use Rattle.std.proofs.lemmas.Bool.{false≢true}
use Rattle.std.proofs.lemmas.List.{take_more}
use Rattle.std.proofs.lemmas.List.Elements.{Contains-append_left, Contains-push, Contains-push_cases}
use Rattle.std.proofs.lemmas.Option.{slice_get_within}
use Rattle.aig_parts.specs.declared.latch.Latch.{Latch}
use Rattle.aig_parts.specs.declared.raw.Raw.{Raw}
use Rattle.aig_parts.specs.declared.ternary.Tern.{Tern}
use Rattle.aig_base.specs.Sound.{IsSound}
use Rattle.aig_base.specs.Value.{start_of}
use Rattle.aig_base.proofs.lists.Gets.{same_element}
use Rattle.aig_base.proofs.values.UniqueValue.{unique}
use Rattle.aig_bench.specs.BenchState.{CircuitAndRows, HasValue}
use Rattle.aig_causes.specs.Causes.{Has, moment}
use Rattle.aig_causes.specs.Explanation.{AreNamedBetween, IsNamed}
use Rattle.aig_base.specs.Resets.{HasOtherResets}
use Rattle.aig_base.proofs.values.Resets.{other_resets_back, value_with}
use Rattle.aig_signals.specs.declared.text.Origin.TheVariants as origin
use Rattle.aig_signals.specs.declared.form.Form.{Form}
use Rattle.aig_why.specs.Lines.{AreLastTexts, IsOriginText, IsResetValue, StartsByReset}
use Rattle.aig_why.specs.state.Naming.{Adds, StartsBy}
use Rattle.aig_why.proofs.FrameLemmas.{origin_same}
use Rattle.aig_why.proofs.NamingLemmas.{latch_literal}
use Rattle.aig_why.proofs.TextLemmas.{latch_literals}

-- a latch has one reset and one value
pub starts : (pair : CircuitAndRows) → IsSound pair.circuit → (resets : List Latch) (p : ℕ) (x : Latch) (l : ℕ) (w : Tern) (test : Bool)
    → slice_get resets p ≡ Some x → slice_get (map (λ y. y.lit) pair.circuit.latches) p ≡ Some l → HasValue pair 0 l w
    → (IsTrue test ↔ IsResetValue x.reset w) → (IsTrue test ↔ StartsBy pair resets p)
starts pair s resets p x l w test at here v is = (to, back)
  where
    to : IsTrue test → StartsBy pair resets p
    to h = (x, l, w, at, here, v, is.0 h)

    back : StartsBy pair resets p → IsTrue test
    back (y, k, u, at_y, at_k, k_has, is_reset) =
        let one : y ≡ x = same_element resets p y x at_y at in
        let same : k ≡ l = same_element (map (λ z. z.lit) pair.circuit.latches) p k l at_k here in
        let value : u ≡ w =
        unique pair.circuit (start_of pair.circuit) pair.rows s k_has (subst (λ (j : ℕ). HasValue pair 0 j w) (sym same) v) in
        is.1 (subst (λ (z : Latch). IsResetValue z.reset w) one (subst (λ (t : Tern). IsResetValue y.reset t) value is_reset))

-- the reset among these is that of the circuit
pub starts_same : (raw : Raw) (pair : CircuitAndRows) → HasOtherResets raw pair.circuit → (resets : List Latch) → raw.latches ≡ resets
    → (p : ℕ) → StartsBy pair resets p ↔ StartsByReset raw (moment pair 0) p
starts_same raw pair r resets same p = (to, back)
  where
    literals : map (λ z. z.lit) pair.circuit.latches ≡ map (λ z. z.lit) raw.latches
    literals = latch_literals raw.latches pair.circuit.latches r.latches

    to : StartsBy pair resets p → StartsByReset raw (moment pair 0) p
    to (x, l, w, at, here, v, is) =
        let at_x : slice_get raw.latches p ≡ Some x = subst (λ (xs : List Latch). slice_get xs p ≡ Some x) (sym same) at in
        let at_l : slice_get (map (λ z. z.lit) raw.latches) p ≡ Some l =
        subst (λ (ls : List ℕ). slice_get ls p ≡ Some l) literals here in
        let one : l ≡ x.lit =
        same_element (map (λ z. z.lit) raw.latches) p l x.lit at_l (latch_literal raw.latches p x at_x) in
        let has : Has raw (moment pair 0) l w =
        value_with pair.circuit raw (other_resets_back raw pair.circuit r) (start_of pair.circuit) pair.rows v in
        (x, w, at_x, subst (λ (j : ℕ). Has raw (moment pair 0) j w) one has, is)

    back : StartsByReset raw (moment pair 0) p → StartsBy pair resets p
    back (x, w, at, v, is) = (
      x,
      x.lit,
      w,
      subst (λ (xs : List Latch). slice_get xs p ≡ Some x) same at,
      subst (λ (ls : List ℕ). slice_get ls p ≡ Some x.lit) (sym literals) (latch_literal raw.latches p x at),
      value_with raw pair.circuit r (start_of pair.circuit) pair.rows v,
      is,
    )

-- ---- the latches of a list for which a test is the same as a choice

abbrev pub AreFound : (ℕ → Type 0) → Bool → List ℕ → List ℕ → Type 0
AreFound Is choice positions found = (p : ℕ) → Contains found p ↔ (Contains positions p × (Is p ↔ IsTrue choice))

pub found_none : (Is : ℕ → Type 0) (choice : Bool) → AreFound Is choice [] []
found_none Is choice p = (λ h. absurd (omega (arith, h.1)), λ h. h.0)

chosen : (A : Type 0) (x y : Bool) → (IsTrue x ↔ A) → beq x y ≡ true → (A ↔ IsTrue y)
chosen A true true h e = (h.1, h.0)
chosen A false false h e = (h.1, h.0)
chosen A true false h e = absurd (false≢true e)
chosen A false true h e = absurd (false≢true e)

not_chosen : (A : Type 0) (x y : Bool) → (IsTrue x ↔ A) → beq x y ≡ false → (A ↔ IsTrue y) → ⊥
not_chosen A true true h e i = false≢true (sym e)
not_chosen A false false h e i = false≢true (sym e)
not_chosen A true false h e i = false≢true (i.0 (h.0 refl))
not_chosen A false true h e i = false≢true (h.1 (i.1 refl))

pub found_push : (Is : ℕ → Type 0) (choice : Bool) (positions found new : List ℕ) (k : ℕ) (test : Bool) → k < length positions
    → AreFound Is choice (take k positions) found → (IsTrue test ↔ Is (get_or positions k 0)) → beq test choice ≡ true
    → new ≡ found ++ get_or positions k 0 ∷ [] → AreFound Is choice (take (k + 1) positions) new
found_push Is choice positions found new k test lt h is same e =
    subst (AreFound Is choice (take (k + 1) positions)) (sym e)
    (subst (λ (ps : List ℕ). AreFound Is choice ps (found ++ place ∷ [])) (sym (take_more positions k 0 lt)) (λ p. (to p, back p)))
  where
    place : ℕ
    place = get_or positions k 0

    to : (p : ℕ) → Contains (found ++ place ∷ []) p → Contains (take k positions ++ place ∷ []) p × (Is p ↔ IsTrue choice)
    to p has = elim (Contains-push_cases found place p has) [
      | inl before ↦
          let up = (h p).0 before in (Contains-append_left (take k positions) (place ∷ []) p up.0, up.1)
      | inr here ↦ (
        subst (Contains (take k positions ++ place ∷ [])) here (Contains-push (take k positions) place),
        subst (λ (q : ℕ). Is q ↔ IsTrue choice) here (chosen (Is place) test choice is same),
      )
    ]

    back : (p : ℕ) → Contains (take k positions ++ place ∷ []) p × (Is p ↔ IsTrue choice) → Contains (found ++ place ∷ []) p
    back p has = elim (Contains-push_cases (take k positions) place p has.0) [
      | inl before ↦ Contains-append_left found (place ∷ []) p ((h p).1 (before, has.1))
      | inr here ↦ subst (Contains (found ++ place ∷ [])) here (Contains-push found place)
    ]

pub found_same : (Is : ℕ → Type 0) (choice : Bool) (positions found : List ℕ) (k : ℕ) (test : Bool) → k < length positions
    → AreFound Is choice (take k positions) found → (IsTrue test ↔ Is (get_or positions k 0)) → beq test choice ≡ false
    → AreFound Is choice (take (k + 1) positions) found
found_same Is choice positions found k test lt h is other =
    subst (λ (ps : List ℕ). AreFound Is choice ps found) (sym (take_more positions k 0 lt)) (λ p. (to p, back p))
  where
    place : ℕ
    place = get_or positions k 0

    to : (p : ℕ) → Contains found p → Contains (take k positions ++ place ∷ []) p × (Is p ↔ IsTrue choice)
    to p has = let up = (h p).0 has in (Contains-append_left (take k positions) (place ∷ []) p up.0, up.1)

    back : (p : ℕ) → Contains (take k positions ++ place ∷ []) p × (Is p ↔ IsTrue choice) → Contains found p
    back p has = elim (Contains-push_cases (take k positions) place p has.0) [
      | inl before ↦ (h p).1 (before, has.1)
      | inr here ↦
          absurd (not_chosen (Is place) test choice is other (subst (λ (q : ℕ). Is q ↔ IsTrue choice) (sym here) has.1))
    ]

-- ---- the last lines

-- the named latches as a list are those that the lines name
pub named_latches : (named : List Bool) (latches lines : List ℕ) → AreNamedBetween named 0 (length named) latches
    → ((q : ℕ) → IsNamed named q ↔ Contains lines q) → (q : ℕ) → Contains latches q ↔ Contains lines q
named_latches named latches lines h is q = (
  λ has. (is q).0 (h.only q has).2,
  λ has.
      let so : IsNamed named q = (is q).1 has in
      h.each q (omega arith) (slice_get_within named q true so) so,
)

pub last_open : (form : Form) (raw : Raw) (pair : CircuitAndRows) (f : ℕ) (latches named old new : List ℕ) → 0 < f
    → ((q : ℕ) → Contains latches q ↔ Contains named q)
    → Adds (IsOriginText form raw (moment pair f) (origin.NotExplained f) latches) old new
    → Adds (AreLastTexts form raw (moment pair f) named) old new
last_open form raw pair f latches named old new lt same h =
    let (added, is, e) = h in (
      added,
      record {
        unexplained = λ some. origin_same form raw (moment pair f) (origin.NotExplained f) latches named added same is;
        at_start = λ none. absurd (omega (arith, lt, none));
      },
      e,
    )

module _ (raw : Raw) (pair : CircuitAndRows) (r : HasOtherResets raw pair.circuit) (resets : List Latch)
    (is_reset : raw.latches ≡ resets) (latches named : List ℕ) (same : (q : ℕ) → Contains latches q ↔ Contains named q) where
  by_reset : (reset : List ℕ) → AreFound (StartsBy pair resets) true latches reset → (p : ℕ)
      → Contains reset p ↔ (Contains named p × StartsByReset raw (moment pair 0) p)
  by_reset reset h p =
      let starts_so = starts_same raw pair r resets is_reset p in (
        λ has. let up = (h p).0 has in ((same p).0 up.0, starts_so.0 (up.1.1 refl)),
        λ has. (h p).1 ((same p).1 has.0, (λ so. refl, λ so. starts_so.1 has.1)),
      )

  otherwise : (other : List ℕ) → AreFound (StartsBy pair resets) false latches other → (p : ℕ)
      → Contains other p ↔ (Contains named p × (StartsByReset raw (moment pair 0) p → ⊥))
  otherwise other h p =
      let starts_so = starts_same raw pair r resets is_reset p in (
        λ has. let up = (h p).0 has in ((same p).0 up.0, λ so. let not_so : IsTrue false = up.1.0 (starts_so.1 so) in cc),
        λ has. (h p).1 ((same p).1 has.0, (λ so. absurd (has.1 (starts_so.0 so)), λ (no : IsTrue false). cc)),
      )

  pub last_at_start : (form : Form) (reset other old middle new : List ℕ) → AreFound (StartsBy pair resets) true latches reset
      → AreFound (StartsBy pair resets) false latches other
      → Adds (IsOriginText form raw (moment pair 0) origin.Reset reset) old middle
      → Adds (IsOriginText form raw (moment pair 0) origin.Start other) middle new
      → Adds (AreLastTexts form raw (moment pair 0) named) old new
  last_at_start form reset other old middle new are_reset are_other h k =
      let (first, is_first, e) = h in
      let (second, is_second, d) = k in (
        first ++ second,
        record {
          unexplained = λ (some : 0 < 0). absurd (omega (arith, some));
          at_start = λ none. (
            reset,
            other,
            first,
            second,
            by_reset reset are_reset,
            otherwise other are_other,
            is_first,
            is_second,
            refl,
          );
        },
        d ∙ ap (λ (t : List ℕ). t ++ second) e ∙ append_assoc old first second,
      )
