-- The names that are left where properties are selected.
use Rattle.std.proofs.Common.{◌≡◌, ◌≢◌, inl, inr, ℕ, zero, suc, ◌+◌, ◌-◌, ◌<◌, ◌≤◌, ◌==◌, Bool, true, false, cond, List}
use Rattle.std.proofs.Common.{[], ◌∷◌, ◌++◌, length, get_or, map, flat_map}
use Rattle.std.proofs.Common.{refl, sym, ap, subst, ◌∙◌, arith, All, AllPairs, Contains}
use Rattle.std.specs.Map.{keys_of}
use Rattle.std.proofs.lemmas.List.{append-nil, append_assoc, map-append}
use Rattle.std.proofs.lemmas.List.Concat.{flat_map-append}
use Rattle.std.proofs.lemmas.List.Elements.{All-weaker}
use Rattle.std.proofs.lemmas.List.Kept.{AllPairs-cons}
use Rattle.std.proofs.lemmas.Bool.{cases_eq}
use Rattle.aig_parts.specs.declared.symbols.Kind.{Kind}
use Rattle.aig_parts.specs.declared.symbols.Kind.TheVariants as kinds
use Rattle.aig_parts.specs.SymbolPlaces.{Key}
use Rattle.aig_base.specs.declared.select.PropertySection.{PropertySection}
use Rattle.aig_base.specs.declared.select.PropertySection.TheVariants as sections
use Rattle.aig_base.specs.Selected.{kind_of, places_from, moved, kept_entries, kept_symbols}
use Rattle.aig_base.proofs.lists.Positions.{Contains-cons, Contains-from_slice_get, unmap}
use Rattle.aig_base.proofs.selections.Distinct.{pairs_none, pairs_one, pairs_left, pairs_mapped, pieces_distinct}
use Rattle.aig_base.proofs.selections.PropertyChains.{places_above, places_first, places_later}

-- ---- positions of a number

pub place_is : (i : ℕ) (qs : List ℕ) (p j : ℕ) → Contains (places_from i qs p) j
    → (i ≤ j) × (j < i + length qs) × (get_or qs (j - i) 0 ≡ p)
unfolding places_from
place_is i [] p j (k, l, e) = absurd (omega arith)
place_is i (q ∷ qs) p j c =
    let further : Contains (places_from (i + 1) qs p) j → (i ≤ j) × (j < i + length (q ∷ qs)) × (get_or (q ∷ qs) (j - i) 0 ≡ p) = λ h.
    (let (low, high, is) = place_is (i + 1) qs p j h in
    let next : j - i ≡ suc (j - (i + 1)) = omega (arith, low) in
    (omega (arith, low), omega (arith, high), ap (λ n. get_or (q ∷ qs) n 0) next ∙ is)) in
    elim (cases_eq q p) [
      | inl same ↦ elim (Contains-cons i (places_from (i + 1) qs p) j
          (subst (λ n. Contains (places_from i (q ∷ qs) n) j → Contains (i ∷ places_from (i + 1) qs n) j) same
          (λ h. subst (λ xs. Contains xs j) (places_first i q qs) h) c)) [
            | inl here ↦
                let none : j - i ≡ 0 = omega (arith, here) in
                (omega (arith, here), omega (arith, here), ap (λ n. get_or (q ∷ qs) n 0) none ∙ same)
            | inr h ↦ further h
          ]
      | inr other ↦ further (subst (λ xs. Contains xs j) (places_later i q qs p other) c)
    ]

places_rise : (i : ℕ) (qs : List ℕ) (p : ℕ) → AllPairs (λ a b. a < b) (places_from i qs p)
unfolding places_from
places_rise i [] p = pairs_none (λ a b. a < b)
places_rise i (q ∷ qs) p =
    let more = places_rise (i + 1) qs p in
    let above : All (λ j. i < j) (places_from (i + 1) qs p) =
    All-weaker (λ j. i + 1 ≤ j) (λ j. i < j) (λ j h. omega arith) (places_from (i + 1) qs p) (places_above (i + 1) qs p) in
    elim (q == p) as (λ b. AllPairs (λ a c. a < c) (cond b (i ∷ places_from (i + 1) qs p) (places_from (i + 1) qs p))) [
      | true ↦ AllPairs-cons (λ a c. a < c) i (places_from (i + 1) qs p) above more
      | false ↦ more
    ]

-- ---- the entry that a kept one was

abbrev is_kind_of : PropertySection → Kind → Bool
is_kind_of sections.Bad kinds.Bad = true
is_kind_of sections.Outputs kinds.Output = true
is_kind_of _ _ = false

own_kind : (section : PropertySection) → is_kind_of section (kind_of section) ≡ true
own_kind sections.Bad = refl
own_kind sections.Outputs = refl

no_input : (section : PropertySection) → is_kind_of section kinds.Input ≡ false
no_input sections.Bad = refl
no_input sections.Outputs = refl

no_latch : (section : PropertySection) → is_kind_of section kinds.Latch ≡ false
no_latch sections.Bad = refl
no_latch sections.Outputs = refl

no_constraint : (section : PropertySection) → is_kind_of section kinds.Constraint ≡ false
no_constraint sections.Bad = refl
no_constraint sections.Outputs = refl

single : {X : Type 0} (x y : X) → Contains (x ∷ []) y → y ≡ x
single x y (zero, l, e) = sym e
single x y (suc k, l, e) = absurd (omega (arith, l))

nothing : {X : Type 0} (y : X) → Contains [] y → ⊥
nothing y (k, l, e) = omega (arith, l)

module _ (from into : PropertySection) (positions : List ℕ) where
  abbrev origin : Key → Key
  origin e = cond (is_kind_of into e.0) (kind_of from, get_or positions e.1 0) e

  abbrev kept_of : Key → List Key
  kept_of k = kept_entries from into positions k.0 k.1

  stayed : (k : Kind) (p : ℕ) (e : Key) → is_kind_of into k ≡ false → Contains ((k, p) ∷ []) e → origin e ≡ (k, p)
  stayed k p e other c =
      ap origin (single (k, p) e c) ∙ ap (λ b. cond b (kind_of from, get_or positions p 0) (k, p)) other

  abbrev moved_to : ℕ → Key
  moved_to j = (kind_of into, j)

  of_moved : (j : ℕ) → origin (moved_to j) ≡ (kind_of from, get_or positions j 0)
  of_moved j = ap (λ b. cond b (kind_of from, get_or positions j 0) (moved_to j)) (own_kind into)

  came : (p : ℕ) (e : Key) → Contains (moved into positions p) e → origin e ≡ (kind_of from, p)
  came p e c =
      let (j, i, at, is) = unmap moved_to (places_from 0 positions p) e c in
      let (low, high, same) = place_is 0 positions p j (Contains-from_slice_get (places_from 0 positions p) i j at) in
      let none : j - 0 ≡ j = omega arith in
      let number : get_or positions j 0 ≡ p = ap (λ n. get_or positions n 0) (sym none) ∙ same in
      let here : origin (moved_to j) ≡ (kind_of from, p) =
      of_moved j ∙ ap (λ (n : ℕ). let k : Key = (kind_of from, n) in k) number in
      subst (λ (k : Key). origin k ≡ (kind_of from, p)) is here

-- the kept entries of one section
back : (from into : PropertySection) (positions : List ℕ) (k : Kind) (p : ℕ) (e : Key)
    → Contains (kept_entries from into positions k p) e → origin from into positions e ≡ (k, p)
back from into ps kinds.Input p e c = stayed from into ps kinds.Input p e (no_input into) c
back from into ps kinds.Latch p e c = stayed from into ps kinds.Latch p e (no_latch into) c
back from into ps kinds.Constraint p e c = stayed from into ps kinds.Constraint p e (no_constraint into) c
back sections.Bad into ps kinds.Bad p e c = came sections.Bad into ps p e c
back sections.Outputs into ps kinds.Bad p e c = absurd (nothing e c)
back sections.Bad into ps kinds.Output p e c = absurd (nothing e c)
back sections.Outputs into ps kinds.Output p e c = came sections.Outputs into ps p e c
back sections.Bad into ps kinds.Justice p e c = absurd (nothing e c)
back sections.Outputs into ps kinds.Justice p e c = absurd (nothing e c)
back sections.Bad into ps kinds.Fairness p e c = absurd (nothing e c)
back sections.Outputs into ps kinds.Fairness p e c = absurd (nothing e c)

pub moved_distinct : (into : PropertySection) (positions : List ℕ) (p : ℕ)
    → AllPairs (λ x y. x ≢ y) (moved into positions p)
moved_distinct into positions p =
    pairs_mapped (λ a b. a < b) (λ x y. x ≢ y) (λ (n : ℕ). let k : Key = (kind_of into, n) in k)
    (λ a b lt e. let same : a ≡ b = ap (λ (k : Key). k.1) e in omega (arith, same)) (places_from 0 positions p)
    (places_rise 0 positions p)

each : (from into : PropertySection) (positions : List ℕ) (k : Kind) (p : ℕ)
    → AllPairs (λ x y. x ≢ y) (kept_entries from into positions k p)
each from into ps kinds.Input p = pairs_one (λ x y. x ≢ y) (kinds.Input, p)
each from into ps kinds.Latch p = pairs_one (λ x y. x ≢ y) (kinds.Latch, p)
each from into ps kinds.Constraint p = pairs_one (λ x y. x ≢ y) (kinds.Constraint, p)
each sections.Bad into ps kinds.Bad p = moved_distinct into ps p
each sections.Outputs into ps kinds.Bad p = pairs_none (λ x y. x ≢ y)
each sections.Bad into ps kinds.Output p = pairs_none (λ x y. x ≢ y)
each sections.Outputs into ps kinds.Output p = moved_distinct into ps p
each sections.Bad into ps kinds.Justice p = pairs_none (λ x y. x ≢ y)
each sections.Outputs into ps kinds.Justice p = pairs_none (λ x y. x ≢ y)
each sections.Bad into ps kinds.Fairness p = pairs_none (λ x y. x ≢ y)
each sections.Outputs into ps kinds.Fairness p = pairs_none (λ x y. x ≢ y)

-- the entries of names
pub keys_named : (es : List Key) (name : List ℕ) → keys_of (map (λ (e : Key). (e, name)) es) ≡ es
keys_named [] name = refl
keys_named (e ∷ es) name = ap (λ (ks : List Key). e ∷ ks) (keys_named es name)

module _ (from into : PropertySection) (positions : List ℕ) where
  kept_keys : (symbols : List (Key × List ℕ)) → keys_of (flat_map (kept_symbols from into positions) symbols)
      ≡ flat_map (kept_of from into positions) (keys_of symbols)
  kept_keys [] = refl
  kept_keys (s ∷ symbols) =
      let these = kept_symbols from into positions s in
      let those = flat_map (kept_symbols from into positions) symbols in
      map-append (λ (t : Key × List ℕ). t.0) these those
      ∙ ap (λ (ks : List Key). ks ++ keys_of those) (keys_named (kept_of from into positions s.0) s.1)
      ∙ ap (λ (ks : List Key). kept_of from into positions s.0 ++ ks) (kept_keys symbols)

  entries_distinct : (keys : List Key) → AllPairs (λ x y. x ≢ y) keys
      → AllPairs (λ x y. x ≢ y) (flat_map (kept_of from into positions) keys)
  entries_distinct keys h =
      pieces_distinct (kept_of from into positions) (origin from into positions)
      (λ k e c. back from into positions k.0 k.1 e c) (λ k. each from into positions k.0 k.1) keys h

  -- no entry has two of the names that are left
  pub kept_distinct : (symbols : List (Key × List ℕ)) → AllPairs (λ x y. x ≢ y) (keys_of symbols)
      → AllPairs (λ x y. x ≢ y) (keys_of (flat_map (kept_symbols from into positions) symbols))
  kept_distinct symbols h =
      subst (λ (ks : List Key). AllPairs (λ x y. x ≢ y) ks) (sym (kept_keys symbols)) (entries_distinct (keys_of symbols) h)

  -- what is left of the next symbol names no entry that has a name already
  pub next_distinct : (front : List (Key × List ℕ)) (s : Key × List ℕ) (left : List (Key × List ℕ))
      → AllPairs (λ x y. x ≢ y) (keys_of (front ++ s ∷ left))
      → AllPairs (λ x y. x ≢ y) (keys_of (flat_map (kept_symbols from into positions) front) ++ kept_of from into positions s.0)
  next_distinct front s left h =
      let whole : keys_of (front ++ s ∷ left) ≡ (keys_of front ++ s.0 ∷ []) ++ keys_of left =
      map-append (λ (t : Key × List ℕ). t.0) front (s ∷ left) ∙ sym (append_assoc (keys_of front) (s.0 ∷ []) (keys_of left)) in
      let here = pairs_left (λ x y. x ≢ y) (keys_of front ++ s.0 ∷ []) (keys_of left)
      (subst (λ (ks : List Key). AllPairs (λ x y. x ≢ y) ks) whole h) in
      let parts : flat_map (kept_of from into positions) (keys_of front ++ s.0 ∷ [])
      ≡ keys_of (flat_map (kept_symbols from into positions) front) ++ kept_of from into positions s.0 =
      flat_map-append (kept_of from into positions) (keys_of front) (s.0 ∷ [])
      ∙ ap (λ (ks : List Key). flat_map (kept_of from into positions) (keys_of front) ++ ks) (append-nil (kept_of from into positions s.0))
      ∙ ap (λ (ks : List Key). ks ++ kept_of from into positions s.0) (sym (kept_keys front)) in
      subst (λ (ks : List Key). AllPairs (λ x y. x ≢ y) ks) parts (entries_distinct (keys_of front ++ s.0 ∷ []) here)
