-- Entries in a list so far as they ascend, and after it in a table.
use Rattle.std.proofs.Common.{◌≡◌, ◌≢◌, ◌⊎◌, inl, inr, ℕ, ◌+◌, ◌-◌, ◌<◌, ◌≤◌, List, [], ◌∷◌, ◌++◌, length, take, drop}
use Rattle.std.proofs.Common.{get_or, Contains, AllPairs, Ok, Err, sym, ap, subst, ◌∙◌, arith}
use Rattle.std.specs.Prelude.{All, Option, Some, None, slice_get}
use Rattle.std.specs.List.Sorted.{IsBinarySearchResult, IsNonDecreasingBy}
use Rattle.std.specs.Map.{keys_of, lookup}
use Rattle.std.specs.Ordering.{nat_cmp, ordering_index}
use Rattle.std.proofs.lemmas.Bool.{cases_eq, cases_lt}
use Rattle.std.proofs.lemmas.Bool.Decides.{nat_tests}
use Rattle.std.proofs.lemmas.Cmp.{ranked}
use Rattle.std.proofs.lemmas.List.{map-append, append_assoc, append-nil, nil_from_length, length-take-le, take_more}
use Rattle.std.proofs.lemmas.List.{get_or-take, get_or-map, get_or-drop, length-drop, get_or_default, take-append-drop}
use Rattle.std.proofs.lemmas.List.Elements.{Contains-get_or, Contains-append_right, Contains-append_cases}
use Rattle.std.proofs.lemmas.List.Quantifiers.{all_pairs_push}
use Rattle.std.proofs.lemmas.Map.Entries.{length-keys_of, place_from_lookup}
use Rattle.std.proofs.lemmas.List.Sums.{fold_push}
use Rattle.std.proofs.lemmas.Option.{slice_get_within, get_or_from_slice_get}
use Rattle.aig_parts.proofs.SymbolKeys.{key_eq, key_same}
use Rattle.aig_parts.specs.declared.symbols.places.Place.{Place}
use Rattle.aig_parts.specs.declared.symbols.Kind.TheVariants.{Input}
use Rattle.aig_parts.specs.SymbolPlaces.{Key}
use Rattle.std.specs.Hash.DefaultHasher as sip
use Rattle.aig_parts.specs.state.SymbolHash.{mix, mixed_of}
use Rattle.aig_parts.specs.state.SymbolRanks.{Ranks, AreEntered}
use Rattle.aig_parts.specs.state.SymbolTable.{key_number, Ascend, IsSymbolTable}

-- an entry to read where there is none
abbrev pub nowhere : Key × Place
nowhere = ((Input, 0), record { start = 0; end = 0 })

-- the entry of a place among the keys
pub key_at : (es : List (Key × Place)) (i : ℕ) (d : Key × Place) (k : Key) → i < length es → get_or (keys_of es) i k ≡ (get_or es i d).0
key_at es i d k inside = get_or-map (λ (x : Key × Place). x.0) es i d k inside

-- ---- entries that ascend

-- one more of the first ones
pub ascend_more : (es : List (Key × Place)) (i : ℕ) (d : Key × Place) → 0 < i → i < length es
    → key_number (get_or es (i - 1) d).0 < key_number (get_or es i d).0 → Ascend (take i es) → Ascend (take (i + 1) es)
ascend_more es i d some inside up ascend =
    let size : length (take i es) ≡ i = length-take-le i es (omega arith) in
    let R : Key × Place → Key × Place → Type 0 = λ x y. key_number x.0 < key_number y.0 in
    let last = get_or es i d in
    let below : (k : ℕ) (e : Key × Place) → k < length (take i es) → R (get_or (take i es) k e) last = λ k e lt.
    let end : get_or (take i es) (i - 1) e ≡ get_or es (i - 1) d =
    get_or-take i es (i - 1) e (omega arith) ∙ get_or_default es (i - 1) e d (omega arith) in
    elim (cases_eq k (i - 1)) [
      | inl same ↦ subst (λ (x : Key × Place). R x last) (sym (ap (λ (n : ℕ). get_or (take i es) n e) same ∙ end)) up
      | inr other ↦
          let step = ascend k (i - 1) e (omega (arith, size)) (omega (arith, size)) in
          let value = ap (λ (x : Key × Place). key_number x.0) end in
          omega (arith, step, value, up)
    ] in
    subst (λ (xs : List (Key × Place)). Ascend xs) (sym (take_more es i d inside))
    (all_pairs_push R (take i es) last ascend below)

-- a search among entries that ascend
module _ (es : List (Key × Place)) (ascend : Ascend es) (k : Key) where
  rise : IsNonDecreasingBy (λ (e : Key × Place). ordering_index (nat_cmp (key_number e.0) (key_number k))) es
  rise i j d le lt =
      let up : key_number (get_or es i d).0 ≤ key_number (get_or es j d).0 = elim (cases_eq i j) [
        | inl same ↦ omega (arith, ap (λ (n : ℕ). key_number (get_or es n d).0) same)
        | inr other ↦ omega (arith, ascend i j d (omega arith) lt)
      ] in
      grind (arith, nat_tests)

  pub absent_in_gap : (at : ℕ)
      → IsBinarySearchResult (λ (e : Key × Place). nat_cmp (key_number e.0) (key_number k)) es (Err at)
      → Contains (keys_of es) k → ⊥
  absent_in_gap at split (j, lt, is) =
      let inside : j < length es = omega (arith, length-keys_of es) in
      let same : key_number (get_or es j nowhere).0 ≡ key_number k =
      ap key_number (sym (key_at es j nowhere k inside) ∙ is) in
      elim (cases_lt j at) [
        | inl below ↦
            let less : key_number (get_or es j nowhere).0 < key_number k =
            ranked _ (key_number k) _ (sym ((split rise).0 j nowhere (omega arith) below)) in
            omega (arith, less, same)
        | inr appended ↦
            let more : key_number k < key_number (get_or es j nowhere).0 =
            ranked _ (key_number k) _ (sym ((split rise).1 j nowhere appended inside)) in
            omega (arith, more, same)
      ]

  pub absent_but_number : (at : ℕ) (d : Key × Place) → at < length es
      → IsBinarySearchResult (λ (e : Key × Place). nat_cmp (key_number e.0) (key_number k)) es (Ok at)
      → (get_or es at d).0 ≢ k → Contains (keys_of es) k → ⊥
  absent_but_number at d within equal differs (j, lt, is) =
      let inside : j < length es = omega (arith, length-keys_of es) in
      let there : key_number (get_or es at d).0 ≡ key_number k = ranked _ (key_number k) _ (sym (equal d)) in
      let here : (get_or es j d).0 ≡ k = sym (key_at es j d k inside) ∙ is in
      let same = ap key_number here in
      elim (cases_eq j at) [
        | inl e ↦ differs (ap (λ (n : ℕ). (get_or es n d).0) (sym e) ∙ here)
        | inr ne ↦ elim (cases_lt j at) [
          | inl below ↦ omega (arith, ascend j at d below within, there, same)
          | inr over ↦ omega (arith, ascend at j d (omega arith) inside, there, same)
        ]
      ]

-- an entry after the last one comes after all
pub comes_last : (es : List (Key × Place)) (n : ℕ) (d : Key × Place) → Ascend es → key_number (get_or es (length es - 1) d).0 < n
    → All (λ x. key_number x.0 < n) es
comes_last es n d ascend up k e lt =
    let end : get_or es (length es - 1) d ≡ get_or es (length es - 1) e = get_or_default es (length es - 1) d e (omega arith) in
    let value = ap (λ (x : Key × Place). key_number x.0) end in
    elim (cases_eq k (length es - 1)) [
      | inl same ↦ omega (arith, ap (λ (i : ℕ). key_number (get_or es i e).0) same, value, up)
      | inr other ↦ omega (arith, ascend k (length es - 1) e (omega arith) (omega arith), value, up)
    ]

-- ---- no entry comes twice

pub once_more : (es : List (Key × Place)) (k : Key) (p : Place) → AllPairs (λ x y. x ≢ y) (keys_of es)
    → (Contains (keys_of es) k → ⊥) → AllPairs (λ x y. x ≢ y) (keys_of (es ++ (k, p) ∷ []))
once_more es k p once fresh =
    subst (λ (ks : List Key). AllPairs (λ x y. x ≢ y) ks) (sym (map-append (λ (e : Key × Place). e.0) es ((k, p) ∷ [])))
    (all_pairs_push (λ x y. x ≢ y) (keys_of es) k once
    (λ i d lt e. fresh (subst (λ (x : Key). Contains (keys_of es) x) e (Contains-get_or (keys_of es) i d lt))))

-- the entries from a place on
pub once_after : (es : List (Key × Place)) (n : ℕ) → AllPairs (λ x y. x ≢ y) (keys_of es)
    → AllPairs (λ x y. x ≢ y) (keys_of (drop n es))
once_after es n once i j d lt inside e =
    let w : Key × Place = (d, record { start = 0; end = 0 }) in
    let size = length-drop n es in
    let within : j < length (drop n es) = omega (arith, length-keys_of (drop n es)) in
    let at : (m : ℕ) → m < length (drop n es) → get_or (keys_of (drop n es)) m d ≡ get_or (keys_of es) (n + m) d = λ m low.
    key_at (drop n es) m w d low
    ∙ ap (λ (x : Key × Place). x.0) (get_or-drop n es m w)
    ∙ sym (key_at es (n + m) w d (omega (arith, size))) in
    once (n + i) (n + j) d (omega arith) (omega (arith, size, length-keys_of es))
    (sym (at i (omega arith)) ∙ e ∙ at j within)

-- entries that ascend, and no others
pub all_listed : (es others : List (Key × Place)) → others ≡ [] → Ascend es → AllPairs (λ x y. x ≢ y) (keys_of es)
    → IsSymbolTable es None others
all_listed es others none ascend once =
    subst (λ (xs : List (Key × Place)). IsSymbolTable es None xs) (sym none) (record {
      findable = ascend;
      once = subst (λ (xs : List (Key × Place)). AllPairs (λ x y. x ≢ y) (keys_of xs)) (sym (append-nil es)) once;
    })

-- the first entries, and the others
pub parted : (es : List (Key × Place)) (n : ℕ) (ranks : Ranks) → AreEntered ranks (take n es)
    → AllPairs (λ x y. x ≢ y) (keys_of es) → IsSymbolTable (take n es) (Some ranks) (drop n es)
parted es n ranks entered once = record {
  findable = entered;
  once = subst (λ (xs : List (Key × Place)). AllPairs (λ x y. x ≢ y) (keys_of xs)) (sym (take-append-drop n es)) once;
}

-- the number of one more entry is mixed in
pub mixed_more : (es : List (Key × Place)) (i : ℕ) (d : Key × Place) → i < length es
    → mix (mixed_of (keys_of (take i es))) (get_or es i d).0 ≡ mixed_of (keys_of (take (i + 1) es))
mixed_more es i d lt =
    sym (ap (λ (xs : List (Key × Place)). mixed_of (keys_of xs)) (take_more es i d lt)
    ∙ ap mixed_of (map-append (λ (e : Key × Place). e.0) (take i es) (get_or es i d ∷ []))
    ∙ fold_push mix sip.initial (keys_of (take i es)) (get_or es i d).0)

-- ---- one more entry of a table

module _ (ascending others : List (Key × Place)) (ranks : Option Ranks) (k : Key) (p : Place)
    (table : IsSymbolTable ascending ranks others) (fresh : Contains (keys_of (ascending ++ others)) k → ⊥) where
  -- after the others
  pub appended : ascending ++ (others ++ (k, p) ∷ []) ≡ (ascending ++ others) ++ (k, p) ∷ []
  appended = sym (append_assoc ascending others ((k, p) ∷ []))

  pub pushed_after : IsSymbolTable ascending ranks (others ++ (k, p) ∷ [])
  pushed_after = record {
    findable = table.findable;
    once = subst (λ (es : List (Key × Place)). AllPairs (λ x y. x ≢ y) (keys_of es)) (sym appended)
        (once_more (ascending ++ others) k p table.once fresh);
  }

  -- after those that ascend, where there are no others
  module _ (none : length others ≡ 0) where
    whole : ascending ++ others ≡ ascending
    whole = ap (λ (es : List (Key × Place)). ascending ++ es) (nil_from_length others none) ∙ append-nil ascending

    pub pushed_view : (ascending ++ (k, p) ∷ []) ++ others ≡ (ascending ++ others) ++ (k, p) ∷ []
    pushed_view =
        ap (λ (es : List (Key × Place)). (ascending ++ (k, p) ∷ []) ++ es) (nil_from_length others none)
        ∙ append-nil (ascending ++ (k, p) ∷ [])
        ∙ ap (λ (es : List (Key × Place)). es ++ (k, p) ∷ []) (sym whole)

    pub pushed : Ascend ascending → All (λ x. key_number x.0 < key_number k) ascending
        → IsSymbolTable (ascending ++ (k, p) ∷ []) None others
    pushed ascend low = record {
      findable = all_pairs_push (λ x y. key_number x.0 < key_number y.0) ascending (k, p) ascend low;
      once = subst (λ (es : List (Key × Place)). AllPairs (λ x y. x ≢ y) (keys_of es)) (sym pushed_view)
          (once_more (ascending ++ others) k p table.once fresh);
    }

-- ---- a look at both

pub not_other : (ascending others : List (Key × Place)) (k : Key) → (Contains (keys_of (ascending ++ others)) k → ⊥)
    → Contains (keys_of others) k → ⊥
not_other ascending others k fresh there =
    fresh (subst (λ (ks : List Key). Contains ks k) (sym (map-append (λ (e : Key × Place). e.0) ascending others))
    (Contains-append_right (keys_of ascending) (keys_of others) k there))

pub key_among : (ascending others : List (Key × Place)) (k : Key) → Contains (keys_of (ascending ++ others)) k
    → Contains (keys_of ascending) k ⊎ Contains (keys_of others) k
key_among ascending others k there =
    Contains-append_cases (keys_of ascending) (keys_of others) k
    (subst (λ (ks : List Key). Contains ks k) (map-append (λ (e : Key × Place). e.0) ascending others) there)

pub among_others : (ascending others : List (Key × Place)) (k : Key) (p : Place) → lookup (key_eq k) others ≡ Some p
    → Contains (ascending ++ others) (k, p)
among_others ascending others k p found =
    let (i, k', at, same) = place_from_lookup (key_eq k) others p found in
    let is : k' ≡ k = sym ((key_same k k').0 same) in
    let here : slice_get others i ≡ Some (k, p) = at ∙ ap (λ (x : Key). Some (x, p)) is in
    Contains-append_right ascending others (k, p)
    (i, slice_get_within others i (k, p) here, get_or_from_slice_get others i (k, p) (k, p) here)
