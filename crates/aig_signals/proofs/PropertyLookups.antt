-- A name that is looked up among the symbols.
use Rattle.std.proofs.Common.{◌≡◌, ◌≢◌, ◌⊎◌, inl, inr, ℕ, ◌<◌, ◌≤◌, List, [], ◌∷◌, ◌++◌, AllPairs, Contains}
use Rattle.std.proofs.Common.{true, eqb, zero, suc, arith}
use Rattle.std.proofs.Common.{refl, sym, ap, subst, ◌∙◌, append_assoc}
use Rattle.std.specs.Cmp.Lexicographic.{pointwise}
use Rattle.std.specs.Map.{keys_of}
use Rattle.std.proofs.lemmas.Bool.{eq-eqb}
use Rattle.std.proofs.lemmas.List.{append-nil, map-append}
use Rattle.std.proofs.lemmas.List.Elements.{Contains-append_left, Contains-push}
use Rattle.std.proofs.lemmas.List.Elements.{Contains-push_cases}
use Rattle.aig_parts.specs.declared.symbols.Kind.{Kind}
use Rattle.aig_parts.specs.SymbolPlaces.{Key}
use Rattle.aig_base.proofs.selections.Distinct.{not_before}
use Rattle.aig_signals.specs.declared.property.lookup.Found.{Found}
use Rattle.aig_signals.specs.declared.property.lookup.Found.TheVariants as found
use Rattle.aig_signals.specs.state.Found.{Adds}

pub same_bytes : (xs : List ℕ) → pointwise eqb xs xs ≡ true
same_bytes [] = refl
same_bytes (x ∷ xs) = rw (eq-eqb x x refl) (same_bytes xs)

-- what was found of the positions for which P holds: none, the only one, or the two least
abbrev pub AreLeast : (ℕ → Type 0) → Found → Type 0
AreLeast P found.Nothing = (p : ℕ) → P p → ⊥
AreLeast P (found.One p) = P p × ((q : ℕ) → P q → q ≡ p)
AreLeast P (found.Two p q) = (p < q) × P p × P q × ((r : ℕ) → P r → (r ≡ p) ⊎ (q ≤ r))

-- more positions for which it holds are none
module _ (P Q : ℕ → Type 0) (more : (p : ℕ) → P p → Q p) (same : (p : ℕ) → Q p → P p) where
  least_still : (found : Found) → AreLeast P found → AreLeast Q found
  least_still found.Nothing none = λ p q. none p (same p q)
  least_still (found.One p) (is, only) = (more p is, λ q h. only q (same q h))
  least_still (found.Two p q) (before, is, also, others) = (before, more p is, more q also, λ r h. others r (same r h))

-- it is one more position
module _ (P Q : ℕ → Type 0) (n : ℕ) (fresh : P n → ⊥) (here : Q n) (more : (p : ℕ) → P p → Q p)
    (cases : (p : ℕ) → Q p → P p ⊎ (p ≡ n)) where
  less : (p : ℕ) → p ≤ n → P p → p < n
  less p most is = let other : p ≢ n = λ e. fresh (subst P e is) in omega (arith, most, other)

  least_more : (old new : Found) → Adds old n new → AreLeast P old → AreLeast Q new
  least_more found.Nothing new adds none =
      subst (λ (f : Found). AreLeast Q f) (sym adds)
      (here, λ q h. elim (cases q h) [ inl was ↦ absurd (none q was) | inr e ↦ e ])
  least_more (found.One p) new adds (is, only) = elim adds [
    | inl (before, e) ↦ subst (λ (f : Found). AreLeast Q f) (sym e) (
      before,
      here,
      more p is,
      λ r h. elim (cases r h) [
        | inl was ↦ let same = only r was in inr (omega (arith, same))
        | inr new_one ↦ inl new_one
      ],
    )
    | inr (most, e) ↦ subst (λ (f : Found). AreLeast Q f) (sym e) (
      less p most is,
      more p is,
      here,
      λ r h. elim (cases r h) [
        | inl was ↦ inl (only r was)
        | inr new_one ↦ inr (omega (arith, new_one))
      ],
    )
  ]
  least_more (found.Two p q) new adds (first, is, also, others) = elim adds [
    | inl (before, e) ↦ subst (λ (f : Found). AreLeast Q f) (sym e) (
      before,
      here,
      more p is,
      λ r h. elim (cases r h) [
        | inl was ↦ elim (others r was) [
          | inl same ↦ inr (omega (arith, same))
          | inr over ↦ inr (omega (arith, first, over))
        ]
        | inr new_one ↦ inl new_one
      ],
    )
    | inr later ↦ elim later [
      | inl (most, between, e) ↦ subst (λ (f : Found). AreLeast Q f) (sym e) (
        less p most is,
        more p is,
        here,
        λ r h. elim (cases r h) [
          | inl was ↦ elim (others r was) [
            | inl same ↦ inl same
            | inr over ↦ inr (omega (arith, between, over))
          ]
          | inr new_one ↦ inr (omega (arith, new_one))
        ],
      )
      | inr (most, e) ↦ subst (λ (f : Found). AreLeast Q f) (sym e) (
        first,
        more p is,
        more q also,
        λ r h. elim (cases r h) [
          | inl was ↦ others r was
          | inr new_one ↦ inr (omega (arith, most, new_one))
        ],
      )
    ]
  ]

module _ (kind : Kind) (name : List ℕ) where
  -- the entry at a position has the name
  abbrev pub Has : List (Key × List ℕ) → ℕ → Type 0
  Has symbols p = Contains symbols ((kind, p), name)

  -- what was found among the symbols
  abbrev pub AreFound : List (Key × List ℕ) → Found → Type 0
  AreFound symbols found = AreLeast (λ p. Has symbols p) found

key_of : (xs : List (Key × List ℕ)) (s : Key × List ℕ) → Contains xs s → Contains (keys_of xs) s.0
key_of [] s (k, l, e) = absurd (omega (arith, l))
key_of (x ∷ xs) s (zero, l, e) = (0, omega arith, ap (λ (t : Key × List ℕ). t.0) e)
key_of (x ∷ xs) s (suc k, l, e) = let (j, m, is) = key_of xs s (k, omega (arith, l), e) in (suc j, omega (arith, m), is)

-- what was found among the symbols in front; the others are to come
pub record Looking (kind : Kind) (name : List ℕ) (all : List (Key × List ℕ)) (found : Found) (rest : List (Key × List ℕ)) : Type 0 where
  pub front : List (Key × List ℕ)
  pub split : all ≡ front ++ rest
  pub is : AreFound kind name front found

module _ (kind : Kind) (name : List ℕ) (all : List (Key × List ℕ)) where
  split_more : (front rest rest' : List (Key × List ℕ)) (s : Key × List ℕ) → rest ≡ s ∷ rest' → all ≡ front ++ rest
      → all ≡ (front ++ s ∷ []) ++ rest'
  split_more front rest rest' s next split =
      split ∙ ap (λ (es : List (Key × List ℕ)). front ++ es) next ∙ sym (append_assoc front (s ∷ []) rest')

  -- a symbol that is not the one
  pub look_past : (rest rest' : List (Key × List ℕ)) (s : Key × List ℕ) (found : Found) → rest ≡ s ∷ rest'
      → (s.0.0 ≡ kind → s.1 ≡ name → ⊥) → Looking kind name all found rest → Looking kind name all found rest'
  look_past rest rest' s found next other w = record {
    front = w.front ++ s ∷ [];
    split = split_more w.front rest rest' s next w.split;
    is = least_still (λ p. Has kind name w.front p) (λ p. Has kind name (w.front ++ s ∷ []) p)
        (λ p has. Contains-append_left w.front (s ∷ []) ((kind, p), name) has) still found w.is;
  }
    where
      still : (q : ℕ) → Has kind name (w.front ++ s ∷ []) q → Has kind name w.front q
      still q c = elim (Contains-push_cases w.front s ((kind, q), name) c) [
        | inl here ↦ here
        | inr same ↦ absurd (other (ap (λ (e : Key × List ℕ). e.0.0) same) (ap (λ (e : Key × List ℕ). e.1) same))
      ]

  -- one that has the name; no entry is in the symbols twice
  pub look_found : (rest rest' : List (Key × List ℕ)) (s : Key × List ℕ) (old new : Found) → rest ≡ s ∷ rest' → s.0.0 ≡ kind
      → s.1 ≡ name → AllPairs (λ x y. x ≢ y) (keys_of all) → Adds old s.0.1 new → Looking kind name all old rest
      → Looking kind name all new rest'
  look_found rest rest' s old new next is_kind is_name distinct adds w =
      let same : s ≡ ((kind, s.0.1), name) = λ i. ((is_kind i, s.0.1), is_name i) in
      let whole : all ≡ w.front ++ s ∷ rest' = w.split ∙ ap (λ (es : List (Key × List ℕ)). w.front ++ es) next in
      let keys : keys_of all ≡ keys_of w.front ++ s.0 ∷ keys_of rest' =
      ap (λ (es : List (Key × List ℕ)). keys_of es) whole ∙ map-append (λ (t : Key × List ℕ). t.0) w.front (s ∷ rest') in
      let key : (kind, s.0.1) ≡ s.0 = λ i. (sym is_kind i, s.0.1) in
      record {
        front = w.front ++ s ∷ [];
        split = split_more w.front rest rest' s next w.split;
        is = least_more (λ p. Has kind name w.front p) (λ p. Has kind name (w.front ++ s ∷ []) p) s.0.1
            (λ has. not_before (keys_of w.front) (keys_of rest') s.0
            (subst (λ (ks : List Key). AllPairs (λ x y. x ≢ y) ks) keys distinct)
            (subst (λ (e : Key). Contains (keys_of w.front) e) key (key_of w.front ((kind, s.0.1), name) has)))
            (subst (λ (e : Key × List ℕ). Contains (w.front ++ s ∷ []) e) same (Contains-push w.front s))
            (λ p has. Contains-append_left w.front (s ∷ []) ((kind, p), name) has)
            (λ p has. elim (Contains-push_cases w.front s ((kind, p), name) has) [
              | inl here ↦ inl here
              | inr is ↦ inr (sym (ap (λ (e : Key × List ℕ). e.0.1) is))
            ])
            old new adds w.is;
      }

  -- all symbols
  pub look_end : (found : Found) (rest : List (Key × List ℕ)) → rest ≡ [] → Looking kind name all found rest
      → AreFound kind name all found
  look_end found rest none w =
      subst (λ (es : List (Key × List ℕ)). AreFound kind name es found)
      (sym (w.split ∙ ap (λ (es : List (Key × List ℕ)). w.front ++ es) none ∙ append-nil w.front)) w.is
