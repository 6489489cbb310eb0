-- Literals that are named one after the other.
use Rattle.std.proofs.Common.{◌≡◌, ◌≢◌, ◌⊎◌, inl, inr, ℕ, ◌+◌, ◌-◌, ◌*◌, ◌/◌, ◌%◌, ◌<◌, nat_eq, if◌then◌else◌, Bool}
use Rattle.std.proofs.Common.{false, not, List, [], ◌∷◌, ◌++◌, length, replicate, set, get_or, Contains, refl, sym, ap}
use Rattle.std.proofs.Common.{◌∙◌, subst, arith}
use denote.Enum.Bare.{sameb}
use Rattle.std.proofs.lemmas.Bool.{cases_eq, false≢true}
use Rattle.std.proofs.lemmas.Bool.Decides.{eqb_tells}
use Rattle.std.proofs.lemmas.List.{ext_get_or, get_or-replicate, get_or-set_same, get_or-set_other, length-replicate}
use Rattle.std.proofs.lemmas.List.{length-set}
use Rattle.std.proofs.lemmas.List.Elements.{Contains-append_left, Contains-push, Contains-push_cases}
use Rattle.aig_parts.specs.Literal.{negation}
use Rattle.aig_parts.specs.contracts.ternary.Tern.{the_type}
use Rattle.aig_parts.specs.declared.ternary.Tern.{Tern}
use Rattle.aig_parts.specs.declared.ternary.Tern.TheVariants.{Zero, One, X}
use Rattle.aig_sat.specs.model.Named.{NamesValue, AreNamed}

empty : (x : ℕ) → Contains [] x → ⊥
empty x h = let lt = h.1 in omega (arith, lt)

-- no literal is named
pub none_named : (n : ℕ) (values : List Tern) → values ≡ replicate n X → AreNamed [] n values
none_named n values is = record {
  count = ap length is ∙ length-replicate n X;
  each = λ v lt.
      subst (NamesValue [] v) (sym (ap (λ (xs : List Tern). get_or xs v X) is ∙ get_or-replicate n v X X lt))
      (empty (2 * v), empty (2 * v + 1));
}

-- a literal that is neither of a variable's two leaves its value
other : (literals : List ℕ) (l v : ℕ) (w : Tern) → l ≢ 2 * v → l ≢ 2 * v + 1 → NamesValue literals v w
    → NamesValue (literals ++ l ∷ []) v w
other literals l v w not_even not_odd = by w
  where
    never : (x : ℕ) → l ≢ x → (Contains literals x → ⊥) → Contains (literals ++ l ∷ []) x → ⊥
    never x ne lacks h = elim (Contains-push_cases literals l x h) [ inl before ↦ lacks before | inr e ↦ ne e ]

    by : (w : Tern) → NamesValue literals v w → NamesValue (literals ++ l ∷ []) v w
    by Zero (has, lacks) =
        (Contains-append_left literals (l ∷ []) (2 * v + 1) has, never (2 * v) not_even lacks)
    by One (has, lacks) =
        (Contains-append_left literals (l ∷ []) (2 * v) has, never (2 * v + 1) not_odd lacks)
    by X (lacks, lacks') = (never (2 * v) not_even lacks, never (2 * v + 1) not_odd lacks')

-- the variable's own literal
own_one : (literals : List ℕ) (l v : ℕ) (w : Tern) → l ≡ 2 * v → (w ≡ X) ⊎ (w ≡ One) → NamesValue literals v w
    → NamesValue (literals ++ l ∷ []) v One
own_one literals l v w e free h = (
  subst (Contains (literals ++ l ∷ [])) e (Contains-push literals l),
  λ k. elim (Contains-push_cases literals l (2 * v + 1) k) [
    | inl before ↦ lacks w free h before
    | inr same ↦ omega (arith, e, same)
  ],
)
  where
    lacks : (w : Tern) → (w ≡ X) ⊎ (w ≡ One) → NamesValue literals v w → Contains literals (2 * v + 1) → ⊥
    lacks Zero (inl e) h = let k : ⊥ = cc in absurd k
    lacks Zero (inr e) h = let k : ⊥ = cc in absurd k
    lacks One free h = h.1
    lacks X free h = h.1

own_zero : (literals : List ℕ) (l v : ℕ) (w : Tern) → l ≡ 2 * v + 1 → (w ≡ X) ⊎ (w ≡ Zero) → NamesValue literals v w
    → NamesValue (literals ++ l ∷ []) v Zero
own_zero literals l v w e free h = (
  subst (Contains (literals ++ l ∷ [])) e (Contains-push literals l),
  λ k. elim (Contains-push_cases literals l (2 * v) k) [
    | inl before ↦ lacks w free h before
    | inr same ↦ omega (arith, e, same)
  ],
)
  where
    lacks : (w : Tern) → (w ≡ X) ⊎ (w ≡ Zero) → NamesValue literals v w → Contains literals (2 * v) → ⊥
    lacks One (inl e) h = let k : ⊥ = cc in absurd k
    lacks One (inr e) h = let k : ⊥ = cc in absurd k
    lacks Zero free h = h.1
    lacks X free h = h.0

module _ (literals : List ℕ) (l : ℕ) (values : List Tern) (h : AreNamed literals (length values) values)
    (lt : l / 2 < length values) where
  named_with : (w : Tern) → NamesValue (literals ++ l ∷ []) (l / 2) w
      → AreNamed (literals ++ l ∷ []) (length values) (set values (l / 2) w)
  named_with w here = record {
    count = length-set values (l / 2) w;
    each = λ v below. elim (cases_eq v (l / 2)) [
      | inl e ↦
          subst (λ (u : ℕ). NamesValue (literals ++ l ∷ []) u (get_or (set values (l / 2) w) u X)) (sym e)
          (subst (NamesValue (literals ++ l ∷ []) (l / 2)) (sym (get_or-set_same values (l / 2) w X lt)) here)
      | inr ne ↦
          subst (NamesValue (literals ++ l ∷ []) v) (sym (get_or-set_other values (l / 2) v w X ne))
          (other literals l v (get_or values v X) (λ e. ne (omega (arith, e))) (λ e. ne (omega (arith, e)))
          (h.each v below))
    ];
  }

  pub one_named : l % 2 ≡ 0 → (get_or values (l / 2) X ≡ X) ⊎ (get_or values (l / 2) X ≡ One)
      → AreNamed (literals ++ l ∷ []) (length values) (set values (l / 2) One)
  one_named even free =
      named_with One (own_one literals l (l / 2) (get_or values (l / 2) X) (omega (arith, even)) free (h.each (l / 2) lt))

  pub zero_named : l % 2 ≡ 1 → (get_or values (l / 2) X ≡ X) ⊎ (get_or values (l / 2) X ≡ Zero)
      → AreNamed (literals ++ l ∷ []) (length values) (set values (l / 2) Zero)
  zero_named odd free =
      named_with Zero (own_zero literals l (l / 2) (get_or values (l / 2) X) (omega (arith, odd)) free (h.each (l / 2) lt))

-- a literal that is not negated
pub even : (l : ℕ) → (l % 2 ≡ 1 → ⊥) → l % 2 ≡ 0
even l h = omega arith

-- the other literal of a variable, by the sign
signed : (l : ℕ) (t : Bool) → nat_eq (l % 2) 0 ≡ t → negation l ≡ (if t then l + 1 else l - 1)
signed l t e = ap (λ (t : Bool). if t then l + 1 else l - 1) e

-- no variable is named with both signs
pub both_signs : (literals : List ℕ) (n : ℕ) (values : List Tern) (l : ℕ) → AreNamed literals n values → l / 2 < n
    → Contains literals l → Contains literals (negation l) → ⊥
both_signs literals n values l h lt has has' = elim (eqb_tells (l % 2) 0) [
  | inl is ↦
      never _ (h.each (l / 2) lt) (subst (Contains literals) (omega (arith, is.1)) has)
      (subst (Contains literals) (signed l _ is.0 ∙ omega (arith, is.1)) has')
  | inr is ↦
      never _ (h.each (l / 2) lt)
      (subst (Contains literals) (signed l _ is.0 ∙ omega (arith, is.1)) has')
      (subst (Contains literals) (omega (arith, is.1)) has)
]
  where
    never : (w : Tern) → NamesValue literals (l / 2) w → Contains literals (2 * (l / 2)) → Contains literals (2 * (l / 2) + 1) → ⊥
    never Zero h a b = h.1 a
    never One h a b = h.1 b
    never X h a b = h.0 a

-- literals name one value for each variable
one_value : (literals : List ℕ) (v : ℕ) (w u : Tern) → NamesValue literals v w → NamesValue literals v u → w ≡ u
one_value literals v Zero Zero h k = refl
one_value literals v Zero One h k = absurd (h.1 k.0)
one_value literals v Zero X h k = absurd (k.1 h.0)
one_value literals v One Zero h k = absurd (h.1 k.0)
one_value literals v One One h k = refl
one_value literals v One X h k = absurd (k.0 h.0)
one_value literals v X Zero h k = absurd (h.1 k.0)
one_value literals v X One h k = absurd (h.0 k.0)
one_value literals v X X h k = refl

pub one_naming : (literals : List ℕ) (n : ℕ) (values values' : List Tern) → AreNamed literals n values
    → AreNamed literals n values' → values ≡ values'
one_naming literals n values values' h k =
    ext_get_or X values values' (h.count ∙ sym k.count) (λ v lt.
    let below : v < n = omega (arith, lt, h.count) in
    one_value literals v (get_or values v X) (get_or values' v X) (h.each v below) (k.each v below))

-- a variable that is 1, or 0
pub one_has : (literals : List ℕ) (n : ℕ) (values : List Tern) (l : ℕ) → AreNamed literals n values → l / 2 < n
    → get_or values (l / 2) X ≡ One → l % 2 ≡ 1 → Contains literals (negation l)
one_has literals n values l h lt value odd = elim (eqb_tells (l % 2) 0) [
  | inl is ↦ absurd (omega (arith, is.1, odd))
  | inr is ↦
      subst (Contains literals) (omega (arith, odd) ∙ sym (signed l _ is.0))
      (subst (NamesValue literals (l / 2)) value (h.each (l / 2) lt)).0
]

pub zero_has : (literals : List ℕ) (n : ℕ) (values : List Tern) (l : ℕ) → AreNamed literals n values → l / 2 < n
    → get_or values (l / 2) X ≡ Zero → l % 2 ≡ 0 → Contains literals (negation l)
zero_has literals n values l h lt value is_even = elim (eqb_tells (l % 2) 0) [
  | inl is ↦
      subst (Contains literals) (omega (arith, is_even) ∙ sym (signed l _ is.0))
      (subst (NamesValue literals (l / 2)) value (h.each (l / 2) lt)).0
  | inr is ↦ absurd (is.1 is_even)
]

-- ---- what is not the other value

pub is_one : (w : Tern) → not (sameb the_type w One) ≡ false → w ≡ One
is_one Zero e = absurd (false≢true (sym e))
is_one One e = refl
is_one X e = absurd (false≢true (sym e))

pub is_zero : (w : Tern) → not (sameb the_type w Zero) ≡ false → w ≡ Zero
is_zero Zero e = refl
is_zero One e = absurd (false≢true (sym e))
is_zero X e = absurd (false≢true (sym e))

pub x_or_one : (w : Tern) → w ≢ Zero → (w ≡ X) ⊎ (w ≡ One)
x_or_one Zero ne = absurd (ne refl)
x_or_one One ne = inr refl
x_or_one X ne = inl refl

pub x_or_zero : (w : Tern) → w ≢ One → (w ≡ X) ⊎ (w ≡ Zero)
x_or_zero Zero ne = inr refl
x_or_zero One ne = absurd (ne refl)
x_or_zero X ne = inl refl
