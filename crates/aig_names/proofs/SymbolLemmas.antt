-- The symbol of an entry.
use Rattle.std.proofs.Common.{◌≡◌, ◌≢◌, ℕ, zero, suc, ◌<◌, Bool, true, false, ◌&&◌, List, [], ◌∷◌, length, get_or}
use Rattle.std.proofs.Common.{Contains, AllPairs, refl, sym, ap, ◌∙◌, arith}
use Rattle.std.specs.Prelude.{◌==◌}
use Rattle.std.specs.Map.{keys_of}
use Rattle.std.proofs.lemmas.Bool.{eqb-true, eq-eqb, cond-true, cond-false, and_parts}
use Rattle.std.proofs.lemmas.List.{get_or-map, length-map}
use Rattle.aig_parts.specs.declared.symbols.Kind.{Kind}
use Rattle.aig_parts.specs.Letters.{letter}
use Rattle.aig_parts.specs.SymbolPlaces.{Key}
use Rattle.aig_parts.proofs.LetterLemmas.{same_kind}
use Rattle.aig_names.specs.Names.{symbol_of}

-- the test of an entry
abbrev is_entry : Key → Kind → ℕ → Bool
is_entry k kind p = letter k.0 == letter kind && k.1 == p

same_entry : (k : Key) (kind : Kind) (p : ℕ) → is_entry k kind p ≡ true → k ≡ (kind, p)
same_entry k kind p h =
    let (a, b) = and_parts (letter k.0 == letter kind) (k.1 == p) h in
    let e = same_kind k.0 kind (eqb-true (letter k.0) (letter kind) a) in
    let q = eqb-true k.1 p b in
    λ i. (e i, q i)

entry_same : (kind : Kind) (p : ℕ) → is_entry (kind, p) kind p ≡ true
entry_same kind p =
    let a = eq-eqb (letter kind) (letter kind) refl in
    let b = eq-eqb p p refl in
    λ i. a i && b i

-- a symbol that is there is the entry's
found_step : (s : Key × List ℕ) (symbols : List (Key × List ℕ)) (kind : Kind) (p : ℕ) (name : List ℕ) (t : Bool)
    → is_entry s.0 kind p ≡ t → (s.0 ≡ (kind, p) → ⊥) → symbol_of symbols kind p ≡ name
    → symbol_of (s ∷ symbols) kind p ≡ name
unfolding symbol_of
found_step s symbols kind p name true e other h = absurd (other (same_entry s.0 kind p e))
found_step s symbols kind p name false e other h =
    cond-false (is_entry s.0 kind p) s.1 (symbol_of symbols kind p) e ∙ h

found_first : (s : Key × List ℕ) (symbols : List (Key × List ℕ)) (kind : Kind) (p : ℕ) (name : List ℕ)
    → s ≡ ((kind, p), name) → symbol_of (s ∷ symbols) kind p ≡ name
unfolding symbol_of
found_first s symbols kind p name e =
    cond-true (is_entry s.0 kind p) s.1 (symbol_of symbols kind p)
    (ap (λ (k : Key). is_entry k kind p) (ap (λ (x : Key × List ℕ). x.0) e) ∙ entry_same kind p)
    ∙ ap (λ (x : Key × List ℕ). x.1) e

found_at : (symbols : List (Key × List ℕ)) (kind : Kind) (p : ℕ) (name : List ℕ) (j : ℕ) → j < length symbols
    → get_or symbols j ((kind, p), name) ≡ ((kind, p), name) → AllPairs (λ x y. x ≢ y) (keys_of symbols)
    → symbol_of symbols kind p ≡ name
found_at [] kind p name j lt at once = absurd (omega (arith, lt))
found_at (s ∷ symbols) kind p name zero lt at once = found_first s symbols kind p name at
found_at (s ∷ symbols) kind p name (suc j) lt at once =
    let inside : j < length symbols = omega (arith, lt) in
    let key : get_or (keys_of symbols) j (kind, p) ≡ (kind, p) =
    get_or-map (λ (x : Key × List ℕ). x.0) symbols j ((kind, p), name) (kind, p) inside
    ∙ ap (λ (x : Key × List ℕ). x.0) at in
    found_step s symbols kind p name (is_entry s.0 kind p) refl
    (λ e. once 0 (suc j) (kind, p) (omega arith) (omega (arith, inside, length-map symbols (λ (x : Key × List ℕ). x.0))) (e ∙ sym key))
    (found_at symbols kind p name j inside at (λ a b d l m. once (suc a) (suc b) d (omega (arith, l)) (omega (arith, m))))

pub symbol_found : (symbols : List (Key × List ℕ)) (kind : Kind) (p : ℕ) (name : List ℕ)
    → Contains symbols ((kind, p), name) → AllPairs (λ x y. x ≢ y) (keys_of symbols) → symbol_of symbols kind p ≡ name
symbol_found symbols kind p name (j, lt, at) once = found_at symbols kind p name j lt at once

-- an entry without a symbol
missing_step : (s : Key × List ℕ) (symbols : List (Key × List ℕ)) (kind : Kind) (p : ℕ) (t : Bool)
    → is_entry s.0 kind p ≡ t → (s.0 ≡ (kind, p) → ⊥) → symbol_of symbols kind p ≡ [] → symbol_of (s ∷ symbols) kind p ≡ []
unfolding symbol_of
missing_step s symbols kind p true e other h = absurd (other (same_entry s.0 kind p e))
missing_step s symbols kind p false e other h =
    cond-false (is_entry s.0 kind p) s.1 (symbol_of symbols kind p) e ∙ h

pub symbol_missing : (symbols : List (Key × List ℕ)) (kind : Kind) (p : ℕ)
    → (Contains (keys_of symbols) (kind, p) → ⊥) → symbol_of symbols kind p ≡ []
unfolding symbol_of
symbol_missing [] kind p lacks = refl
symbol_missing (s ∷ symbols) kind p lacks =
    missing_step s symbols kind p (is_entry s.0 kind p) refl (λ e. lacks (0, omega arith, e))
    (symbol_missing symbols kind p (λ (j, lt, at). lacks (suc j, omega (arith, lt), at)))
