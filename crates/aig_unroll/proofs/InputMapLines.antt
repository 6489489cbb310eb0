-- The lines of an input map, one by one.
use Rattle.std.proofs.Common.{◌≡◌, ◌≢◌, ◌⊎◌, inl, inr, ℕ, zero, suc, ◌+◌, ◌<◌, Bool, true, false, ◌&&◌, List}
use Rattle.std.proofs.Common.{[], ◌∷◌, ◌++◌, length, get_or, Contains, AllPairs, Option, Ok, Err, IsErr, Result}
use Rattle.std.proofs.Common.{refl, sym, ap, ◌∙◌, arith, append_assoc}
use Rattle.std.specs.Prelude.{◌==◌, if◌then◌else◌}
use Rattle.std.specs.Map.{keys_of}
use Rattle.std.proofs.lemmas.Bool.{eqb-true, eq-eqb, false≢true, and_parts}
use Rattle.std.proofs.lemmas.List.{append-nil, get_or-map, length-map}
use Rattle.aig_bytes.specs.Bytes.{Writes}
use Rattle.aig_bytes.proofs.WriteLemmas.{writes_then, writes_stop, writes_same}
use Rattle.aig_parts.specs.declared.raw.Raw.{Raw}
use Rattle.aig_parts.specs.declared.symbols.Kind.{Kind}
use Rattle.aig_parts.specs.declared.symbols.Kind.TheVariants as kinds
use Rattle.aig_parts.specs.SymbolPlaces.{Key}
use Rattle.aig_unroll.specs.InputMap.{Origin, is_input, is_latch, symbol_name_at, origin_line, origin_lines}
use Rattle.aig_unroll.specs.Unrolled.{frames}

pub only_input : (k : Kind) → is_input k ≡ true → k ≡ kinds.Input
only_input kinds.Input h = refl
only_input kinds.Latch h = absurd (false≢true h)
only_input kinds.Output h = absurd (false≢true h)
only_input kinds.Bad h = absurd (false≢true h)
only_input kinds.Constraint h = absurd (false≢true h)
only_input kinds.Justice h = absurd (false≢true h)
only_input kinds.Fairness h = absurd (false≢true h)

pub only_latch : (k : Kind) → is_latch k ≡ true → k ≡ kinds.Latch
only_latch kinds.Input h = absurd (false≢true h)
only_latch kinds.Latch h = refl
only_latch kinds.Output h = absurd (false≢true h)
only_latch kinds.Bad h = absurd (false≢true h)
only_latch kinds.Constraint h = absurd (false≢true h)
only_latch kinds.Justice h = absurd (false≢true h)
only_latch kinds.Fairness h = absurd (false≢true h)

-- where the test chooses one section
module _ (test : Kind → Bool) (kind : Kind) (own : test kind ≡ true) (only : (k : Kind) → test k ≡ true → k ≡ kind) where
  abbrev is_entry : Key → ℕ → Bool
  is_entry k p = test k.0 && k.1 == p

  same_entry : (k : Key) (p : ℕ) → is_entry k p ≡ true → k ≡ (kind, p)
  same_entry k p h =
      let (a, b) = and_parts (test k.0) (k.1 == p) h in
      let e = only k.0 a in
      let q = eqb-true k.1 p b in
      λ i. (e i, q i)

  entry_same : (p : ℕ) → is_entry (kind, p) p ≡ true
  entry_same p = let b = eq-eqb p p refl in λ i. own i && b i

  pass_by : (s : Key × List ℕ) (symbols : List (Key × List ℕ)) (p : ℕ) (t : Bool) → is_entry s.0 p ≡ t
      → (s.0 ≡ (kind, p) → ⊥) → symbol_name_at test (s ∷ symbols) p ≡ symbol_name_at test symbols p
  unfolding symbol_name_at
  pass_by s symbols p true e other = absurd (other (same_entry s.0 p e))
  pass_by s symbols p false e other = ap (λ (b : Bool). if b then s.1 else symbol_name_at test symbols p) e

  found_first : (s : Key × List ℕ) (symbols : List (Key × List ℕ)) (p : ℕ) (name : List ℕ)
      → s ≡ ((kind, p), name) → symbol_name_at test (s ∷ symbols) p ≡ name
  unfolding symbol_name_at
  found_first s symbols p name e =
      ap (λ (b : Bool). if b then s.1 else symbol_name_at test symbols p)
      (ap (λ (k : Key). is_entry k p) (ap (λ (x : Key × List ℕ). x.0) e) ∙ entry_same p)
      ∙ ap (λ (x : Key × List ℕ). x.1) e

  found_at : (symbols : List (Key × List ℕ)) (p : ℕ) (name : List ℕ) (j : ℕ) → j < length symbols
      → get_or symbols j ((kind, p), name) ≡ ((kind, p), name) → AllPairs (λ x y. x ≢ y) (keys_of symbols)
      → symbol_name_at test symbols p ≡ name
  found_at [] p name j lt at once = absurd (omega (arith, lt))
  found_at (s ∷ symbols) p name zero lt at once = found_first s symbols p name at
  found_at (s ∷ symbols) p name (suc j) lt at once =
      let inside : j < length symbols = omega (arith, lt) in
      let key : get_or (keys_of symbols) j (kind, p) ≡ (kind, p) =
      get_or-map (λ (x : Key × List ℕ). x.0) symbols j ((kind, p), name) (kind, p) inside
      ∙ ap (λ (x : Key × List ℕ). x.0) at in
      let more : suc j < suc (length (keys_of symbols)) =
      omega (arith, inside, length-map symbols (λ (x : Key × List ℕ). x.0)) in
      pass_by s symbols p (is_entry s.0 p) refl (λ e. once 0 (suc j) (kind, p) (omega arith) more (e ∙ sym key))
      ∙ found_at symbols p name j inside at (λ a b d l m. once (suc a) (suc b) d (omega (arith, l)) (omega (arith, m)))

  pub symbol_found : (symbols : List (Key × List ℕ)) (p : ℕ) (name : List ℕ)
      → Contains symbols ((kind, p), name) → AllPairs (λ x y. x ≢ y) (keys_of symbols) → symbol_name_at test symbols p ≡ name
  symbol_found symbols p name (j, lt, at) once = found_at symbols p name j lt at once

  pub symbol_missing : (symbols : List (Key × List ℕ)) (p : ℕ) → (Contains (keys_of symbols) (kind, p) → ⊥)
      → symbol_name_at test symbols p ≡ []
  unfolding symbol_name_at
  symbol_missing [] p lacks = refl
  symbol_missing (s ∷ symbols) p lacks =
      pass_by s symbols p (is_entry s.0 p) refl (λ e. lacks (0, omega arith, e))
      ∙ symbol_missing symbols p (λ (j, lt, at). lacks (suc j, omega (arith, lt), at))

-- of a whole text, all but this rest was written
pub record Partly {X : Type 0} (written : X → Option (List ℕ)) (failures : X → ℕ) (old new : X) (whole rest : List ℕ)
    : Type 0 where
  pub done : List ℕ
  pub writes : Writes {T = Unit {0}} {E = Unit {0}} written failures old new done (Ok tt)
  pub whole_is : whole ≡ done ++ rest

module _ {X : Type 0} {written : X → Option (List ℕ)} {failures : X → ℕ} where
  -- one piece more
  pub partly_more : {T E : Type 0} {old mid new : X} {whole rest piece rest' : List ℕ} {x : T}
      → Partly written failures old mid whole rest → rest ≡ piece ++ rest'
      → Writes {E = E} written failures mid new piece (Ok x) → Partly written failures old new whole rest'
  partly_more {piece} {rest'} h e w =
      let all = writes_then h.writes w in
      record {
        done = h.done ++ piece;
        writes = record { ok = all.ok; err = tt; count = all.count };
        whole_is = h.whole_is ∙ ap (λ (t : List ℕ). h.done ++ t) e ∙ sym (append_assoc h.done piece rest');
      }

  -- the piece that failed
  pub partly_stops : {T E S F : Type 0} {old mid new : X} {whole rest piece : List ℕ} {e : E} {s : Result S F}
      (rest' : List ℕ) → Partly written failures old mid whole rest → rest ≡ piece ++ rest'
      → Writes {T = T} written failures mid new piece (Err e) → IsErr s → Writes written failures old new whole s
  partly_stops rest' h e w k =
      writes_same (writes_then h.writes (writes_stop rest' w k))
      (ap (λ (t : List ℕ). h.done ++ t) (sym e) ∙ sym h.whole_is)

  -- nothing is left
  pub partly_done : {F : Type 0} {old new : X} {whole rest : List ℕ} → Partly written failures old new whole rest
      → rest ≡ [] → Writes {T = Unit {0}} {E = F} written failures old new whole (Ok tt)
  partly_done {F} h e =
      let w = h.writes in
      writes_same {S = Unit {0}} {F = F} (record { ok = w.ok; err = tt; count = w.count })
      (sym (append-nil h.done) ∙ ap (λ (t : List ℕ). h.done ++ t) (sym e) ∙ sym h.whole_is)

-- lines of two lists
pub lines_append : (prefix : List ℕ) (raw : Raw) (n : ℕ) (os ps : List Origin)
    → origin_lines prefix raw n (os ++ ps) ≡ origin_lines prefix raw n os ++ origin_lines prefix raw (n + length os) ps
unfolding origin_lines
lines_append prefix raw n [] ps = let e : n ≡ n + 0 = omega arith in ap (λ m. origin_lines prefix raw m ps) e
lines_append prefix raw n (o ∷ os) ps =
    let e : n + 1 + length os ≡ n + suc (length os) = omega arith in
    let line = prefix ++ origin_line raw n o in
    ap (λ (t : List ℕ). line ++ t) (lines_append prefix raw (n + 1) os ps)
    ∙ sym (append_assoc line (origin_lines prefix raw (n + 1) os) (origin_lines prefix raw (n + 1 + length os) ps))
    ∙ ap (λ m. (line ++ origin_lines prefix raw (n + 1) os) ++ origin_lines prefix raw m ps) e

-- the first line
pub lines_first : (prefix : List ℕ) (raw : Raw) (n : ℕ) (o : Origin) (os : List Origin)
    → origin_lines prefix raw n (o ∷ os) ≡ (prefix ++ origin_line raw n o) ++ origin_lines prefix raw (n + 1) os
unfolding origin_lines
lines_first prefix raw n o os = refl

pub lines_none : (prefix : List ℕ) (raw : Raw) (n : ℕ) → origin_lines prefix raw n [] ≡ []
unfolding origin_lines
lines_none prefix raw n = refl

last_or : (n t : ℕ) → t < suc n → (t < n) ⊎ (t ≡ n)
last_or n t lt = grind arith

-- a frame among the frames
pub frames_split : {A : Type 0} (f : ℕ → List A) (n t : ℕ) → t < n
    → (rest : List A) × (frames f n ≡ frames f t ++ (f t ++ rest))
frames_split f zero t lt = absurd (omega arith)
frames_split f (suc n) t lt = elim (last_or n t lt) [
  | inl below ↦
      let (rest, is) = frames_split f n t below in (
        rest ++ f n,
        ap (λ (xs : List _). xs ++ f n) is ∙ append_assoc (frames f t) (f t ++ rest) (f n)
            ∙ ap (λ (xs : List _). frames f t ++ xs) (append_assoc (f t) rest (f n)),
      )
  | inr same ↦ (
    [],
    ap (λ m. frames f m ++ f m) (sym same) ∙ ap (λ (xs : List _). frames f t ++ xs) (sym (append-nil (f t))),
  )
]
