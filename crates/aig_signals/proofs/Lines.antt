-- A text of lines is read in one way only.
use Rattle.std.proofs.Common.{◌≡◌, ◌≢◌, ℕ, ◌+◌, ◌≤◌, List, [], ◌∷◌, ◌++◌, length, All, sym, ◌∙◌, arith}
use Rattle.std.proofs.Common.{append_assoc}
use Rattle.std.specs.List.{flat_map}
use Rattle.std.proofs.lemmas.List.Elements.{All-head, All-tail}
use Rattle.aig_bytes.proofs.Cuts.{split_once}

-- no LF is in a line
abbrev pub IsLine : List ℕ → Type 0
IsLine line = All (λ b. b ≢ 10) line

abbrev pub ended : List ℕ → List ℕ
ended line = line ++ 10 ∷ []

-- the lines that are left after some
pub record Left (front all : List (List ℕ)) (rest : List ℕ) : Type 0 where
  pub lines : List (List ℕ)
  pub spelled : rest ≡ flat_map ended lines
  pub count : length front + length lines ≡ length all

pub lines_left : (front all : List (List ℕ)) (rest : List ℕ) → All IsLine front → All IsLine all
    → flat_map ended front ++ rest ≡ flat_map ended all → length front ≤ length all → Left front all rest
lines_left [] all rest p q e le = record { lines = all; spelled = e; count = omega arith }
lines_left (f ∷ front) [] rest p q e le = absurd (omega (arith, le))
lines_left (f ∷ front) (a ∷ all) rest p q e le =
    let whole : f ++ 10 ∷ (flat_map ended front ++ rest) ≡ a ++ 10 ∷ flat_map ended all =
    sym (append_assoc f (10 ∷ []) (flat_map ended front ++ rest))
    ∙ sym (append_assoc (ended f) (flat_map ended front) rest)
    ∙ e ∙ append_assoc a (10 ∷ []) (flat_map ended all) in
    let r = split_once 10 f a (flat_map ended front ++ rest) (flat_map ended all) (All-head IsLine f front p) (All-head IsLine a all q) whole in
    let more = lines_left front all rest (All-tail IsLine f front p) (All-tail IsLine a all q) r.1 (omega (arith, le)) in
    record { lines = more.lines; spelled = more.spelled; count = omega (arith, more.count) }
