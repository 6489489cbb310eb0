-- Bytes up to the end of a line.
use Rattle.std.proofs.Common.{◌≡◌, ℕ, ◌+◌, ◌<◌, ◌≤◌, List, [], ◌∷◌, ◌++◌, length, take, drop, map, Some, sym, ap, ◌∙◌}
use Rattle.std.proofs.Common.{subst, arith}
use Rattle.std.specs.Prelude.{slice_get}
use Rattle.std.proofs.lemmas.List.{take-append-drop, drop_more, take_more, take-take, get_or-take}
use Rattle.std.proofs.lemmas.Option.{get_or_from_slice_get, slice_get-get_or}
use Rattle.aig_script.specs.Lines.{IsPiece, whole, lines_from, rest_from}
use Rattle.aig_script.proofs.Splits.{lines_step, rest_step}

-- the end of a line is at a place
abbrev pub EndsAt : List ℕ → ℕ → Type 0
EndsAt xs n = slice_get xs n ≡ Some 10

with_end : (xs : List ℕ) (n : ℕ) → n < length xs → EndsAt xs n → take (n + 1) xs ≡ take n xs ++ 10 ∷ []
with_end xs n lt e =
    take_more xs n 0 lt ∙ ap (λ (b : ℕ). take n xs ++ b ∷ []) (get_or_from_slice_get xs n 10 0 e)

split_at_end : (xs : List ℕ) (n : ℕ) → n < length xs → EndsAt xs n → xs ≡ take n xs ++ (10 ∷ drop (n + 1) xs)
split_at_end xs n lt e =
    sym (take-append-drop n xs) ∙ ap (λ (t : List ℕ). take n xs ++ t) (drop_more xs n 0 lt)
    ∙ ap (λ (b : ℕ). take n xs ++ (b ∷ drop (n + 1) xs)) (get_or_from_slice_get xs n 10 0 e)

pub ended_rest : (text xs : List ℕ) (n : ℕ) → n < length xs → EndsAt xs n → IsPiece (take n xs)
    → rest_from text (take (n + 1) xs) ≡ []
ended_rest text xs n lt e p = ap (rest_from text) (with_end xs n lt e) ∙ rest_step text (take n xs) [] p

pub ended_lines : (text xs : List ℕ) (n : ℕ) → n < length xs → EndsAt xs n → IsPiece (take n xs)
    → whole (text ++ take n xs) ∷ [] ≡ map whole (lines_from text (take (n + 1) xs))
ended_lines text xs n lt e p =
    sym (ap (λ (t : List ℕ). map whole (lines_from text t)) (with_end xs n lt e)
    ∙ ap (λ (ls : List (List ℕ)). map whole ls) (lines_step text (take n xs) [] p))

pub split_lines : (text xs : List ℕ) (n : ℕ) → n < length xs → EndsAt xs n → IsPiece (take n xs)
    → map whole (lines_from text xs) ≡ whole (text ++ take n xs) ∷ map whole (lines_from [] (drop (n + 1) xs))
split_lines text xs n lt e p =
    ap (λ (t : List ℕ). map whole (lines_from text t)) (split_at_end xs n lt e)
    ∙ ap (λ (ls : List (List ℕ)). map whole ls) (lines_step text (take n xs) (drop (n + 1) xs) p)

-- ---- among the first bytes

-- a line that ends among the first bytes ends there
pub near_end : (xs : List ℕ) (m n : ℕ) → m ≤ length xs → n < m → EndsAt (take m xs) n → EndsAt xs n
near_end xs m n le lt e =
    slice_get-get_or xs n 0 (omega arith)
    ∙ ap Some (sym (get_or-take m xs n 0 lt) ∙ get_or_from_slice_get (take m xs) n 10 0 e)

-- the bytes before it are those of the first ones
pub near_piece : (xs : List ℕ) (m n : ℕ) → n < m → IsPiece (take n (take m xs)) → IsPiece (take n xs)
near_piece xs m n lt p = subst IsPiece (take-take n m xs (omega arith)) p
