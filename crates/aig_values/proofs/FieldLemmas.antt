-- The fields of a trace line, and pieces of them.
use Rattle.std.proofs.Common.{◌≡◌, ℕ, ◌-◌, ◌≤◌, List, [], ◌∷◌, ◌++◌, length, map, take, drop, get_or, All, Some}
use Rattle.std.proofs.Common.{slice_get, sym, ap, ◌∙◌, subst, arith}
use Rattle.std.proofs.lemmas.List.{drop-map, take-map, take_rest, get_or-map, length-map}
use Rattle.std.proofs.lemmas.List.Elements.{All-take, All-drop}
use Rattle.std.proofs.lemmas.Option.{slice_get-get_or}
use Rattle.std.proofs.lemmas.Simd.{map-map}
use Rattle.aig_parts.specs.Literal.{variable}
use Rattle.aig_parts.specs.declared.latch.Latch.{Latch}
use Rattle.aig_parts.specs.declared.ternary.Tern.{Tern}
use Rattle.aig_values.specs.TraceText.{literal_character}

-- the piece of n items from a place on, as the program takes it
module _ {X : Type 0} (h : X → ℕ) (xs : List X) (at n : ℕ) where
  piece_each : (P : X → Type 0) → All P xs → All P (take n (take (length xs - at) (drop at xs)))
  piece_each P all = All-take P n _ (All-take P (length xs - at) _ (All-drop P at xs all))

  -- each literal of the piece has what all literals have
  pub piece_all : (P : ℕ → Type 0) → All P (map h xs) → All (λ x. P (h x)) (take n (take (length xs - at) (drop at xs)))
  piece_all P all =
      piece_each (λ x. P (h x)) (λ i d lt. subst P (get_or-map h xs i d (h d) lt) (all i (h d) (omega (arith, lt, length-map xs h))))

  pub piece_shown : (f : ℕ → ℕ) (text : List ℕ) → text ≡ map (λ x. f (h x)) (take n (take (length xs - at) (drop at xs)))
      → text ≡ map f (take n (drop at (map h xs)))
  piece_shown f text is =
      is ∙ ap (λ ys. map (λ x. f (h x)) (take n ys)) (take_rest xs at) ∙ sym (map-map f h (take n (drop at xs)))
      ∙ ap (map f) (sym (take-map h n (drop at xs))) ∙ ap (λ ys. map f (take n ys)) (sym (drop-map h at xs))

-- the variables of a section have what all in range have
pub all_have : {X : Type 0} (P : ℕ → Type 0) (f : X → ℕ) (m : ℕ) (xs ys : List X) → xs ≡ ys → ((v : ℕ) → v ≤ m → P v)
    → ((i : ℕ) (x : X) → slice_get ys i ≡ Some x → variable (f x) ≤ m) → All (λ x. P (variable (f x))) xs
all_have P f m xs ys e h k =
    subst (All (λ x. P (variable (f x)))) (sym e)
    (λ i d lt. h (variable (f (get_or ys i d))) (k i (get_or ys i d) (slice_get-get_or ys i d lt)))

-- the characters of a field of latches
pub shown : (cells : List Tern) (f : Latch → ℕ) (end : ℕ) (xs ys : List Latch) → xs ≡ ys
    → map (literal_character cells) (map f xs) ++ end ∷ [] ≡ map (λ x. literal_character cells (f x)) ys ++ end ∷ []
shown cells f end xs ys e =
    ap (λ (cs : List ℕ). cs ++ end ∷ [])
    (map-map (literal_character cells) f xs ∙ ap (map (λ x. literal_character cells (f x))) e)
