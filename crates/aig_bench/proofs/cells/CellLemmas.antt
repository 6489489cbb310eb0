-- Rows of cells after a write.
use Rattle.std.proofs.Common.{◌≡◌, ◌≢◌, ℕ, zero, suc, ◌<◌, List, [], ◌∷◌, length, set, Some, slice_get, slice_set, refl}
use Rattle.std.proofs.Common.{ap, ◌∙◌}
use Rattle.std.proofs.lemmas.Option.{slice_get-get_or}
use Rattle.std.proofs.lemmas.List.{length-set, get_or-set_same, get_or-set_other}
use Rattle.aig_parts.specs.declared.ternary.Tern.{Tern}
use Rattle.aig_values.specs.InputRows.{row_at, with_cell}

pub get_set_same : {X : Type 0} (row : List X) (v : ℕ) (w : X) → v < length row
    → slice_get (slice_set row v w) v ≡ Some w
get_set_same row v w lt =
    let within : v < length (set row v w) = rw length-set lt in
    slice_get-get_or (set row v w) v w within ∙ ap Some (get_or-set_same row v w w lt)

pub get_set_other : {X : Type 0} (row : List X) (u v : ℕ) (w : X) → v ≢ u
    → slice_get (slice_set row u w) v ≡ slice_get row v
get_set_other [] u v w ne = refl
get_set_other (x ∷ xs) zero zero w ne = absurd (ne refl)
get_set_other (x ∷ xs) zero (suc v) w ne = refl
get_set_other (x ∷ xs) (suc u) zero w ne = refl
get_set_other (x ∷ xs) (suc u) (suc v) w ne = get_set_other xs u v w (λ e. ne (ap suc e))

module _ (cells : List (List Tern)) (t v : ℕ) (w : Tern) where
  pub row_written : t < length cells → row_at (with_cell cells t v w) t ≡ slice_set (row_at cells t) v w
  row_written lt = get_or-set_same cells t _ [] lt

  pub row_other : (u : ℕ) → u ≢ t → row_at (with_cell cells t v w) u ≡ row_at cells u
  row_other u ne = get_or-set_other cells t u _ [] ne

  pub frames_written : length (with_cell cells t v w) ≡ length cells
  frames_written = length-set cells t _
