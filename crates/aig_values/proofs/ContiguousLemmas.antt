-- Literals of variables that stand side by side.
use Rattle.std.proofs.Common.{◌≡◌, ℕ, suc, ◌+◌, ◌-◌, ◌*◌, ◌%◌, ◌<◌, ◌≤◌, List, [], ◌∷◌, length, map, take, drop, get_or}
use Rattle.std.proofs.Common.{All, refl, sym, ap, ◌∙◌, arith}
use Rattle.std.proofs.lemmas.List.{drop_more, ext_get_or, get_or-map, length-map}
use Rattle.std.proofs.lemmas.Option.{slice_get-get_or}
use Rattle.aig_parts.specs.declared.ternary.Tern.{Tern}
use Rattle.aig_parts.specs.declared.ternary.Tern.TheVariants.{X}
use Rattle.aig_parts.specs.Literal.{variable}
use Rattle.aig_values.specs.Characters.{character}
use Rattle.aig_values.specs.TraceText.{literal_character}
use Rattle.aig_values.specs.Contiguous.{AreContiguous}

-- where the last one has a cell, all have
pub contiguous_fit : (first n : ℕ) (literals : List ℕ) → AreContiguous first literals → 0 < length literals
    → All (λ l. variable l < n) literals → first + length literals ≤ n
contiguous_fit first n literals are some all =
    let k = length literals - 1 in
    let lt : k < length literals = omega arith in
    let last = get_or literals k 0 in
    let is : last ≡ 2 * (first + k) = are.each k last (slice_get-get_or literals k 0 lt) in
    let within : variable last < n = all k 0 lt in
    omega arith

-- the character of a variable's even literal
even_character : (cells : List Tern) (v l : ℕ) → l ≡ 2 * v → character (get_or cells v X) ≡ literal_character cells l
even_character cells v l e =
    let even : l % 2 ≡ 0 = omega arith in
    let same : variable l ≡ v = omega arith in
    rw (even, same) refl

-- their characters are those of a piece of the cells
pub contiguous_spelled : (cells : List Tern) (first : ℕ) (literals : List ℕ) → AreContiguous first literals
    → first + length literals ≤ length cells
    → map character (take (length literals) (drop first cells)) ≡ map (literal_character cells) literals
contiguous_spelled cells first [] are le = refl
contiguous_spelled cells first (l ∷ ls) are le =
    let lt : first < length cells = omega arith in
    let e : l ≡ 2 * first = omega (arith, are.each 0 l refl) in
    let rest : AreContiguous (first + 1) ls = record { each = λ i k at. omega (arith, are.each (suc i) k at) } in
    ap (λ (ys : List Tern). map character (take (suc (length ls)) ys)) (drop_more cells first X lt)
    ∙ ap (λ (c : ℕ). c ∷ map character (take (length ls) (drop (first + 1) cells))) (even_character cells first l e)
    ∙ ap (λ (ys : List ℕ). literal_character cells l ∷ ys) (contiguous_spelled cells (first + 1) ls rest (omega arith))

-- text that shows a piece of the cells character by character
pub contiguous_shown : (cells : List Tern) (first : ℕ) (literals text : List ℕ) → AreContiguous first literals
    → length text ≡ length literals
    → ((k : ℕ) → k < length literals → get_or text k 0 ≡ character (get_or cells (first + k) X))
    → text ≡ map (literal_character cells) literals
contiguous_shown cells first literals text are size shown =
    ext_get_or 0 text (map (literal_character cells) literals) (size ∙ sym (length-map literals (literal_character cells)))
    (λ i lt.
    let within : i < length literals = omega arith in
    shown i within
    ∙ even_character cells (first + i) (get_or literals i 0) (are.each i _ (slice_get-get_or literals i 0 within))
    ∙ sym (get_or-map (literal_character cells) literals i 0 0 within))
