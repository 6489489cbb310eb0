-- What is written where nothing that may be left out is.
use Rattle.std.proofs.Common.{◌<◌, ◌^◌, true, All, map, get_or, take, drop, length, ◌≡◌, ℕ, ◌-◌, arith, List, [], ◌∷◌}
use Rattle.std.proofs.Common.{◌++◌, Bool, false, cond, refl, sym, ap, ◌∙◌, append_assoc}
use Rattle.std.specs.Prelude.{not, ◌==◌, ◌&&◌}
use Rattle.std.specs.List.{flat_map, list_all}
use Rattle.std.specs.Fmt.{decimal}
use Rattle.std.proofs.lemmas.List.{take_rest}
use Rattle.std.proofs.lemmas.List.Sums.{get_or-le-sum_by}
use Rattle.std.proofs.lemmas.Bool.{ne_eqb}
use Rattle.aig_parts.specs.declared.gate.Gate.{Gate}
use Rattle.aig_parts.specs.declared.latch.Latch.{Latch}
use Rattle.aig_parts.specs.declared.raw.Raw.{Raw}
use Rattle.aig_base.specs.Circuit.{IsCircuit}
use Rattle.aig_parts.specs.Formed.{IsFormed}
use Rattle.aig_base.specs.Sections.{definitions, uses}
use Rattle.aig_base.specs.Sound.{IsInRange}
use Rattle.aig_base.proofs.lists.Joined.{All-left, All-right, All-unmap}
use Rattle.aig_format.specs.Header.{space, line_end, field, tail}
use Rattle.aig_format.specs.state.HeaderCounts.{counted}
use Rattle.aig_format.specs.Spelling.{reset_text, lines}

pub reset_written : (r : ℕ) → (r ≡ 0 → ⊥) → reset_text false r ≡ space ∷ field r line_end
reset_written r h = ap (λ (b : Bool). cond (not b) (space ∷ field r line_end) (line_end ∷ [])) (ne_eqb r 0 h)

pub next_written : (n r : ℕ) → (r ≡ 0 → ⊥) → field n space ++ field r line_end ≡ decimal n ++ reset_text false r
next_written n r h =
    append_assoc (decimal n) (space ∷ []) (field r line_end)
    ∙ ap (λ (t : List ℕ). decimal n ++ t) (sym (reset_written r h))

-- lines of which nothing is said are written short
pub plain_lines : {X : Type 0} (line : Bool → X → List ℕ) (xs : List X) → lines line [] xs ≡ flat_map (line false) xs
unfolding lines
plain_lines line [] = refl
plain_lines line (x ∷ xs) = ap (λ (ys : List ℕ). line false x ++ ys) (plain_lines line xs)

pub tail_end : (counts : List ℕ) → list_all (λ n. n == 0) counts ≡ true → tail 0 counts ≡ line_end ∷ []
unfolding tail
tail_end [] e = refl
tail_end (n ∷ counts) e = ap (λ (b : Bool). cond b (line_end ∷ []) (space ∷ (decimal n ++ tail 0 counts))) e

-- counts that are not all 0 begin with one that is written
pub tail_step : (counts : List ℕ) → list_all (λ n. n == 0) counts ≡ false
    → tail 0 counts ≡ space ∷ (decimal (get_or counts 0 0) ++ tail 0 (take (length counts - 1) (drop 1 counts)))
unfolding tail
tail_step [] e = cc
tail_step (n ∷ counts) e =
    ap (λ (b : Bool). cond b (line_end ∷ []) (space ∷ (decimal n ++ tail 0 counts))) e
    ∙ ap (λ (ms : List ℕ). space ∷ (decimal n ++ tail 0 ms)) (sym (take_rest (n ∷ counts) 1))

-- other latches, as many, are counted as they were
pub same_counts : (raw : Raw) (latches : List Latch) → length latches ≡ length raw.latches
    → counted raw ≡ counted (record raw { latches = latches })
same_counts raw latches e = ap (λ (n : ℕ). record (counted raw) { latches = n }) (sym e)

pub small_sizes : (raw : Raw) → IsFormed raw → All (λ p. length p < 2 ^ 32) raw.justice
small_sizes raw formed k d lt = omega (arith, get_or-le-sum_by length raw.justice k d lt, formed.counts.justice_literals)

pub small_gates : (raw : Raw) → IsCircuit raw → All (λ g. g.lhs < 2 ^ 28) raw.gates
small_gates raw circuit k d lt =
    let here = All-left (IsInRange raw) (definitions raw) (uses raw) circuit.sound.in_range in
    let sides = All-unmap (IsInRange raw) (λ (g : Gate). g.lhs) raw.gates
    (All-right (IsInRange raw) (raw.inputs ++ map (λ x. x.lit) raw.latches) (map (λ g. g.lhs) raw.gates) here) in
    omega (arith, sides k d lt, circuit.formed.counts.max_var)
