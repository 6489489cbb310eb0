-- The text of a value change dump.
use Rattle.std.proofs.Common.{◌≡◌, ◌≢◌, ℕ, zero, suc, ◌+◌, ◌<◌, ◌≤◌, Bool, true, false, List, [], ◌∷◌, ◌++◌, length}
use Rattle.std.proofs.Common.{map, replicate, drop, get_or, refl, ap, ◌∙◌, arith}
use Rattle.std.specs.Prelude.{◌==◌, if◌then◌else◌, codes}
use Rattle.std.proofs.lemmas.Bool.{eqb-true, cond-false}
use Rattle.std.proofs.lemmas.List.{drop_more, drop_all}
use Rattle.aig_parts.specs.declared.ternary.Tern.{Tern}
use Rattle.aig_parts.specs.declared.ternary.Tern.TheVariants.{Zero, One, X}
use Rattle.aig_values.specs.Cells.{literal_value}
use Rattle.aig_sim.specs.Dump.{value_line, all_lines, changed_lines}
use Rattle.aig_sim.specs.state.Dumping.{time_line, dumped_text}
use Rattle.aig_values.specs.Characters.{character}
use Rattle.aig_values.specs.TraceText.{literal_character}

eqb_cases : (a b : ℕ) (t : Bool) → (a == b) ≡ t → a ≢ b → (a == b) ≡ false
eqb_cases a b true e ne = absurd (ne (eqb-true a b e))
eqb_cases a b false e ne = e

pub eqb_no : (a b : ℕ) → a ≢ b → (a == b) ≡ false
eqb_no a b ne = eqb_cases a b (a == b) refl ne

-- ---- values
no_zero : (w : Tern) → (0 == character w) ≡ false
no_zero Zero = refl
no_zero One = refl
no_zero X = refl

-- where no signal has a character, all change
pub changed_first : (n : ℕ) (cells : List Tern) (ls : List ℕ)
    → changed_lines n (replicate (length ls) 0) (map (literal_character cells) ls)
    ≡ all_lines n (map (literal_character cells) ls)
unfolding changed_lines all_lines
changed_first n cells [] = refl
changed_first n cells (l ∷ ls) =
    let line = value_line n (literal_character cells l) in
    let first = cond-false (0 == literal_character cells l) [] line (no_zero (literal_value cells l)) in
    λ i. first i ++ changed_first (suc n) cells ls i

-- the lines from a place on
pub changed_from : (bs cs : List ℕ) (i : ℕ) → i < length cs → length bs ≡ length cs
    → changed_lines i (drop i bs) (drop i cs)
    ≡ (if get_or bs i 0 == get_or cs i 0 then [] else value_line i (get_or cs i 0))
    ++ changed_lines (i + 1) (drop (i + 1) bs) (drop (i + 1) cs)
unfolding changed_lines
changed_from bs cs i lt size =
    let here : drop i bs ≡ get_or bs i 0 ∷ drop (i + 1) bs = drop_more bs i 0 (omega (arith, lt, size)) in
    let there : drop i cs ≡ get_or cs i 0 ∷ drop (i + 1) cs = drop_more cs i 0 lt in
    let next : suc i ≡ i + 1 = omega arith in
    (λ j. changed_lines i (here j) (there j))
    ∙ (λ j. (if get_or bs i 0 == get_or cs i 0 then [] else value_line i (get_or cs i 0))
    ++ changed_lines (next j) (drop (i + 1) bs) (drop (i + 1) cs))

-- after the last place there are none
pub changed_none : (bs cs : List ℕ) (i : ℕ) → length cs ≤ i → length bs ≡ length cs → changed_lines i (drop i bs) (drop i cs) ≡ []
unfolding changed_lines
changed_none bs cs i le size =
    ap (λ (xs : List ℕ). changed_lines i xs (drop i cs)) (drop_all i bs (omega (arith, le, size)))

-- ---- frames
pub first_frame : (t : ℕ) (bs cs : List ℕ) → t ≤ 0
    → time_line t ++ (codes "$dumpvars\n" ++ (changed_lines 0 bs cs ++ codes "$end\n")) ≡ dumped_text t bs cs
first_frame zero bs cs le = refl
first_frame (suc t) bs cs le = absurd (omega (arith, le))

pub later_frame : (t : ℕ) (bs cs : List ℕ) → 0 < t → time_line t ++ changed_lines 0 bs cs ≡ dumped_text t bs cs
later_frame zero bs cs lt = absurd (omega (arith, lt))
later_frame (suc t) bs cs lt = refl

pub frame_begins : (t : ℕ) (bs cs : List ℕ) → (rest : List ℕ) × (time_line t ++ rest ≡ dumped_text t bs cs)
frame_begins zero bs cs = (codes "$dumpvars\n" ++ (changed_lines 0 bs cs ++ codes "$end\n"), refl)
frame_begins (suc t) bs cs = (changed_lines 0 bs cs, refl)
