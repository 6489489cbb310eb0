-- Which variables wait, by the next one of each.
use Rattle.std.proofs.Common.{◌≡◌, ◌≢◌, ℕ, List, [], ◌∷◌, ◌++◌, Bool, true, false}
use Rattle.std.proofs.Common.{set, refl, ap, ◌∙◌, arith}
use Rattle.std.proofs.lemmas.Bool.Decides.{nat_tests}
use Rattle.std.proofs.lemmas.List.{map-set}
use Rattle.aig_bench.specs.state.Waiting.{idle, is_waiting, marks_of}

pub not_idle : (n : ℕ) → n ≢ idle → is_waiting n ≡ true
not_idle n ne = grind (arith, nat_tests)

-- one more variable does not wait
pub marks_pushed : (next : List ℕ) → marks_of (next ++ idle ∷ []) ≡ marks_of next ++ false ∷ []
marks_pushed [] = refl
marks_pushed (n ∷ next) = ap (λ (ms : List Bool). is_waiting n ∷ ms) (marks_pushed next)

-- a variable begins to wait, or waits no more
pub marks_entered : (next : List ℕ) (v second : ℕ) → second ≢ idle
    → marks_of (set next v second) ≡ set (marks_of next) v true
marks_entered next v second ne =
    map-set is_waiting next v second ∙ ap (λ b. set (marks_of next) v b) (not_idle second ne)

pub marks_left : (next : List ℕ) (v : ℕ) → marks_of (set next v idle) ≡ set (marks_of next) v false
marks_left next v = map-set is_waiting next v idle
