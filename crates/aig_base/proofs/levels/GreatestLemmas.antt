-- The greatest level, and how many gates read a variable, gate by gate.
use Rattle.std.proofs.Common.{◌≡◌, ℕ, ◌+◌, ◌<◌, ◌≤◌, max, cond, Bool, true, false, List, length, take, get_or, count_by}
use Rattle.std.proofs.Common.{inl, inr, All, Contains, Some, slice_get, sym, ap, subst, ◌∙◌, arith}
use Rattle.std.proofs.lemmas.Bool.{cases_lt}
use Rattle.std.proofs.lemmas.List.{length-take-le, get_or_past, get_or_default}
use Rattle.std.proofs.lemmas.List.Sums.{count_by_more_yes, count_by_more_no, count_by-le-length}
use Rattle.std.proofs.lemmas.Option.{slice_get-get_or, slice_get_within, get_or_from_slice_get, same_Some}
use Rattle.aig_parts.specs.declared.gate.Gate.{Gate}
use Rattle.aig_parts.specs.declared.raw.Raw.{Raw}
use Rattle.aig_parts.specs.Literal.{variable}
use Rattle.aig_base.specs.Circuit.{IsCircuit}
use Rattle.aig_base.specs.Greatest.{IsGreatestFanOut, IsGreatestLevel, fan_out, reads}
use Rattle.aig_base.specs.Grounded as by
use Rattle.aig_base.specs.Grounded.{Level}
use Rattle.aig_base.specs.Levels.{AreLevels}
use Rattle.aig_base.proofs.circuits.Gates.{IsGate-of_gate}
use Rattle.aig_base.proofs.levels.OneLevel.{level_of_gate}

-- the gates before position i have levels up to h
abbrev pub AreLevelsWithin : Raw → List ℕ → ℕ → ℕ → Type 0
AreLevelsWithin raw levels i h =
    (q : ℕ) (g : Gate) → q < i → slice_get raw.gates q ≡ Some g → get_or levels (variable g.lhs) 0 ≤ h

-- the level that the list has for a gate
pub level_listed : (raw : Raw) (levels : List ℕ) (q : ℕ) (g : Gate) → AreLevels raw levels → IsCircuit raw
    → slice_get raw.gates q ≡ Some g → variable g.lhs < length levels
    → Level raw (variable g.lhs) (get_or levels (variable g.lhs) 0)
level_listed raw levels q g are circuit at within =
    level_of_gate raw levels (variable g.lhs) (get_or levels (variable g.lhs) 0) are circuit.acyclic
    (IsGate-of_gate raw q g at) (slice_get-get_or levels (variable g.lhs) 0 within)

-- the greater of a level and the greatest so far is reached
pub reached_more : (raw : Raw) (v m h n : ℕ) → n ≡ max m h → Level raw v m → (w : ℕ) × Level raw w h
    → (w : ℕ) × Level raw w n
reached_more raw v m h n e here before = elim (cases_lt m h) [
  | inl lt ↦ (let same : h ≡ n = omega arith in (before.0, subst (Level raw before.0) same before.1))
  | inr le ↦ (let same : m ≡ n = omega arith in (v, subst (Level raw v) same here))
]

-- one more gate has a level up to the greatest
pub within_more : (raw : Raw) (levels : List ℕ) (i h n : ℕ) (g : Gate) → slice_get raw.gates i ≡ Some g
    → n ≡ max (get_or levels (variable g.lhs) 0) h → AreLevelsWithin raw levels i h → AreLevelsWithin raw levels (i + 1) n
within_more raw levels i h n g at e within = λ q k lt here. elim (cases_lt q i) [
  | inr le ↦
      (let same : q ≡ i = omega arith in
      let f : slice_get raw.gates i ≡ Some k = subst (λ j. slice_get raw.gates j ≡ Some k) same here in
      let is : g ≡ k = same_Some g k (sym at ∙ f) in
      let height : get_or levels (variable g.lhs) 0 ≡ get_or levels (variable k.lhs) 0 =
      ap (λ (x : Gate). get_or levels (variable x.lhs) 0) is in
      omega arith)
  | inl below ↦ (let before : get_or levels (variable k.lhs) 0 ≤ h = within q k below here in omega arith)
]

-- where no gate has a level over n, no variable has
level_bounded : (raw : Raw) (levels : List ℕ) (i n : ℕ) → AreLevels raw levels → length raw.gates ≤ i
    → AreLevelsWithin raw levels i n → (v m : ℕ) → Level raw v m → m ≤ n
level_bounded raw levels i n are past within v m (by.Level.source w h) = omega arith
level_bounded raw levels i n are past within v m (by.Level.gate q g a b at l0 l1) =
    let listed = are.each (variable g.lhs) (max a b + 1) (by.Level.gate q g a b at l0 l1) in
    let lt : q < length raw.gates = slice_get_within raw.gates q g at in
    let here : get_or levels (variable g.lhs) 0 ≤ n = within q g (omega arith) at in
    let is : get_or levels (variable g.lhs) 0 ≡ max a b + 1 =
    get_or_from_slice_get levels (variable g.lhs) (max a b + 1) 0 listed in
    omega arith

pub greatest_so : (raw : Raw) (levels : List ℕ) (i n : ℕ) → AreLevels raw levels → length raw.gates ≤ i
    → (v : ℕ) × Level raw v n → AreLevelsWithin raw levels i n → IsGreatestLevel raw n
greatest_so raw levels i n are past reached within = record {
  reached = reached;
  bound = λ v m known. level_bounded raw levels i n are past within v m known;
}

-- a greatest number of fan-outs is the greatest fan-out
pub fan_out_so : (raw : Raw) (counts : List ℕ) (n : ℕ) → ((v : ℕ) → get_or counts v 0 ≡ fan_out raw v)
    → Contains counts n → All (λ k. k ≤ n) counts → IsGreatestFanOut raw n
fan_out_so raw counts n each (v, lt, is) all = record {
  reached = (v, sym (each v) ∙ get_or_default counts v 0 n lt ∙ is);
  bound = λ w. subst (λ k. k ≤ n) (each w) (bounded w);
}
  where
    bounded : (w : ℕ) → get_or counts w 0 ≤ n
    bounded w = elim (cases_lt w (length counts)) [
      | inl within ↦ all w 0 within
      | inr past ↦ (let none : get_or counts w 0 ≡ 0 = get_or_past counts w 0 past in omega arith)
    ]

-- one more gate is counted where it reads the variable
pub count_more : (gates : List Gate) (v i : ℕ) (g : Gate) → slice_get gates i ≡ Some g
    → count_by (reads v) (take (i + 1) gates) ≡ count_by (reads v) (take i gates) + cond (reads v g) 1 0
count_more gates v i g at =
    let lt : i < length gates = slice_get_within gates i g at in
    let is : get_or gates i g ≡ g = get_or_from_slice_get gates i g g at in
    by_test (reads v g) (ap (reads v) is)
  where
    by_test : (b : Bool) → reads v (get_or gates i g) ≡ b
        → count_by (reads v) (take (i + 1) gates) ≡ count_by (reads v) (take i gates) + cond b 1 0
    by_test true e = count_by_more_yes (reads v) gates i g (slice_get_within gates i g at) e
    by_test false e =
        let same = count_by_more_no (reads v) gates i g (slice_get_within gates i g at) e in omega arith

-- a count of so many gates is at most so many
pub count_within : (gates : List Gate) (v i : ℕ) → i ≤ length gates → count_by (reads v) (take i gates) ≤ i
count_within gates v i le =
    omega (arith, count_by-le-length (reads v) (take i gates), length-take-le i gates le)

-- the greater of a number and the greatest so far stands in the list
pub contains_more : (xs : List ℕ) (i h n : ℕ) → i < length xs → n ≡ max h (get_or xs i 0) → Contains xs h
    → Contains xs n
contains_more xs i h n lt e before = elim (cases_lt (get_or xs i 0) h) [
  | inl less ↦ (let same : h ≡ n = omega arith in subst (Contains xs) same before)
  | inr le ↦ (let same : get_or xs i 0 ≡ n = omega arith in (i, lt, get_or_default xs i n 0 lt ∙ same))
]

-- and none so far is greater
pub bounded_more : (xs : List ℕ) (i h n : ℕ) → i < length xs → n ≡ max h (get_or xs i 0)
    → ((k d : ℕ) → k < i → get_or xs k d ≤ h) → (k d : ℕ) → k < i + 1 → get_or xs k d ≤ n
bounded_more xs i h n lt e before k d below = elim (cases_lt k i) [
  | inl less ↦ (let here : get_or xs k d ≤ h = before k d less in omega arith)
  | inr le ↦
      (let same : k ≡ i = omega arith in
      let is : get_or xs k d ≡ get_or xs i 0 =
      ap (λ j. get_or xs j d) same ∙ get_or_default xs i d 0 lt in
      omega arith)
]
