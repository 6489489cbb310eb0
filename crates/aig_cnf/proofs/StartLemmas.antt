-- The literals that are true where latches have their resets.
use Rattle.std.proofs.Common.{◌≡◌, ℕ, suc, ◌+◌, ◌-◌, ◌*◌, ◌/◌, ◌<◌, ◌≤◌, true, false, cond, List, [], ◌∷◌, ◌++◌, length}
use Rattle.std.proofs.Common.{map, take, get_or, All}
use Rattle.std.proofs.Common.{refl, sym, ◌∙◌, ap, arith, append_assoc, length-append}
use Rattle.std.specs.Prelude.{if◌then◌else◌}
use Rattle.std.proofs.lemmas.Bool.{eq-eqb}
use Rattle.std.proofs.lemmas.List.{append-nil, length-map, length-take-le, take_more}
use Rattle.std.proofs.lemmas.List.Sums.{sum_by-cons}
use Rattle.std.proofs.lemmas.List.Elements.{All-nil, All-cons, All-append}
use Rattle.aig_parts.specs.Formed.{limit}
use Rattle.aig_parts.specs.Literal.{variable}
use Rattle.aig_parts.specs.declared.latch.Latch.{Latch}
use Rattle.aig_parts.specs.declared.raw.Raw.{Raw}
use Rattle.aig_base.specs.Circuit.{IsCircuit}
use Rattle.aig_unroll.specs.FrameLiteral.{is_uninitialised, uninitialised}
use Rattle.aig_cnf.specs.Formula.{reset_literal, reset_literals, start_literals}
use Rattle.aig_cnf.specs.Query.{depth, depth_of, subject, uninitialised_latch}
use Rattle.aig_cnf.specs.declared.query.Goal.{Goal}
use Rattle.aig_cnf.specs.declared.query.Goal.TheVariants as asked
use Rattle.aig_cnf.specs.declared.query.Query.{Query}
use Rattle.aig_cnf.specs.state.Kept.{kept_latches}

-- one latch more
pub resets_more : (v : ℕ) (xs : List Latch) (x : Latch)
    → reset_literals v (xs ++ x ∷ []) ≡ reset_literals v xs ++ reset_literal (v + length xs) x
unfolding reset_literals
resets_more v [] x = append-nil (reset_literal v x) ∙ ap (λ n. reset_literal n x) (let e : v ≡ v + 0 = omega arith in e)
resets_more v (y ∷ xs) x =
    let here : v + 1 + length xs ≡ v + suc (length xs) = omega arith in
    ap (λ ls. reset_literal v y ++ ls) (resets_more (v + 1) xs x
    ∙ ap (λ n. reset_literals (v + 1) xs ++ reset_literal n x) here)
    ∙ sym (append_assoc (reset_literal v y) (reset_literals (v + 1) xs) (reset_literal (v + suc (length xs)) x))

pub resets_more_at : (xs : List Latch) (v i : ℕ) (x : Latch) {old new : List ℕ} → i < length xs → x ≡ get_or xs i x
    → old ≡ reset_literals v (take i xs) → new ≡ old ++ reset_literal (v + i) x → new ≡ reset_literals v (take (i + 1) xs)
resets_more_at xs v i x {old} {new} lt is before here =
    let size : length (take i xs) ≡ i = length-take-le i xs (omega (arith, lt)) in
    here ∙ ap (λ ls. ls ++ reset_literal (v + i) x) before
    ∙ ap (λ n. reset_literals v (take i xs) ++ reset_literal (v + n) x) (sym size)
    ∙ sym (resets_more v (take i xs) x)
    ∙ ap (reset_literals v) (ap (λ (y : Latch). take i xs ++ y ∷ []) is ∙ sym (take_more xs i x lt))

length-reset_literal : (v : ℕ) (x : Latch) → length (reset_literal v x) ≤ 1
length-reset_literal v x =
    elim (is_uninitialised x) as (λ b. length (if b then [] else (2 * v + (1 - x.reset)) ∷ []) ≤ 1) [
      | true ↦ omega arith
      | false ↦ omega arith
    ]

pub length-reset_literals : (v : ℕ) (xs : List Latch) → length (reset_literals v xs) ≤ length xs
unfolding reset_literals
length-reset_literals v [] = omega arith
length-reset_literals v (x ∷ xs) =
    omega (
      arith,
      length-append (reset_literal v x) (reset_literals (v + 1) xs),
      length-reset_literal v x,
      length-reset_literals (v + 1) xs,
    )

-- the variables are those of the latches
abbrev IsBelow : ℕ → ℕ → Type 0
IsBelow m l = variable l < m

reset_below : (m v : ℕ) (x : Latch) → v < m → All (IsBelow m) (reset_literal v x)
reset_below m v x lt =
    elim (is_uninitialised x) as (λ b. All (IsBelow m) (if b then [] else (2 * v + (1 - x.reset)) ∷ [])) [
      | true ↦ All-nil (IsBelow m)
      | false ↦
          let half : (2 * v + (1 - x.reset)) / 2 ≡ v = omega arith in
          All-cons (IsBelow m) (2 * v + (1 - x.reset)) [] (omega (arith, half, lt)) (All-nil (IsBelow m))
    ]

pub resets_below : (m v : ℕ) (xs : List Latch) → v + length xs ≤ m → All (IsBelow m) (reset_literals v xs)
unfolding reset_literals
resets_below m v [] le = All-nil (IsBelow m)
resets_below m v (x ∷ xs) le =
    All-append (IsBelow m) (reset_literal v x) (reset_literals (v + 1) xs) (reset_below m v x (omega (arith, le)))
    (resets_below m (v + 1) xs (omega (arith, le)))

-- ---- a circuit that starts in any state

-- each latch is uninitialised
pub all_uninitialised : (xs : List Latch) → uninitialised (map uninitialised_latch xs) ≡ length xs
all_uninitialised [] = refl
all_uninitialised (x ∷ xs) =
    let rest = all_uninitialised xs in
    sum_by-cons (λ (y : Latch). cond (is_uninitialised y) 1 0) (uninitialised_latch x) (map uninitialised_latch xs)
    ∙ ap (λ b. cond b 1 0 + uninitialised (map uninitialised_latch xs)) (eq-eqb x.lit x.lit refl) ∙ omega (arith, rest)

-- ---- the start of a query

starts_at : (goal : Goal) (frames property k : ℕ) (raw : Raw) → k ≡ depth_of goal frames
    → reset_literals (k * length raw.inputs + 1) (kept_latches goal raw)
    ≡ start_literals (record { goal = goal; frames = frames; property = property }) raw
unfolding reset_literals
starts_at asked.Within frames property k raw e = refl
starts_at asked.Last frames property k raw e = refl
starts_at asked.Step frames property k raw e = refl
starts_at asked.Induction frames property k raw e = ap (λ n. reset_literals (n * length raw.inputs + 1) raw.latches) e

pub starts_are : (query : Query) (k : ℕ) (raw : Raw) → k ≡ depth query
    → reset_literals (k * length raw.inputs + 1) (kept_latches query.goal raw) ≡ start_literals query raw
starts_are query k raw e = starts_at query.goal query.frames query.property k raw e

pub few_latches : (goal : Goal) (raw : Raw) → IsCircuit (subject goal raw) → length (kept_latches goal raw) ≤ limit
few_latches asked.Within raw circuit = omega arith
few_latches asked.Last raw circuit = omega arith
few_latches asked.Step raw circuit = omega arith
few_latches asked.Induction raw circuit =
    omega (arith, circuit.formed.counts.latches, length-map raw.latches uninitialised_latch)

pub few_starts : (query : Query) (raw : Raw) → IsCircuit (subject query.goal raw)
    → length (start_literals query raw) ≤ limit
few_starts query raw circuit =
    let few = few_latches query.goal raw circuit in
    let is = starts_are query (depth query) raw refl in
    omega (
      arith,
      few,
      length-reset_literals (depth query * length raw.inputs + 1) (kept_latches query.goal raw),
      ap (λ (ls : List ℕ). length ls) is,
    )
