-- What the laws' premises are for: without them the laws are false of these parts.
use Rattle.std.proofs.Common.{◌≡◌, inl, inr, ℕ, zero, suc, List, [], ◌∷◌, Some, None, slice_get, refl, arith}
use Rattle.aig_parts.specs.declared.gate.Gate.{Gate}
use Rattle.aig_parts.specs.declared.latch.Latch.{Latch}
use Rattle.aig_parts.specs.declared.raw.Raw.{Raw}
use Rattle.aig_parts.specs.declared.ternary.Tern.{Tern}
use Rattle.aig_parts.specs.declared.ternary.Tern.TheVariants.{Zero, One}
use Rattle.aig_base.specs.Renumbered.{renumbered, renumbered_literal, renumbered_variable}
use Rattle.aig_base.specs.Value as value
use Rattle.aig_base.specs.Value.{Value}
use Rattle.aig_sim.specs.declared.witness.verdict.Verdict.{Verdict}
use Rattle.aig_sim.specs.declared.witness.verdict.Verdict.TheVariants as verdict
use Rattle.aig_sim.specs.Verdict.{IsBefore, VerdictApplies, IsVerdict}
use Rattle.aig_sim.specs.WitnessText.{Witness}
use Rattle.aig_unroll.specs.FrameLiteral.{frame_literal}
use Rattle.aig_unroll.specs.Unrolled.{unrolled}
use Rattle.aig_refute.specs.Conversion.{HaveSameVerdicts}
use Rattle.aig_refute.specs.UnrolledWitness.{cut, filled, rows_in, start_in, witness_in}
use Rattle.aig_refute.specs.UnrolledWitness.{HoldsRun, ConfirmsReached, ConfirmsRow}

-- parts with one bad literal
abbrev parts : List ℕ → List Latch → List Gate → ℕ → Raw
parts inputs latches gates l = record {
  max_var = 2;
  inputs = inputs;
  latches = latches;
  outputs = [];
  bad = l ∷ [];
  constraints = [];
  justice = [];
  fairness = [];
  gates = gates;
  symbols = [];
  comment = None;
}

-- a latch that the resets start at 0, and that starts at 1
abbrev at_zero : Raw
at_zero = parts [] (record { lit = 2; next = 2; reset = 0 } ∷ []) [] 2

pub start_is_allowed : ConfirmsReached at_zero (One ∷ []) ([] ∷ []) → ⊥
start_is_allowed confirms =
    let v = (confirms 0 0 2 (omega arith) refl).0 (
      value.Value.latch_first 0 (record { lit = 2; next = 2; reset = 0 }) One refl refl,
      λ s c le has.
          absurd (omega (arith, has.1)),
    ) in
    v.first (verdict.Initial 0) (omega arith) (record {
      latch = record { lit = 2; next = 2; reset = 0 };
      value = One;
      latch_is = refl;
      value_is = refl;
      wrong = λ allowed. elim allowed [ inl own ↦ (let no : ⊥ = cc in no) | inr same ↦ (let no : ⊥ = cc in no) ];
    })

-- a row with a value more than there are inputs
pub row_is_wide : HoldsRun (parts [] [] [] 0) 1 (One ∷ []) (start_in (parts [] [] [] 0) 1 (One ∷ []))
    (rows_in (parts [] [] [] 0) 1 (One ∷ [])) → ⊥
unfolding cut filled
row_is_wide h = let e : [] ≡ One ∷ [] = h.row_is in let no : ⊥ = cc in no

-- a row with no value for an input, which has none then
abbrev an_input : Raw
an_input = parts (2 ∷ []) [] [] 2

no_value : (raw : Raw) → raw.latches ≡ [] → raw.gates ≡ [] → {t l : ℕ} {w : Tern}
    → Value raw [] ([] ∷ []) t l w → l ≡ 2 → ⊥
no_value raw e f (value.Value.constant_false t) is = omega arith
no_value raw e f (value.Value.constant_true t) is = omega arith
no_value raw e f (value.Value.input zero p l w row at here cell) is =
    let same : row ≡ [] = cc in let none : slice_get [] p ≡ Some w = rw same at cell in cc
no_value raw e f (value.Value.input (suc t) p l w row at here cell) is = cc
no_value raw e f (value.Value.latch_first p x w at here) is = cc
no_value raw e f (value.Value.latch_next t p x w at v) is = let none : slice_get [] p ≡ Some x = rw e at at in cc
no_value raw e f (value.Value.gate t q g a b at va vb) is = let none : slice_get [] q ≡ Some g = rw f at at in cc
no_value raw e f (value.Value.negated t l w over odd v) is = omega (arith, odd)

confirmed_alone : IsVerdict an_input (witness_in an_input 1 0 0 []) verdict.Confirmed
unfolding cut filled
confirmed_alone = record { applies = tt; first = before }
  where
    before : (u : Verdict) → IsBefore u verdict.Confirmed → VerdictApplies an_input (witness_in an_input 1 0 0 []) u → ⊥
    before (verdict.Initial p) lt h = let e : None ≡ Some h.latch = h.latch_is in cc
    before (verdict.Constraint t p) lt h = let e : None ≡ Some h.1.literal = h.1.literal_is in cc
    before verdict.NotBad lt h =
        let e : Some 2 ≡ Some h.literal = h.literal_is in
        no_value an_input refl refl h.value_is (cc)
    before verdict.Confirmed lt h = omega (arith, lt)

pub row_has_all : ConfirmsRow an_input [] 1 [] → ⊥
unfolding frame_literal
row_has_all confirms =
    let (g, at, v) = (confirms 0 0 (omega arith) (omega arith)).1 confirmed_alone in
    let e : Some 2 ≡ Some g = at in
    no_value (unrolled an_input [] 1) refl refl v (cc)

-- a gate that the order leaves out, and so the renumbered circuit too
abbrev a_gate : Raw
a_gate = parts (2 ∷ []) [] (record { lhs = 4; rhs0 = 2; rhs1 = 2 } ∷ []) 5

abbrev shown : Witness
shown = record { property = 0; start = []; rows = (One ∷ []) ∷ [] }

true_alone : (raw : Raw) → raw.inputs ≡ 2 ∷ [] → raw.latches ≡ [] → raw.gates ≡ [] → (start : List Tern)
    (rows : List (List Tern)) → {t l : ℕ} {w : Tern} → Value raw start rows t l w → l ≡ 1 → w ≡ One
true_alone raw d e f start rows (value.Value.constant_false t) is = absurd (omega arith)
true_alone raw d e f start rows (value.Value.constant_true t) is = refl
true_alone raw d e f start rows (value.Value.input t zero l w row at here cell) is =
    let k : Some 2 ≡ Some l = rw d at at in let two : 2 ≡ l = cc in absurd (omega arith)
true_alone raw d e f start rows (value.Value.input t (suc p) l w row at here cell) is =
    let k : slice_get [] p ≡ Some l = rw d at at in let no : ⊥ = cc in absurd no
true_alone raw d e f start rows (value.Value.latch_first p x w at here) is =
    let k : slice_get [] p ≡ Some x = rw e at at in let no : ⊥ = cc in absurd no
true_alone raw d e f start rows (value.Value.latch_next t p x w at v) is =
    let k : slice_get [] p ≡ Some x = rw e at at in let no : ⊥ = cc in absurd no
true_alone raw d e f start rows (value.Value.gate t q g a b at va vb) is =
    let k : slice_get [] q ≡ Some g = rw f at at in let no : ⊥ = cc in absurd no
true_alone raw d e f start rows (value.Value.negated t l w over odd v) is = absurd (omega arith)

not_bad : IsVerdict a_gate shown verdict.NotBad
not_bad = record {
  applies = record {
    literal = 5;
    value = Zero;
    literal_is = refl;
    value_is = value.Value.negated 0 5 One (omega arith) refl
        (value.Value.gate 0 0 (record { lhs = 4; rhs0 = 2; rhs1 = 2 }) One One refl
        (value.Value.input 0 0 2 One (One ∷ []) refl refl refl)
        (value.Value.input 0 0 2 One (One ∷ []) refl refl refl));
    not_one = λ e. let no : ⊥ = cc in no;
  };
  first = before;
}
  where
    before : (u : Verdict) → IsBefore u verdict.NotBad → VerdictApplies a_gate shown u → ⊥
    before (verdict.Initial p) lt h = let e : None ≡ Some h.latch = h.latch_is in cc
    before (verdict.Constraint t p) lt h = let e : None ≡ Some h.1.literal = h.1.literal_is in cc
    before verdict.NotBad lt h = omega (arith, lt)
    before verdict.Confirmed lt h = omega (arith, lt)

pub order_is_canonical : HaveSameVerdicts a_gate (renumbered a_gate []) shown → ⊥
unfolding renumbered_literal renumbered_variable
order_is_canonical same =
    let h = ((same verdict.NotBad).0 not_bad).applies in
    let e : Some 1 ≡ Some h.literal = h.literal_is in
    h.not_one (true_alone (renumbered a_gate []) refl refl refl [] ((One ∷ []) ∷ []) h.value_is (cc))
