-- What the laws' premises are for: without them the laws are false of these parts.
use Rattle.std.proofs.Common.{◌≡◌, ◌≢◌, ℕ, zero, suc, List, [], ◌∷◌, Some, slice_get, refl, sym, ap, ◌∙◌, arith}
use Rattle.aig_parts.specs.declared.gate.Gate.{Gate}
use Rattle.aig_parts.specs.declared.raw.Raw.{Raw}
use Rattle.aig_parts.specs.declared.ternary.Tern.{Tern}
use Rattle.aig_parts.specs.declared.ternary.Tern.TheVariants.{Zero, One, X}
use Rattle.aig_base.specs.Grounded as by
use Rattle.aig_base.specs.Grounded.{Level}
use Rattle.aig_base.specs.Laws.{KnownValuesStay}
use Rattle.aig_base.specs.Renumbered.{IsBinaryReady}
use Rattle.aig_base.specs.Sound.{IsSound}
use Rattle.aig_base.specs.Value as value
use Rattle.aig_base.specs.Value.{Value, HaveOneValue}

-- parts with one input, and none but it defined
abbrev one_input : Raw → ℕ → Raw
one_input raw l = record raw { inputs = l ∷ []; latches = []; gates = [] }

-- parts with one gate, and none but it defined
abbrev one_gate : Raw → Gate → Raw
one_gate raw g = record raw { inputs = []; latches = []; gates = g ∷ [] }

-- not all parts are sound: an input is no odd literal
pub not_all_sound : (raw : Raw) → IsSound (one_input raw 1) → ⊥
not_all_sound raw sound = let h = sound.definitions 0 0 (omega arith) in omega (arith, h.0)

-- not all circuits are ready for a binary file: right sides may rise
pub not_all_ready : (raw : Raw) → IsBinaryReady (one_gate raw (record { lhs = 6; rhs0 = 2; rhs1 = 4 })) → ⊥
not_all_ready raw ready =
    let h = ready.gates 0 (record { lhs = 6; rhs0 = 2; rhs1 = 4 }) (omega arith) in omega (arith, h.1)

-- not all variables have one level
pub levels_differ : (raw : Raw)
    → ((m n : ℕ) → Level (one_gate raw (record { lhs = 2; rhs0 = 0; rhs1 = 0 })) 0 m
    → Level (one_gate raw (record { lhs = 2; rhs0 = 0; rhs1 = 0 })) 1 n → m ≡ n) → ⊥
levels_differ raw same =
    let start = by.Level.source 0 by.IsSource.constant in
    zero_is_not_one (same 0 1 start (by.Level.gate 0 (record { lhs = 2; rhs0 = 0; rhs1 = 0 }) 0 0 refl start start))
  where
    zero_is_not_one : ◌≡◌ {A = ℕ} 0 1 → ⊥
    zero_is_not_one e = omega arith

-- values follow the rows
only_one : (raw : Raw) {t l : ℕ} {w : Tern} → Value (one_input raw 2) [] ((One ∷ []) ∷ []) t l w → l ≡ 2 → w ≡ One
only_one raw (value.constant_false t) e = absurd (omega arith)
only_one raw (value.constant_true t) e = absurd (omega arith)
only_one raw (value.input zero zero l w row at is cell) e = let f : row ≡ One ∷ [] = cc in let g : Some w
    ≡ Some One = sym cell ∙ ap (λ (r : List Tern). slice_get r 0) f in cc
only_one raw (value.input zero (suc p) l w row at is cell) e = let no : ⊥ = cc in absurd no
only_one raw (value.input (suc t) p l w row at is cell) e = let no : ⊥ = cc in absurd no
only_one raw (value.latch_first p x w at is) e = let no : ⊥ = cc in absurd no
only_one raw (value.latch_next t p x w at v) e = let no : ⊥ = cc in absurd no
only_one raw (value.gate t q g a b at va vb) e = let no : ⊥ = cc in absurd no
only_one raw (value.negated t l w over neg v) e = absurd (omega (arith, neg))

-- a known value does not stay under all rows
pub values_change : (raw : Raw) → KnownValuesStay (one_input raw 2) [] ((Zero ∷ []) ∷ []) [] ((One ∷ []) ∷ []) → ⊥
values_change raw stays =
    let ne : Zero ≢ X = (λ h. let no : ⊥ = cc in no) in
    let v = stays 0 2 Zero ne (value.input 0 0 2 Zero (Zero ∷ []) refl refl refl) in
    let e : Zero ≡ One = only_one raw v refl in
    let no : ⊥ = cc in no

-- a gate that reads itself has no value
no_value : (raw : Raw) (start : List Tern) (rows : List (List Tern)) {t l : ℕ} {w : Tern}
    → Value (one_gate raw (record { lhs = 2; rhs0 = 2; rhs1 = 2 })) start rows t l w → l ≡ 2 → ⊥
no_value raw start rows (value.constant_false t) e = omega arith
no_value raw start rows (value.constant_true t) e = omega arith
no_value raw start rows (value.input t p l w row at is cell) e = let no : ⊥ = cc in no
no_value raw start rows (value.latch_first p x w at is) e = let no : ⊥ = cc in no
no_value raw start rows (value.latch_next t p x w at v) e = let no : ⊥ = cc in no
no_value raw start rows (value.gate t zero g a b at va vb) e =
    no_value raw start rows va (let f : Some g ≡ Some (record { lhs = 2; rhs0 = 2; rhs1 = 2 }) = sym at in
    let h : g ≡ record { lhs = 2; rhs0 = 2; rhs1 = 2 } = cc in ap (λ (k : Gate). k.rhs0) h)
no_value raw start rows (value.gate t (suc q) g a b at va vb) e = let no : ⊥ = cc in no
no_value raw start rows (value.negated t l w over neg v) e = omega (arith, neg)

pub not_all_valued : (raw : Raw)
    → HaveOneValue (one_gate raw (record { lhs = 2; rhs0 = 2; rhs1 = 2 })) [] ([] ∷ []) → ⊥
not_all_valued raw one =
    let h = one 0 2 (omega arith) (1, omega arith, refl) in no_value raw [] ([] ∷ []) h.1 refl
