-- Flags and rows of a new grid.
use Rattle.std.proofs.Common.{◌≡◌, ◌↔◌, inl, inr, ℕ, ◌+◌, ◌-◌, ◌*◌, ◌<◌, ◌≤◌, Bool, true, false, IsTrue, List, [], ◌∷◌}
use Rattle.std.proofs.Common.{◌++◌, length, Some, slice_get, refl, sym, ap, ◌∙◌, subst, arith, length-append}
use Rattle.std.proofs.lemmas.Bool.{cases_eq}
use Rattle.std.proofs.lemmas.List.{get_or_append_left, get_or_at, length-replicate}
use Rattle.std.proofs.Math.Nat.{mul-le-mul_left}
use Rattle.aig_parts.specs.declared.ternary.Tern.{Tern}
use Rattle.aig_parts.specs.declared.ternary.Tern.TheVariants.{X}
use Rattle.aig_parts.specs.declared.raw.Raw.{Raw}
use Rattle.aig_base.specs.Sections.{IsGate}
use Rattle.aig_base.proofs.lists.Positions.{slice_get_left, slice_get_right}
use Rattle.aig_values.specs.Cells.{fresh_row}
use Rattle.aig_values.specs.InputRows.{row_at}
use Rattle.aig_bench.specs.state.Current.{AreGateFlags, AreRows}

-- flags of the first n variables
pub record FlagsTo (raw : Raw) (n : ℕ) (flags : List Bool) : Type 0 where
  pub size : length flags ≡ n
  pub gates : (v : ℕ) → v < n → IsGate raw v → slice_get flags v ≡ Some true
  pub others : (v : ℕ) → v < n → (IsGate raw v → ⊥) → slice_get flags v ≡ Some false

module _ (raw : Raw) (n : ℕ) (flags : List Bool) (b : Bool) where
  last_flag : (v : ℕ) → length flags ≡ n → v ≡ n → slice_get (flags ++ b ∷ []) v ≡ Some b
  last_flag v size e =
      let f : length flags + 0 ≡ v = omega arith in
      subst (λ v. slice_get (flags ++ b ∷ []) v ≡ Some b) f (slice_get_right flags (b ∷ []) 0 b refl)

  is_true : (b : Bool) → IsTrue b → b ≡ true
  is_true b h = h

  is_false : (b : Bool) → (IsTrue b → ⊥) → b ≡ false
  is_false true h = absurd (h refl)
  is_false false h = refl

  pub flags_more : FlagsTo raw n flags → IsTrue b ↔ IsGate raw n → FlagsTo raw (n + 1) (flags ++ b ∷ [])
  flags_more h decides = record {
    size = omega (arith, h.size, length-append flags (b ∷ []));
    gates = λ v lt k. elim (cases_eq v n) [
      | inl e ↦ last_flag v h.size e ∙ ap Some (is_true b (decides.1 (subst (IsGate raw) e k)))
      | inr ne ↦ slice_get_left flags (b ∷ []) v true (h.gates v (omega arith) k)
    ];
    others = λ v lt k. elim (cases_eq v n) [
      | inl e ↦ last_flag v h.size e ∙ ap Some (is_false b (λ t. k (subst (IsGate raw) (sym e) (decides.0 t))))
      | inr ne ↦ slice_get_left flags (b ∷ []) v false (h.others v (omega arith) k)
    ];
  }

pub flags_all : (raw : Raw) (flags : List Bool) → FlagsTo raw (raw.max_var + 1) flags → AreGateFlags raw flags
flags_all raw flags h = record {
  size = h.size;
  gates = λ v le k. h.gates v (omega arith) k;
  others = λ v le k. h.others v (omega arith) k;
}

length_fresh : (n : ℕ) → 0 < n → length (fresh_row n) ≡ n
length_fresh n lt = omega (arith, length-replicate (n - 1) X)

pub rows_more : (raw : Raw) (n : ℕ) (flags : List Bool) (old new : List (List Tern)) → AreRows raw n old
    → length flags ≡ raw.max_var + 1 → new ≡ old ++ fresh_row (length flags) ∷ [] → AreRows raw (n + 1) new
rows_more raw n flags old new h size e = record {
  frames_are = ap length e ∙ length-append old (fresh_row (length flags) ∷ []) ∙ ap (λ k. k + 1) h.frames_are;
  widths = λ t lt. elim (cases_eq t n) [
    | inl is ↦ ap length (last t is) ∙ length_fresh (length flags) (omega arith) ∙ size
    | inr ne ↦ ap length (before t (omega arith)) ∙ h.widths t (omega arith)
  ];
  constants = λ t lt. elim (cases_eq t n) [
    | inl is ↦ ap (λ (row : List Tern). slice_get row 0) (last t is)
    | inr ne ↦ ap (λ (row : List Tern). slice_get row 0) (before t (omega arith)) ∙ h.constants t (omega arith)
  ];
}
  where
    last : (t : ℕ) → t ≡ n → row_at new t ≡ fresh_row (length flags)
    last t is =
        let len : length old ≡ t = h.frames_are ∙ sym is in
        ap (λ (c : List (List Tern)). row_at c t) e ∙ get_or_at old (fresh_row (length flags)) [] [] t len

    before : (t : ℕ) → t < n → row_at new t ≡ row_at old t
    before t lt =
        let within : t < length old = omega (arith, h.frames_are) in
        ap (λ (c : List (List Tern)). row_at c t) e ∙ get_or_append_left old (fresh_row (length flags) ∷ []) []
        t within

-- one more row has room where there is room for all
pub room_for_row : (m n k bound : ℕ) → n < k → m * k ≤ bound → (n + 1) * m ≤ bound
room_for_row m n k bound lt le =
    let more : n + 1 ≤ k = omega arith in omega (arith, mul-le-mul_left m more)
