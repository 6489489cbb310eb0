-- A level is at most the greatest variable.
use Rattle.std.proofs.Common.{◌≡◌, ◌⊎◌, inl, inr, ℕ, zero, suc, ◌+◌, ◌<◌, ◌≤◌, max, List, [], ◌∷◌, length, Contains}
use Rattle.std.proofs.Common.{refl, sym, ◌∙◌, subst, arith}
use Rattle.std.specs.List.{range_with_len}
use Rattle.std.proofs.lemmas.List.FromFn.{length-range_with_len, get_or-range_with_len}
use Rattle.std.proofs.lemmas.Option.{same_Some}
use Rattle.aig_parts.specs.declared.raw.Raw.{Raw}
use Rattle.aig_base.specs.Grounded as by
use Rattle.aig_base.specs.Grounded.{Level}
use Rattle.aig_parts.specs.Literal.{variable}
use Rattle.aig_base.specs.Sound.{IsSound, StandsTwice}
use Rattle.aig_base.proofs.lists.Counting.{length_le}
use Rattle.aig_base.proofs.circuits.Gates.{level_in_range}
use Rattle.aig_base.proofs.lists.Gets.{Contains-from_get}
use Rattle.aig_base.proofs.levels.OneLevel.{same_level}
use Rattle.aig_base.proofs.lists.Positions.{Contains-cons, no_element}

pub once_cons : (v : ℕ) (xs : List ℕ) → (Contains xs v → ⊥) → ((x : ℕ) → StandsTwice xs x → ⊥) → (x : ℕ)
    → StandsTwice (v ∷ xs) x → ⊥
once_cons v xs never once x (i, zero, lt, a, b) = absurd (omega arith)
once_cons v xs never once x (zero, suc j, lt, a, b) =
    let e : v ≡ x = same_Some v x a in
    never (subst (Contains xs) (sym e) (Contains-from_get xs j x b))
once_cons v xs never once x (suc i, suc j, lt, a, b) = once x (i, j, omega arith, a, b)

once_one : (v x : ℕ) → StandsTwice (v ∷ []) x → ⊥
once_one v x (i, j, lt, a, b) =
    once_cons v [] (no_element v) (λ y w. (let (k, l, less, c, d) = w in no_element y (Contains-from_get [] k y c))) x
    (i, j, lt, a, b)

-- variables of all levels down from this one
record Descent (raw : Raw) (n : ℕ) : Type 0 where
  variables : List ℕ
  size : length variables ≡ n + 1
  once : (x : ℕ) → StandsTwice variables x → ⊥
  each : (u : ℕ) → Contains variables u → (m : ℕ) × Level raw u m × (m ≤ n)

module _ (raw : Raw) (sound : IsSound raw) where
  one_more : (v m n : ℕ) → Level raw v n → m < n → n ≡ m + 1 → Descent raw m → Descent raw n
  one_more v m n level lt is d = record {
    variables = v ∷ d.variables;
    size = omega (arith, d.size);
    once = once_cons v d.variables
        (λ i. (let (k, l, le) = d.each v i in let same : k ≡ n = same_level sound l level in omega arith)) d.once;
    each = λ u i. elim (Contains-cons v d.variables u i) [
      | inl e ↦ (n, subst (λ (k : ℕ). Level raw k n) (sym e) level, omega arith)
      | inr j ↦ let (k, l, le) = d.each u j in (k, l, omega arith)
    ];
  }

  greater : (a b : ℕ) → (a ≤ b) ⊎ (b ≤ a)
  greater a b = grind arith

  descent : {v n : ℕ} → Level raw v n → Descent raw n
  descent (by.Level.source v s) = record {
    variables = v ∷ [];
    size = refl;
    once = once_one v;
    each = λ u i. elim (Contains-cons v [] u i) [
      | inl e ↦ (0, subst (λ (k : ℕ). Level raw k 0) (sym e) (by.Level.source v s), omega arith)
      | inr j ↦ absurd (no_element u j)
    ];
  }
  descent (by.Level.gate q g a b at la lb) =
      let level = by.Level.gate q g a b at la lb in
      elim (greater a b) [
        | inl le ↦ one_more (variable g.lhs) b (max a b + 1) level (omega arith) (omega arith) (descent lb)
        | inr le ↦ one_more (variable g.lhs) a (max a b + 1) level (omega arith) (omega arith) (descent la)
      ]

  pub level_bound : {v n : ℕ} → Level raw v n → n ≤ raw.max_var
  level_bound l =
      let d = descent l in
      let le = length_le d.variables (range_with_len 0 (raw.max_var + 1)) d.once (λ u i.
      within u (let (m, k, b) = d.each u i in level_in_range raw sound k)) in
      let size = length-range_with_len 0 (raw.max_var + 1) in
      let more = d.size in
      omega arith
    where
      within : (u : ℕ) → u ≤ raw.max_var → Contains (range_with_len 0 (raw.max_var + 1)) u
      within u le = (
        u,
        omega (arith, length-range_with_len 0 (raw.max_var + 1)),
        get_or-range_with_len 0 (raw.max_var + 1) u u (omega arith) ∙ omega arith,
      )
