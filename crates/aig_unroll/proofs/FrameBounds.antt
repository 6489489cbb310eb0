-- How great frame literals are.
use Rattle.std.proofs.Common.{◌≡◌, inl, inr, ℕ, zero, suc, ◌+◌, ◌-◌, ◌*◌, ◌%◌, ◌<◌, ◌≤◌, nat_eq, Bool, true, false}
use Rattle.std.proofs.Common.{if◌then◌else◌, List, length, take, count_by, Option, Some, None, slice_get, refl, ◌∙◌, ap}
use Rattle.std.proofs.Common.{arith}
use Rattle.std.proofs.Math.Nat.{mul-le-mul_right}
use Rattle.std.proofs.lemmas.Bool.Decides.{nat_tests}
use Rattle.std.proofs.lemmas.List.Sums.{count_by_more_yes, sum_by-take-le}
use Rattle.std.proofs.lemmas.Option.{slice_get_within, get_or_from_slice_get}
use Rattle.aig_parts.specs.declared.latch.Latch.{Latch}
use Rattle.aig_parts.specs.declared.raw.Raw.{Raw}
use Rattle.aig_parts.specs.Literal.{variable, with_sign}
use Rattle.aig_base.specs.Order.{IsCanonicalOrder}
use Rattle.aig_base.specs.Renumbered.{renumbered_variable, role_variable}
use Rattle.aig_base.specs.Role as roles
use Rattle.aig_base.specs.Role.{Role, role}
use Rattle.aig_base.specs.Sound.{IsSound, IsReset}
use Rattle.aig_base.proofs.lists.Counting.{length-order}
use Rattle.aig_base.proofs.lists.Gets.{All-at}
use Rattle.aig_base.proofs.renumbered.RenumberedParts.{variable_bound}
use Rattle.aig_unroll.specs.FrameLiteral.{frame_literal, frame_size, input_count, first_literal, latch_literal}
use Rattle.aig_unroll.specs.FrameLiteral.{next_literal, role_literal, is_uninitialised}
use Rattle.aig_unroll.proofs.FrameLiterals.{by_role, input_within}

-- a literal of a variable up to w keeps to it when it is negated
pub sign_bound : (l m w : ℕ) → m ≤ 2 * w + 1 → with_sign l m ≤ 2 * w + 1
sign_bound l m w le = go (nat_eq (l % 2) 0) refl (nat_eq (m % 2) 0) refl
  where
    go : (b : Bool) → nat_eq (l % 2) 0 ≡ b → (d : Bool) → nat_eq (m % 2) 0 ≡ d → with_sign l m ≤ 2 * w + 1
    go true e d f = rw e le
    go false e true f =
        let k : m % 2 ≡ 0 = grind (arith, nat_tests) in
        let below : m + 1 ≤ 2 * w + 1 = omega arith in
        rw (e, f) below
    go false e false f = let below : m - 1 ≤ 2 * w + 1 = omega arith in rw (e, f) below

-- an item that passes a test is one of those that do
pub count_before : {A : Type 0} (test : A → Bool) (xs : List A) (p : ℕ) (x : A) → slice_get xs p ≡ Some x
    → test x ≡ true → count_by test (take p xs) + 1 ≤ count_by test xs
count_before test xs p x at passes =
    let lt = slice_get_within xs p x at in
    let e = count_by_more_yes test xs p x lt (ap test (get_or_from_slice_get xs p x x at) ∙ passes) in
    let le = sum_by-take-le (λ y. if test y then 1 else 0) xs (p + 1) in
    omega (arith, e, le)

module _ (raw : Raw) (sound : IsSound raw) (order : List ℕ) (canonical : IsCanonicalOrder raw order) (k : ℕ) where
  role_bound : (t i : ℕ) (latch : ℕ → ℕ) (r : Role) → t < k → i ≤ length raw.gates
      → ((p : ℕ) → r ≡ roles.input p → p < length raw.inputs)
      → ((p : ℕ) → latch p ≤ 2 * (input_count raw k + t * frame_size raw) + 1)
      → role_variable raw r ≤ length raw.inputs + length raw.latches + i
      → role_literal raw k t latch r ≤ 2 * (input_count raw k + t * frame_size raw + i) + 1
  role_bound t i latch roles.constant lt le ins las below = omega arith
  role_bound t i latch (roles.input p) lt le ins las below =
      let inside = ins p refl in
      let m = mul-le-mul_right {m = suc t} {n = k} (length raw.inputs) lt in
      omega arith
  role_bound t i latch (roles.latch p) lt le ins las below = let a = las p in omega arith
  role_bound t i latch (roles.gate q) lt le ins las below = omega arith

  first_bound : (p : ℕ) (o : Option Latch) → slice_get raw.latches p ≡ o
      → first_literal raw k p o ≤ 2 * input_count raw k + 1
  first_bound p None at = omega arith
  first_bound p (Some x) at = go (is_uninitialised x) refl
    where
      go : (b : Bool) → is_uninitialised x ≡ b → first_literal raw k p (Some x) ≤ 2 * input_count raw k + 1
      go true e = let c = count_before is_uninitialised raw.latches p x at e in rw e (omega arith)
      go false e =
          let own : x.reset ≡ x.lit → ⊥ = λ is. grind (arith, nat_tests) in
          let small : x.reset ≤ 1 = elim (All-at IsReset raw.latches p x sound.resets at) [
            | inl is ↦ omega arith
            | inr o ↦ elim o [ inl is ↦ omega arith | inr is ↦ absurd (own is) ]
          ] in
          rw e (omega arith)

  of_latches : (t l i : ℕ) → t < k → i ≤ length raw.gates
      → ((p : ℕ) → latch_literal raw order k t p ≤ 2 * (input_count raw k + t * frame_size raw) + 1)
      → renumbered_variable raw order (variable l) ≤ length raw.inputs + length raw.latches + i
      → frame_literal raw order k t l ≤ 2 * (input_count raw k + t * frame_size raw + i) + 1
  unfolding renumbered_variable
  of_latches t l i lt le las below =
      rw (by_role raw order k t l)
      (sign_bound l (role_literal raw k t (latch_literal raw order k t) (role raw order (variable l)))
      (input_count raw k + t * frame_size raw + i)
      (role_bound t i (latch_literal raw order k t) (role raw order (variable l)) lt le
      (input_within raw order (variable l)) las below))

  next_bound : (t : ℕ) (o : Option Latch)
      → ((l : ℕ) → frame_literal raw order k t l ≤ 2 * (input_count raw k + t * frame_size raw + length raw.gates) + 1)
      → next_literal (frame_literal raw order k t) o ≤ 2 * (input_count raw k + suc t * frame_size raw) + 1
  next_bound t None all = omega arith
  next_bound t (Some x) all = let a = all x.next in omega arith

  -- a literal whose number is below that of the gate at place i of the order
  pub literal_bound : (t l i : ℕ) → t < k → i ≤ length raw.gates
      → renumbered_variable raw order (variable l) ≤ length raw.inputs + length raw.latches + i
      → frame_literal raw order k t l ≤ 2 * (input_count raw k + t * frame_size raw + i) + 1
  unfolding frame_literal latch_literal
  literal_bound zero l i lt le below =
      of_latches 0 l i lt le (λ p. let b = first_bound p (slice_get raw.latches p) refl in omega arith) below
  literal_bound (suc t) l i lt le below =
      let all : (m : ℕ)
      → frame_literal raw order k t m ≤ 2 * (input_count raw k + t * frame_size raw + length raw.gates) + 1 =
      λ m. literal_bound t m (length raw.gates) (omega arith) (omega arith)
      (omega (arith, variable_bound raw order (variable m), length-order raw sound order canonical)) in
      of_latches (suc t) l i lt le (λ p. next_bound t (slice_get raw.latches p) all) below

  -- any literal of a frame is below its first chain gate
  pub any_bound : (t l : ℕ) → t < k
      → frame_literal raw order k t l ≤ 2 * (input_count raw k + t * frame_size raw + length raw.gates) + 1
  any_bound t l lt =
      literal_bound t l (length raw.gates) lt (omega arith)
      (omega (arith, variable_bound raw order (variable l), length-order raw sound order canonical))
