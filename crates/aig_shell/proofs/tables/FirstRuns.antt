-- What is kept of the run that was read.
use Rattle.std.proofs.Common.{rules, Bor, Option, ◌≡◌, ◌≢◌, Bool, true, false, inl, inr, ℕ, zero, suc, ◌+◌, ◌*◌, ◌<◌}
use Rattle.std.proofs.Common.{◌≤◌, ◌%◌, ◌⊎◌, List, [], ◌∷◌, ◌++◌, length, map, take, get_or, None, Some, slice_get}
use Rattle.std.proofs.Common.{refl, sym, ap, ◌∙◌, subst, arith}
use Rattle.std.specs.List.{HoldsAt}
use Rattle.std.specs.Option.{MatchOption, option_copied}
use Rattle.std.specs.Global.{Vec}
use Rattle.std.proofs.Math.Bool.{not}
use Rattle.std.proofs.lemmas.Bool.{cases_Bool, false≢true}
use denote.Enum.Bare.{sameb, same_true, true_same}
use Rattle.aig_parts.specs.contracts.ternary.Tern.{the_type}
use Rattle.std.proofs.lemmas.List.{take_more_same, get_or-map, length-map}
use Rattle.std.proofs.lemmas.Option.{same_Some, slice_get_within, slice_get-get_or, get_or_from_slice_get}
use Rattle.aig_parts.specs.Literal.{variable, IsNegated}
use Rattle.aig_parts.specs.Ternary.{kleene_not}
use Rattle.aig_parts.specs.declared.latch.Latch.{Latch}
use Rattle.aig_parts.specs.declared.ternary.Tern.{Tern}
use Rattle.aig_parts.specs.declared.ternary.Tern.TheVariants.{Zero, X}
use Rattle.aig_base.specs.Sections.{IsDefined}
use Rattle.aig_base.specs.Value.{reset_value, start_of}
use Rattle.aig_base.proofs.circuits.Gates.{defined_in_range}
use Rattle.aig_bench.specs.BenchState.{CircuitAndRows, HasValue}
use Rattle.aig_values.specs.Cells.{literal_value}
use Rattle.aig_values.proofs.Evaluation.{literal_has_value}
use Rattle.aig_shell.specs.declared.session.run_kept.FirstRun.{FirstRun}
use Rattle.aig_shell.specs.Session.{KeepsFirst}

-- what holds of each element of a list at its place, and of one more
pub push_get : {A : Type 0} (P : ℕ → A → Type 0) (xs : List A) (x : A) → ((k : ℕ) (y : A) → slice_get xs k ≡ Some y → P k y)
    → P (length xs) x → (k : ℕ) (y : A) → slice_get (xs ++ x ∷ []) k ≡ Some y → P k y
push_get P [] x before here zero y e = subst (P 0) (same_Some x y e) here
push_get P [] x before here (suc k) y e = let no : ⊥ = cc in absurd no
push_get P (z ∷ xs) x before here zero y e = before 0 y e
push_get P (z ∷ xs) x before here (suc k) y e = push_get (λ i. P (suc i)) xs x (λ i. before (suc i)) here k y e

-- what a look at a list tells, whose value is copied
pub none_copied : {A : Type 0} (o : Option (Bor A)) (N : Type 0) (S : Bor A → Type 0) → option_copied o ≡ None → MatchOption o N S → N
none_copied None N S e h = h
none_copied (Some b) N S e h = let no : ⊥ = cc in absurd no

pub some_copied : {A : Type 0} (o : Option (Bor A)) (N : Type 0) (xs : List A) (n : ℕ) (v : A) → option_copied o ≡ Some v
    → MatchOption o N (λ x. (n < length xs) × HoldsAt (λ y. x.now ≡ y) xs n) → slice_get xs n ≡ Some v
some_copied None N xs n v e h = let no : ⊥ = cc in absurd no
some_copied (Some b) N xs n v e h = slice_get-get_or xs n v h.0 ∙ ap Some (sym (h.1 v) ∙ same_Some b.now v e)

-- what a test of two values tells
module _ (a b : Tern) (r : Bool) where
  pub is_value : r ≡ sameb the_type a b → r ≡ true → a ≡ b
  is_value is e = same_true the_type (search rules) a b (sym is ∙ e)

  pub no_value : r ≡ sameb the_type a b → r ≡ false → a ≢ b
  no_value is e same = false≢true (sym e ∙ is ∙ true_same the_type a b same)

  pub same_value : r ≡ not (sameb the_type a b) → r ≡ false → a ≡ b
  same_value is e = same_true the_type (search rules) a b (elim (cases_Bool (sameb the_type a b)) [
    | inl t ↦ t
    | inr f ↦ let no : ⊥ = cc in absurd no
  ])

  pub other_value : r ≡ not (sameb the_type a b) → r ≡ true → a ≢ b
  other_value is e same = false≢true (sym (is ∙ ap not (true_same the_type a b same)) ∙ e)

negated_or_not : (l : ℕ) → (l % 2 ≡ 0) ⊎ (l % 2 ≡ 1)
negated_or_not l = grind arith

-- a value that is read
module _ (first : FirstRun) (p : CircuitAndRows) (k : KeepsFirst first p) (t l : ℕ) (row : Vec Tern)
    (frame : slice_get first.rows.items t ≡ Some row) (defined : IsDefined p.circuit (variable l)) where
  -- each row has a value for each variable
  pub no_cell : slice_get row.items (variable l) ≡ None → ⊥
  no_cell none =
      let size : length row.items ≡ p.circuit.max_var + 1 =
      ap (λ (r : Vec Tern). length r.items) (sym (get_or_from_slice_get first.rows.items t row row frame))
      ∙ k.widths t row (slice_get_within first.rows.items t row frame) in
      let range : variable l ≤ p.circuit.max_var = defined_in_range p.circuit k.circuit.sound (variable l) defined in
      let some = slice_get-get_or row.items (variable l) X (omega (arith, size, range)) in
      let no : ⊥ = cc in no

  module _ (w : Tern) (cell : slice_get row.items (variable l) ≡ Some w) where
    read : HasValue p t (2 * variable l) w
    read = k.values t (variable l) w defined (row, frame, cell)

    pub even_value : (IsNegated l → ⊥) → HasValue p t l w
    even_value even = elim (negated_or_not l) [
      | inl e ↦ let same : 2 * variable l ≡ l = omega (arith, e) in subst (λ (n : ℕ). HasValue p t n w) same read
      | inr o ↦ absurd (even o)
    ]

    pub odd_value : IsNegated l → HasValue p t l (kleene_not w)
    odd_value o =
        let here = get_or_from_slice_get row.items (variable l) w X cell in
        let is : literal_value row.items l ≡ kleene_not w = rw (o, here) refl in
        subst (HasValue p t l) is
        (literal_has_value p.circuit (start_of p.circuit) p.rows t row.items l k.circuit.sound
        (record { cell = w; cell_is = cell; value_is = read }))

-- the values of two lists of latches so far, one more
pub starts_more : (xs : List Latch) (start : List Tern) (n : ℕ) (d : Latch) → n < length xs → n < length start
    → take n (map (λ (x : Latch). reset_value x.reset) xs) ≡ take n start → reset_value (get_or xs n d).reset ≡ get_or start n Zero
    → take (n + 1) (map (λ (x : Latch). reset_value x.reset) xs) ≡ take (n + 1) start
starts_more xs start n d lt less before here =
    take_more_same (map (λ (x : Latch). reset_value x.reset) xs) start n Zero
    (omega (arith, lt, length-map xs (λ (x : Latch). reset_value x.reset))) less before
    (get_or-map (λ (x : Latch). reset_value x.reset) xs n d Zero lt ∙ here)
