-- Marks of the parts that are cut, one more part at a time.
use Rattle.std.proofs.Common.{◌≡◌, ◌≢◌, ◌⊎◌, inl, inr, ℕ, ◌+◌, ◌*◌, ◌/◌, ◌<◌, ◌≤◌, ◌==◌, ◌||◌, Bool, true, false, List, [], ◌∷◌}
use Rattle.std.proofs.Common.{◌++◌, length, set, get_or, map, All, Contains, refl, sym, ◌∙◌, ap, subst, arith}
use Rattle.std.specs.List.{list_any}
use Rattle.std.proofs.lemmas.Bool.{eq-eqb, eqb-true, eqb-false, ne_eqb}
use Rattle.std.proofs.lemmas.List.{get_or-set_same, get_or-set_other, length-set}
use Rattle.std.proofs.lemmas.List.Elements.{All-contains, Contains-append_left, Contains-append_right}
use Rattle.std.proofs.lemmas.List.Folds.{list_any-append}
use Rattle.aig_parts.specs.declared.gate.Gate.{Gate}
use Rattle.aig_parts.specs.declared.latch.Latch.{Latch}
use Rattle.aig_parts.specs.declared.raw.Raw.{Raw}
use Rattle.aig_parts.specs.Literal.{variable, IsEven}
use Rattle.aig_base.specs.Sections.{definitions, uses, IsLatchLiteral, IsLeftSide}
use Rattle.aig_base.specs.Sound.{IsDefinition, IsInRange, IsSound}
use Rattle.aig_base.proofs.lists.Joined.{All-left}
use Rattle.aig_cut.specs.declared.line.Cut.{Cut}
use Rattle.aig_cut.specs.declared.line.Cut.TheVariants as cut
use Rattle.aig_cut.specs.declared.marks.Marks.{Marks}
use Rattle.aig_cut.specs.Cuts.{IsCutIn, drops, frees, lets_start, named_by}
use Rattle.aig_cut.specs.state.Marks.{AreMarks, FitMarks, marked}

-- ---- literals of latches and gates

pub record IsOfEntry (raw : Raw) (l : ℕ) : Type 0 where
  pub even : IsEven l
  pub range : variable l ≤ raw.max_var

module _ (raw : Raw) (sound : IsSound raw) where
  of_definition : (l : ℕ) → Contains (definitions raw) l → IsOfEntry raw l
  of_definition l here =
      let is : IsDefinition l = All-contains IsDefinition (definitions raw) l sound.definitions here in
      let within : IsInRange raw l =
      All-contains (IsInRange raw) (definitions raw) l (All-left (IsInRange raw) (definitions raw) (uses raw) sound.in_range) here in
      record { even = is.0; range = omega (arith, within) }

  pub of_latch : (l : ℕ) → IsLatchLiteral raw l → IsOfEntry raw l
  of_latch l here =
      of_definition l
      (Contains-append_left (raw.inputs ++ map (λ (x : Latch). x.lit) raw.latches) (map (λ (g : Gate). g.lhs) raw.gates) l
      (Contains-append_right raw.inputs (map (λ (x : Latch). x.lit) raw.latches) l here))

  pub of_gate : (l : ℕ) → IsLeftSide raw l → IsOfEntry raw l
  of_gate l here =
      of_definition l
      (Contains-append_right (raw.inputs ++ map (λ (x : Latch). x.lit) raw.latches) (map (λ (g : Gate). g.lhs) raw.gates) l here)

  pub of_either : (l : ℕ) → IsLatchLiteral raw l ⊎ IsLeftSide raw l → IsOfEntry raw l
  of_either l here = elim here [ inl latch ↦ of_latch l latch | inr gate ↦ of_gate l gate ]

-- ---- one more mark

same_test : (l v : ℕ) → IsEven l → (l == 2 * v) ≡ (variable l == v)
same_test l v even = (elim (variable l == v) as (λ b. (variable l == v) ≡ b → (l == 2 * v) ≡ b) [
  | true ↦ λ e. let is = eqb-true (variable l) v e in eq-eqb l (2 * v) (omega (arith, is, even))
  | false ↦ λ e. let other = eqb-false (variable l) v e in ne_eqb l (2 * v) (λ is. other (omega (arith, is)))
]) refl

any_more : {A : Type 0} (p : A → Bool) (xs : List A) (x : A) → list_any p (xs ++ x ∷ []) ≡ (list_any p xs || p x)
any_more p xs x = list_any-append p xs (x ∷ []) ∙ ap (λ b. list_any p xs || b) (one (p x))
  where
    one : (b : Bool) → (b || false) ≡ b
    one true = refl
    one false = refl

or-false : (b : Bool) → b ≡ (b || false)
or-false true = refl
or-false false = refl

or-true : (b : Bool) → true ≡ (b || true)
or-true true = refl
or-true false = refl

-- a part of another kind sets no mark
kept : (p : Cut → Bool) (cuts : List Cut) (c : Cut) (now : Bool) → p c ≡ false → now ≡ list_any p cuts
    → now ≡ list_any p (cuts ++ c ∷ [])
kept p cuts c now other is =
    is ∙ or-false (list_any p cuts) ∙ ap (λ b. list_any p cuts || b) (sym other) ∙ sym (any_more p cuts c)

-- a part sets its own mark
more_set : (p : Cut → Bool) (cuts : List Cut) (c : Cut) (xs : List Bool) (i v : ℕ) → i < length xs → p c ≡ (i == v)
    → get_or xs v false ≡ list_any p cuts → get_or (set xs i true) v false ≡ list_any p (cuts ++ c ∷ [])
more_set p cuts c xs i v within test is = (elim (i == v) as (λ b. (i == v) ≡ b → get_or (set xs i true) v false ≡ list_any p (cuts ++ c ∷ [])) [
  | true ↦ λ e.
      let same : i ≡ v = eqb-true i v e in
      subst (λ n. get_or (set xs i true) n false ≡ list_any p (cuts ++ c ∷ [])) same
      (get_or-set_same xs i true false within ∙ or-true (list_any p cuts)
      ∙ ap (λ b. list_any p cuts || b) (sym (test ∙ e)) ∙ sym (any_more p cuts c))
  | false ↦ λ e.
      get_or-set_other xs i v true false (λ back. eqb-false i v e (sym back))
      ∙ kept p cuts c (get_or xs v false) (test ∙ e) is
]) refl

module _ (raw : Raw) (sound : IsSound raw) (cuts : List Cut) (old new : Marks) (h : AreMarks raw cuts old) where
  pub free_more : (l i : ℕ) → IsLatchLiteral raw l ⊎ IsLeftSide raw l → i ≡ variable l
      → new.free.items ≡ set old.free.items i true → new.starts.items ≡ old.starts.items
      → new.constraints.items ≡ old.constraints.items → AreMarks raw (cuts ++ cut.Free l ∷ []) new
  free_more l i here at free starts constraints =
      let known = of_either raw sound l here in
      record {
        fit = record {
          free = ap length free ∙ length-set old.free.items i true ∙ h.fit.free;
          starts = ap length starts ∙ h.fit.starts;
          constraints = ap length constraints ∙ h.fit.constraints;
        };
        free = λ v le.
            let w : variable (2 * v) ≡ v = omega arith in
            ap (λ xs. get_or xs (variable (2 * v)) false) free
            ∙ more_set (frees (2 * v)) cuts (cut.Free l) old.free.items i (variable (2 * v))
            (omega (arith, at, known.range, h.fit.free))
            (same_test l v known.even ∙ (λ j. sym at j == sym w j)) (h.free v le);
        starts = λ v le.
            kept (lets_start (2 * v)) cuts (cut.Free l) (get_or new.starts.items (variable (2 * v)) false) refl
            (ap (λ xs. get_or xs (variable (2 * v)) false) starts ∙ h.starts v le);
        constraints = λ p lt.
            kept (drops p) cuts (cut.Free l) (get_or new.constraints.items p false) refl
            (ap (λ xs. get_or xs p false) constraints ∙ h.constraints p lt);
      }

  pub start_more : (l i : ℕ) → IsLatchLiteral raw l → i ≡ variable l → new.free.items ≡ old.free.items
      → new.starts.items ≡ set old.starts.items i true → new.constraints.items ≡ old.constraints.items
      → AreMarks raw (cuts ++ cut.Start l ∷ []) new
  start_more l i here at free starts constraints =
      let known = of_latch raw sound l here in
      record {
        fit = record {
          free = ap length free ∙ h.fit.free;
          starts = ap length starts ∙ length-set old.starts.items i true ∙ h.fit.starts;
          constraints = ap length constraints ∙ h.fit.constraints;
        };
        free = λ v le.
            kept (frees (2 * v)) cuts (cut.Start l) (get_or new.free.items (variable (2 * v)) false) refl
            (ap (λ xs. get_or xs (variable (2 * v)) false) free ∙ h.free v le);
        starts = λ v le.
            let w : variable (2 * v) ≡ v = omega arith in
            ap (λ xs. get_or xs (variable (2 * v)) false) starts
            ∙ more_set (lets_start (2 * v)) cuts (cut.Start l) old.starts.items i (variable (2 * v))
            (omega (arith, at, known.range, h.fit.starts))
            (same_test l v known.even ∙ (λ j. sym at j == sym w j)) (h.starts v le);
        constraints = λ p lt.
            kept (drops p) cuts (cut.Start l) (get_or new.constraints.items p false) refl
            (ap (λ xs. get_or xs p false) constraints ∙ h.constraints p lt);
      }

  pub constraint_more : (q : ℕ) → q < length raw.constraints → new.free.items ≡ old.free.items
      → new.starts.items ≡ old.starts.items → new.constraints.items ≡ set old.constraints.items q true
      → AreMarks raw (cuts ++ cut.Constraint q ∷ []) new
  constraint_more q here free starts constraints =
      record {
        fit = record {
          free = ap length free ∙ h.fit.free;
          starts = ap length starts ∙ h.fit.starts;
          constraints = ap length constraints ∙ length-set old.constraints.items q true ∙ h.fit.constraints;
        };
        free = λ v le.
            kept (frees (2 * v)) cuts (cut.Constraint q) (get_or new.free.items (variable (2 * v)) false) refl
            (ap (λ xs. get_or xs (variable (2 * v)) false) free ∙ h.free v le);
        starts = λ v le.
            kept (lets_start (2 * v)) cuts (cut.Constraint q) (get_or new.starts.items (variable (2 * v)) false) refl
            (ap (λ xs. get_or xs (variable (2 * v)) false) starts ∙ h.starts v le);
        constraints = λ p lt.
            ap (λ xs. get_or xs p false) constraints
            ∙ more_set (drops p) cuts (cut.Constraint q) old.constraints.items q p (omega (arith, here, h.fit.constraints)) refl
            (h.constraints p lt);
      }
