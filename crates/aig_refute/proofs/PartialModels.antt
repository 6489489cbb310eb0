-- Values of variables, unknown ones included, that make a literal of each clause 1.
use Rattle.std.proofs.Common.{◌≡◌, inl, inr, ℕ, zero, suc, ◌+◌, ◌-◌, ◌*◌, ◌%◌, ◌<◌, Bool, true, false, not, ◌&&◌, ◌||◌}
use Rattle.std.proofs.Common.{List, [], ◌∷◌, length, drop, flat_map, Some, slice_get, slice_index}
use Rattle.std.proofs.Common.{refl, sym, ◌∙◌, ap, subst, arith, length-drop}
use Rattle.std.specs.List.{list_all}
use Rattle.std.proofs.lemmas.List.{get_or-drop, get_or-take, length-take-le}
use Rattle.std.proofs.lemmas.List.Concat.{flat_map-cons}
use Rattle.std.proofs.lemmas.List.Folds.{list_all-append}
use Rattle.std.proofs.lemmas.Option.{slice_get_within, get_or_from_slice_get}
use Rattle.std.proofs.lemmas.Bool.{and_parts}
use Rattle.aig_sat.proofs.checking.TruthLemmas.{true_even, true_odd}
use Rattle.aig_parts.specs.Literal.{variable, negation, IsNegated}
use Rattle.aig_parts.specs.Ternary.{kleene_and, kleene_not}
use Rattle.aig_parts.specs.declared.gate.Gate.{Gate}
use Rattle.aig_parts.specs.declared.raw.Raw.{Raw}
use Rattle.aig_parts.specs.declared.ternary.Tern.{Tern}
use Rattle.aig_parts.specs.declared.ternary.Tern.TheVariants.{Zero, One, X}
use Rattle.aig_base.specs.Circuit.{IsCircuit}
use Rattle.aig_base.specs.Order.{IsCanonicalOrder}
use Rattle.aig_base.specs.Renumbered.{evens}
use Rattle.aig_base.specs.Value.{Value}
use Rattle.aig_base.proofs.lists.Evens.{length-evens_from}
use Rattle.aig_cnf.specs.Formula.{cone, formula_of, gate_clauses, goals, reads}
use Rattle.aig_cnf.specs.Query.{within}
use Rattle.aig_sat.specs.checker.Clause.{is_true, meets, Satisfies}
use Rattle.aig_cnf.proofs.SignLemmas.{signs}
use Rattle.aig_refute.proofs.BadFormula.{bad_at, bad_in_range, goal_frame, names_witness, valued}
use Rattle.aig_refute.proofs.RowValues.{length-cut}
use Rattle.aig_refute.proofs.ConeValues.{assigned_in, goal_read, read_earlier}
use Rattle.aig_refute.proofs.Tseitin.{both_and}
use Rattle.aig_refute.proofs.UnrolledWitnesses.{confirms_row}
use Rattle.aig_refute.specs.Models.{tern_of, values_of}
use Rattle.aig_refute.specs.PartialModels.{is_one, value_in, literal_in, has_one, SatisfiesInPart, IsFilling, inputs_in}
use Rattle.aig_refute.specs.PartialModels.{NamesRun}
use Rattle.aig_refute.specs.UnrolledWitness.{MakesBad, witness_in}
use Rattle.aig_sim.specs.Verdict.{IsVerdict}
use Rattle.aig_sim.specs.declared.witness.verdict.Verdict.TheVariants as verdict
use Rattle.aig_unroll.specs.FrameLiteral.{input_count}
use Rattle.aig_unroll.specs.Unrolled.{unrolled}
use Rattle.aig_unroll.proofs.UnrolledRow.{evens_at}

-- ---- literals

value_even : (a : List Tern) (l : ℕ) → l % 2 ≡ 0 → literal_in a l ≡ value_in a (variable l)
value_even a l e = rw e refl

value_odd : (a : List Tern) (l : ℕ) → IsNegated l → literal_in a l ≡ kleene_not (value_in a (variable l))
value_odd a l e = rw e refl

-- an odd literal is the negation of the one below it
value_below : (a : List Tern) (l : ℕ) → IsNegated l → literal_in a l ≡ kleene_not (literal_in a (l - 1))
value_below a l e =
    let even : (l - 1) % 2 ≡ 0 = grind arith in
    let same : variable l ≡ variable (l - 1) = grind arith in
    value_odd a l e ∙ ap (λ v. kleene_not (value_in a v)) same ∙ ap kleene_not (sym (value_even a (l - 1) even))

not_twice : (w : Tern) → kleene_not (kleene_not w) ≡ w
not_twice Zero = refl
not_twice One = refl
not_twice X = refl

value_negation : (a : List Tern) (l : ℕ) → literal_in a (negation l) ≡ kleene_not (literal_in a l)
value_negation a l = elim (signs l) [
  | inl even ↦
      let is : negation l ≡ l + 1 = rw even refl in
      let odd : (l + 1) % 2 ≡ 1 = grind arith in
      let same : variable (l + 1) ≡ variable l = grind arith in
      ap (literal_in a) is ∙ value_odd a (l + 1) odd ∙ ap (λ v. kleene_not (value_in a v)) same
      ∙ ap kleene_not (sym (value_even a l even))
  | inr odd ↦
      let is : negation l ≡ l - 1 = rw odd refl in
      ap (literal_in a) is ∙ sym (not_twice (literal_in a (l - 1))) ∙ ap kleene_not (sym (value_below a l odd))
]

-- ---- a gate's clauses

three : (x y z : Tern) → Bool
three x y z =
    (is_one (kleene_not x) || (is_one y || false))
    && ((is_one (kleene_not x) || (is_one z || false))
    && ((is_one x || (is_one (kleene_not y) || (is_one (kleene_not z) || false))) && true))

-- the left side is known then
three_is : (x y z : Tern) → three x y z ≡ true → x ≡ kleene_and y z
unfolding three
three_is One One One e = refl
three_is One One Zero e = cc
three_is One One X e = cc
three_is One Zero z e = cc
three_is One X z e = cc
three_is Zero Zero z e = refl
three_is Zero One Zero e = refl
three_is Zero One One e = cc
three_is Zero One X e = cc
three_is Zero X Zero e = refl
three_is Zero X One e = cc
three_is Zero X X e = cc
three_is X Zero z e = cc
three_is X X z e = cc
three_is X One Zero e = cc
three_is X One X e = cc
three_is X One One e = cc

clauses_of : (a : List Tern) (g : Gate)
    → list_all (has_one a) (gate_clauses g) ≡ three (literal_in a g.lhs) (literal_in a g.rhs0) (literal_in a g.rhs1)
unfolding three
clauses_of a g = rw (value_negation a g.lhs, value_negation a g.rhs0, value_negation a g.rhs1) refl

abbrev IsAnd : List Tern → Gate → Type 0
IsAnd a g = literal_in a g.lhs ≡ kleene_and (literal_in a g.rhs0) (literal_in a g.rhs1)

gate_met : (a : List Tern) (g : Gate) → SatisfiesInPart a (gate_clauses g) → IsAnd a g
gate_met a g h =
    three_is (literal_in a g.lhs) (literal_in a g.rhs0) (literal_in a g.rhs1) (sym (clauses_of a g) ∙ h)

-- the clauses of all gates
gates_met : (a : List Tern) (gates : List Gate) → SatisfiesInPart a (flat_map gate_clauses gates) → (q : ℕ) (g : Gate)
    → slice_get gates q ≡ Some g → IsAnd a g
gates_met a [] h q g at = cc
gates_met a (x ∷ xs) h q g at =
    let both = and_parts (list_all (has_one a) (gate_clauses x)) (list_all (has_one a) (flat_map gate_clauses xs))
    (sym (list_all-append (has_one a) (gate_clauses x) (flat_map gate_clauses xs))
    ∙ ap (list_all (has_one a)) (sym (flat_map-cons gate_clauses x xs)) ∙ h) in
    go q at both.0 (λ j f is. gates_met a xs both.1 j f is)
  where
    go : (q : ℕ) → slice_get (x ∷ xs) q ≡ Some g → list_all (has_one a) (gate_clauses x) ≡ true
        → ((j : ℕ) (f : Gate) → slice_get xs j ≡ Some f → IsAnd a f) → IsAnd a g
    go zero at first later = let same : x ≡ g = cc in subst (IsAnd a) same (gate_met a x first)
    go (suc q) at first later = later q g at

-- ---- a clause

one_is : (w : Tern) → is_one w ≡ true → w ≡ One
one_is Zero e = cc
one_is One e = refl
one_is X e = cc

one_met : (a : List Tern) (ls : List ℕ) → has_one a ls ≡ true
    → (i : ℕ) × (l : ℕ) × (slice_get ls i ≡ Some l) × (literal_in a l ≡ One)
one_met a [] e = cc
one_met a (l ∷ ls) e = go (is_one (literal_in a l)) refl e (λ h. one_met a ls h)
  where
    go : (b : Bool) → is_one (literal_in a l) ≡ b → (b || has_one a ls) ≡ true
        → (has_one a ls ≡ true → (i : ℕ) × (m : ℕ) × (slice_get ls i ≡ Some m) × (literal_in a m ≡ One))
        → (i : ℕ) × (m : ℕ) × (slice_get (l ∷ ls) i ≡ Some m) × (literal_in a m ≡ One)
    go true is e later = (0, l, refl, one_is (literal_in a l) is)
    go false is e later = let (i, m, at, t) = later e in (suc i, m, at, t)

low_of : (a : List Tern) → has_one a (1 ∷ []) ≡ true → value_in a 0 ≡ Zero
low_of a e = go (value_in a 0) e
  where
    go : (w : Tern) → (is_one (kleene_not w) || false) ≡ true → w ≡ Zero
    go Zero e = refl
    go One e = cc
    go X e = cc

-- ---- from the values to a run

-- a witness in a row
reaches_of : (raw : Raw) (k t p : ℕ) (values row : List Tern) → t < k → p < length raw.bad → inputs_in raw k values ≡ row
    → IsVerdict raw (witness_in raw k t p row) verdict.Confirmed → NamesRun raw k p values
reaches_of raw k t p values row lt property same confirmed = (
  t,
  record {
    frame = omega (arith, length-cut (length raw.inputs) k (inputs_in raw k values), lt);
    property = property;
    confirmed = subst (λ (r : List Tern). IsVerdict raw (witness_in raw k t p r) verdict.Confirmed) (sym same) confirmed;
  },
)

pub names_whole_run : (raw : Raw) → IsCircuit raw → (order : List ℕ) → IsCanonicalOrder raw order → (k p : ℕ)
    → (values : List Tern) (whole : ℕ → Bool) → p < length raw.bad → Satisfies whole (formula_of raw order (within k p)).clauses
    → inputs_in raw k values ≡ values_of raw k whole → NamesRun raw k p values
names_whole_run raw circuit order canonical k p values whole property h same =
    let (t, lt, confirmed) = names_witness raw circuit order canonical k p whole property h in
    reaches_of raw k t p values (values_of raw k whole) lt property same confirmed

module _ (raw : Raw) (circuit : IsCircuit raw) (order : List ℕ) (canonical : IsCanonicalOrder raw order) (k : ℕ)
    (a : List Tern) (enough : input_count raw k < length a) where
  wide : length (inputs_in raw k a) ≡ input_count raw k
  wide = length-take-le (input_count raw k) (drop 1 a) (omega (arith, length-drop 1 a, enough))

  -- the inputs have the values that the values say
  inputs_are : (i l : ℕ) (w : Tern) → slice_get (evens (input_count raw k)) i ≡ Some l
      → slice_get (inputs_in raw k a) i ≡ Some w → w ≡ literal_in a l
  inputs_are i l w at cell =
      let lt : i < input_count raw k =
      (let h = slice_get_within (evens (input_count raw k)) i l at in omega (arith, length-evens_from 1 (input_count raw k))) in
      let is : l ≡ 2 * (1 + i) = (let e : Some l ≡ Some (2 * (1 + i)) = sym at ∙ evens_at (input_count raw k) i lt in cc) in
      let even : l % 2 ≡ 0 = grind (arith, is) in
      let half : variable l ≡ 1 + i = grind (arith, is) in
      let value_is : w ≡ value_in a (1 + i) =
      sym (get_or_from_slice_get (inputs_in raw k a) i w X cell)
      ∙ get_or-take (input_count raw k) (drop 1 a) i X lt ∙ get_or-drop 1 a i X in
      value_is ∙ ap (value_in a) (sym half) ∙ sym (value_even a l even)

  reaches : (p : ℕ) → p < length raw.bad → SatisfiesInPart a (formula_of raw order (within k p)).clauses
      → (t : ℕ) × (t < k) × MakesBad raw order k (inputs_in raw k a) t p
  reaches p property h =
      let literals = goals (unrolled raw order k) (length raw.bad) k p in
      let kept = cone literals (unrolled raw order k).gates in
      let (first, rest) = and_parts (has_one a (1 ∷ [])) (has_one a literals && list_all (has_one a) (flat_map gate_clauses kept)) h in
      let (goal, gates) = and_parts (has_one a literals) (list_all (has_one a) (flat_map gate_clauses kept)) rest in
      let low = low_of a first in
      let (i, l, at, one_l) = one_met a literals goal in
      let (t, lt, is) = goal_frame (λ t. slice_index (unrolled raw order k).bad (t * length raw.bad + p)) k i l at in
      let g = slice_index (unrolled raw order k).bad (t * length raw.bad + p) in
      let (w, v) = valued raw circuit order canonical k (inputs_in raw k a) wide g
      (bad_in_range raw circuit order canonical k t p lt property) in
      let one : w ≡ One =
      assigned_in (unrolled raw order k) (inputs_in raw k a) refl (read_earlier raw circuit order canonical k) literals (literal_in a)
      low (ap kleene_not low) (λ j m u. inputs_are j m u) (λ m odd. value_below a m odd) (gates_met a kept gates) v
      (subst (λ m. reads literals kept (variable m) ≡ true) is (goal_read literals kept i l at)) ∙ ap (literal_in a) (sym is) ∙ one_l in (
        t,
        lt,
        (
          g,
          bad_at raw circuit order canonical k t p lt property,
          subst (λ (u : Tern). Value (unrolled raw order k) [] (inputs_in raw k a ∷ []) 0 g u) one v,
        ),
      )

  pub names_run : (p : ℕ) → p < length raw.bad → SatisfiesInPart a (formula_of raw order (within k p)).clauses → NamesRun raw k p a
  names_run p property h =
      let (t, lt, bad) = reaches p property h in
      reaches_of raw k t p a (inputs_in raw k a) lt property refl
      ((confirms_row raw circuit order canonical k (inputs_in raw k a) wide t p lt property).0 bad)

-- ---- fillings

module _ (a : List Tern) (whole : ℕ → Bool) (filling : IsFilling a whole) where
  of_one : (b : Bool) → tern_of b ≡ One → b ≡ true
  of_one true e = refl
  of_one false e = cc

  of_zero : (b : Bool) → tern_of b ≡ Zero → b ≡ false
  of_zero true e = cc
  of_zero false e = refl

  not_one : (w : Tern) → kleene_not w ≡ One → w ≡ Zero
  not_one Zero e = refl
  not_one One e = cc
  not_one X e = cc

  -- a literal that is 1 is true
  true_of_one : (l : ℕ) → literal_in a l ≡ One → is_true whole l ≡ true
  true_of_one l one = elim (signs l) [
    | inl even ↦
        let is : value_in a (variable l) ≡ One = sym (value_even a l even) ∙ one in
        let same = filling (variable l) (λ x. let no : X ≡ One = sym x ∙ is in let nothing : ⊥ = cc in nothing) in
        true_even whole l even ∙ of_one (whole (variable l)) (sym same ∙ is)
    | inr odd ↦
        let is : value_in a (variable l) ≡ Zero = not_one (value_in a (variable l)) (sym (value_odd a l odd) ∙ one) in
        let same = filling (variable l) (λ x. let no : X ≡ Zero = sym x ∙ is in let nothing : ⊥ = cc in nothing) in
        true_odd whole l odd ∙ ap not (of_zero (whole (variable l)) (sym same ∙ is))
  ]

  clause_filled : (ls : List ℕ) → has_one a ls ≡ true → meets whole ls ≡ true
  clause_filled [] e = cc
  clause_filled (l ∷ ls) e = go (is_one (literal_in a l)) refl e (clause_filled ls)
    where
      first : (b : Bool) → b ≡ true → (b || meets whole ls) ≡ true
      first true e = refl
      first false e = cc

      second : (b : Bool) → meets whole ls ≡ true → (b || meets whole ls) ≡ true
      second true e = refl
      second false e = e

      go : (b : Bool) → is_one (literal_in a l) ≡ b → (b || has_one a ls) ≡ true → (has_one a ls ≡ true → meets whole ls ≡ true)
          → meets whole (l ∷ ls) ≡ true
      go true is e later = first (is_true whole l) (true_of_one l (one_is (literal_in a l) is))
      go false is e later = second (is_true whole l) (later e)

  pub fills : (clauses : List (List ℕ)) → SatisfiesInPart a clauses → Satisfies whole clauses
  fills [] h = refl
  fills (c ∷ cs) h =
      let (first, later) = and_parts (has_one a c) (list_all (has_one a) cs) h in
      both_and (clause_filled c first) (fills cs later)
