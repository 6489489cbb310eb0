-- The examples of the definitions of `aig_base`.
use Rattle.std.proofs.Common.{zero, ◌≡◌, ◌≢◌, ◌⊎◌, inl, inr, ℕ, suc, ◌+◌, ◌*◌, ◌≤◌, ◌<◌, List, [], ◌∷◌, length, max}
use Rattle.std.proofs.Common.{Some, slice_get, Contains, refl, sym, ap, ap₂, subst, ◌∙◌, arith}
use Rattle.std.specs.Prelude.{All, codes, slice_index, slice_index_or}
use Rattle.std.proofs.lemmas.List.Elements.{All-cons, All-nil}
use Rattle.aig_parts.specs.declared.fault.Fault.{Fault}
use Rattle.aig_parts.specs.declared.fault.Fault.TheVariants as faults
use Rattle.aig_parts.specs.declared.gate.Gate.{Gate}
use Rattle.aig_parts.specs.declared.raw.Raw.{Raw}
use Rattle.aig_parts.specs.declared.symbols.Kind.TheVariants.{Bad}
use Rattle.aig_parts.specs.declared.ternary.Tern.{Tern}
use Rattle.aig_parts.specs.declared.ternary.Tern.TheVariants.{Zero, One, X}
use Rattle.aig_parts.specs.Formed.{IsFormed}
use Rattle.aig_parts.specs.Literal.{variable}
use Rattle.aig_parts.specs.Ternary.{kleene_and}
use Rattle.aig_base.specs.Changes.{with_appended_gate}
use Rattle.aig_base.specs.Circuit.{IsCircuit}
use Rattle.aig_base.specs.Completion.{IsCompletion}
use Rattle.aig_base.specs.Definition.{Defines}
use Rattle.aig_base.specs.FirstFault.{fault_order, FaultApplies, IsFirstFault, IsUngrounded}
use Rattle.aig_base.specs.Grounded as by
use Rattle.aig_base.specs.Grounded.{IsAcyclic, Level}
use Rattle.aig_base.specs.Greatest.{IsGreatestLevel, fan_out}
use Rattle.aig_base.specs.Levels.{AreLevels}
use Rattle.aig_base.specs.Order.{IsCanonicalOrder}
use Rattle.aig_base.specs.Readers.{IsSide, ReadsVariable}
use Rattle.aig_base.specs.Renumbered.{renumbered, renumbered_literal, renumbered_variable}
use Rattle.aig_base.specs.RenumberingTable.{IsRenumbering}
use Rattle.aig_base.specs.Role as roles
use Rattle.aig_base.specs.Role.{role}
use Rattle.aig_base.specs.Runs.{IsAllowed, ReachesBad, ReachesProperty}
use Rattle.aig_base.specs.Sections.{definitions, uses, IsDefined}
use Rattle.aig_base.specs.Selected.{places_from, selected}
use Rattle.aig_base.specs.Sound.{IsDefinition, IsInRange, IsSound, IsUndefined}
use Rattle.aig_base.specs.Value as value
use Rattle.aig_base.specs.Value.{Fits, Value}
use Rattle.aig_base.specs.declared.circuit.definition.Definition.TheVariants as definition
use Rattle.aig_base.specs.state.Rewires as fan
use Rattle.aig_base.specs.state.Rewires.{IsInFanOut}
use Rattle.aig_base.specs.declared.select.PropertySection.TheVariants as sections
use Rattle.aig_examples.proofs.TwoGates.{two_gates, canonical, level_of_three, level_of_four, row_11, eight_in_11}

-- one more gate of 9 and 2 is the gate `10 = 9 AND 2`
appended_gate : (with_appended_gate two_gates 9 2).gates
    ≡ record { lhs = 8; rhs0 = 6; rhs1 = 2 } ∷ record { lhs = 6; rhs0 = 2; rhs1 = 4 }
    ∷ record { lhs = 10; rhs0 = 9; rhs1 = 2 } ∷ []
appended_gate = refl

-- `x1` is completed by `01` and `11`
completions_of_x1 : IsCompletion [] ((X ∷ One ∷ []) ∷ []) [] ((Zero ∷ One ∷ []) ∷ [])
    × IsCompletion [] ((X ∷ One ∷ []) ∷ []) [] ((One ∷ One ∷ []) ∷ [])
completions_of_x1 = (
  (tt, (((zero_known, λ e. absurd (e refl)), ((one_known, λ e. refl), tt)), tt)),
  (tt, (((one_known, λ e. absurd (e refl)), ((one_known, λ e. refl), tt)), tt)),
)
  where
    zero_known : Zero ≢ X
    zero_known e = let no : ⊥ = cc in no

    one_known : One ≢ X
    one_known e = let no : ⊥ = cc in no

-- variable 4 is gate 0
definition_of_four : Defines two_gates 4 (definition.Gate 0)
definition_of_four = (record { lhs = 8; rhs0 = 6; rhs1 = 2 }, refl, refl)

-- the definitions are 2, 4, 8, 6, and the uses 8, 6, 2, 2, 4
sections_of_two_gates : (definitions two_gates ≡ 2 ∷ 4 ∷ 8 ∷ 6 ∷ []) × (uses two_gates ≡ 8 ∷ 6 ∷ 2 ∷ 2 ∷ 4 ∷ [])
sections_of_two_gates = (refl, refl)

-- variable 3 has level 1 and variable 4 level 2
levels_of_gates : Level two_gates 3 1 × Level two_gates 4 2
levels_of_gates = (level_of_three, level_of_four)

-- the list of the levels is 0, 0, 0, 1, 2
abbrev list_of_levels : List ℕ
list_of_levels = 0 ∷ 0 ∷ 0 ∷ 1 ∷ 2 ∷ []

of_sides : (g : Gate) (a b m n : ℕ) → slice_get list_of_levels (variable g.rhs0) ≡ Some m
    → slice_get list_of_levels (variable g.rhs1) ≡ Some n
    → slice_get list_of_levels (variable g.lhs) ≡ Some (max m n + 1)
    → slice_get list_of_levels (variable g.rhs0) ≡ Some a → slice_get list_of_levels (variable g.rhs1) ≡ Some b
    → slice_get list_of_levels (variable g.lhs) ≡ Some (max a b + 1)
of_sides g a b m n known0 known1 known e0 e1 =
    let f0 : Some m ≡ Some a = sym known0 ∙ e0 in
    let f1 : Some n ≡ Some b = sym known1 ∙ e1 in
    let g0 : m ≡ a = cc in
    let g1 : n ≡ b = cc in
    known ∙ ap₂ (λ (x y : ℕ). Some (max x y + 1)) g0 g1

only_level : (v n : ℕ) → Level two_gates v n → slice_get list_of_levels v ≡ Some n
only_level v n (by.Level.source u by.IsSource.constant) = refl
only_level v n (by.Level.source u (by.IsSource.input zero l is)) = cc
only_level v n (by.Level.source u (by.IsSource.input (suc zero) l is)) = cc
only_level v n (by.Level.source u (by.IsSource.input (suc (suc p)) l is)) = let no : ⊥ = cc in absurd no
only_level v n (by.Level.source u (by.IsSource.latch p x is)) = let no : ⊥ = cc in absurd no
only_level v n (by.Level.gate zero g a b is la lb) =
    let f : Some g ≡ Some (record { lhs = 8; rhs0 = 6; rhs1 = 2 }) = sym is in
    let h : g ≡ record { lhs = 8; rhs0 = 6; rhs1 = 2 } = cc in
    of_sides g a b 1 0 (ap (λ (k : Gate). slice_get list_of_levels (variable k.rhs0)) h)
    (ap (λ (k : Gate). slice_get list_of_levels (variable k.rhs1)) h)
    (ap (λ (k : Gate). slice_get list_of_levels (variable k.lhs)) h)
    (only_level (variable g.rhs0) a la) (only_level (variable g.rhs1) b lb)
only_level v n (by.Level.gate (suc zero) g a b is la lb) =
    let f : Some g ≡ Some (record { lhs = 6; rhs0 = 2; rhs1 = 4 }) = sym is in
    let h : g ≡ record { lhs = 6; rhs0 = 2; rhs1 = 4 } = cc in
    of_sides g a b 0 0 (ap (λ (k : Gate). slice_get list_of_levels (variable k.rhs0)) h)
    (ap (λ (k : Gate). slice_get list_of_levels (variable k.rhs1)) h)
    (ap (λ (k : Gate). slice_get list_of_levels (variable k.lhs)) h)
    (only_level (variable g.rhs0) a la) (only_level (variable g.rhs1) b lb)
only_level v n (by.Level.gate (suc (suc q)) g a b is la lb) = let no : ⊥ = cc in absurd no

levels : AreLevels two_gates list_of_levels
levels = record { size = refl; each = only_level }

-- the greatest level is 2, and variable 1 is read by 2 gates
greatest_level : IsGreatestLevel two_gates 2
greatest_level = record { reached = (4, level_of_four); bound = λ v m h. small v m (only_level v m h) }
  where
    small : (v m : ℕ) → slice_get list_of_levels v ≡ Some m → m ≤ 2
    small zero m e = let f : 0 ≡ m = cc in omega (arith, f)
    small (suc zero) m e = let f : 0 ≡ m = cc in omega (arith, f)
    small (suc (suc zero)) m e = let f : 0 ≡ m = cc in omega (arith, f)
    small (suc (suc (suc zero))) m e = let f : 1 ≡ m = cc in omega (arith, f)
    small (suc (suc (suc (suc zero)))) m e = let f : 2 ≡ m = cc in omega (arith, f)
    small (suc (suc (suc (suc (suc v))))) m e = let no : ⊥ = cc in absurd no

two_readers : fan_out two_gates 1 ≡ 2
two_readers = refl

-- the canonical order is 3, 4
order : IsCanonicalOrder two_gates (3 ∷ 4 ∷ [])
order = canonical

-- variable 1 is read by 4 and 3, variable 3 by 4; by no others
reads_of_three : ReadsVariable two_gates 4 3
reads_of_three = (0, record { lhs = 8; rhs0 = 6; rhs1 = 2 }, refl, refl, inl refl)

reads_of_one : ReadsVariable two_gates 4 1 × ReadsVariable two_gates 3 1
reads_of_one = (
  (0, record { lhs = 8; rhs0 = 6; rhs1 = 2 }, refl, refl, inr refl),
  (1, record { lhs = 6; rhs0 = 2; rhs1 = 4 }, refl, refl, inl refl),
)

no_other_of_one : (w : ℕ) → ReadsVariable two_gates w 1 → (w ≡ 4) ⊎ (w ≡ 3)
no_other_of_one w (zero, g, is, lhs, side) =
    let f : record { lhs = 8; rhs0 = 6; rhs1 = 2 } ≡ g = cc in
    inl (sym lhs ∙ ap (λ (k : Gate). variable k.lhs) (sym f))
no_other_of_one w (suc zero, g, is, lhs, side) =
    let f : record { lhs = 6; rhs0 = 2; rhs1 = 4 } ≡ g = cc in
    inr (sym lhs ∙ ap (λ (k : Gate). variable k.lhs) (sym f))
no_other_of_one w (suc (suc q), g, is, lhs, side) = let no : ⊥ = cc in absurd no

no_other_of_three : (w : ℕ) → ReadsVariable two_gates w 3 → w ≡ 4
no_other_of_three w (zero, g, is, lhs, side) =
    let f : record { lhs = 8; rhs0 = 6; rhs1 = 2 } ≡ g = cc in
    sym lhs ∙ ap (λ (k : Gate). variable k.lhs) (sym f)
no_other_of_three w (suc zero, g, is, lhs, side) =
    let f : record { lhs = 6; rhs0 = 2; rhs1 = 4 } ≡ g = cc in
    absurd (apart (subst (λ (k : Gate). IsSide k 3) (sym f) side))
  where
    apart : IsSide (record { lhs = 6; rhs0 = 2; rhs1 = 4 }) 3 → ⊥
    apart (inl e) = omega (arith, e)
    apart (inr e) = omega (arith, e)
no_other_of_three w (suc (suc q), g, is, lhs, side) = let no : ⊥ = cc in absurd no

-- renumbered, it has the gates `6 = 4 AND 2`, `8 = 6 AND 2`
renumbered_gates : (renumbered two_gates (3 ∷ 4 ∷ [])).gates
    ≡ record { lhs = 6; rhs0 = 4; rhs1 = 2 } ∷ record { lhs = 8; rhs0 = 6; rhs1 = 2 } ∷ []
unfolding renumbered_literal renumbered_variable
renumbered_gates = refl

-- the counterpart of literal 8 is 8 too, and with the row `11` both are 1
counterpart_of_eight : renumbered_literal two_gates (3 ∷ 4 ∷ []) 8 ≡ 8
unfolding renumbered_literal renumbered_variable
counterpart_of_eight = refl

values_of_eight : Value two_gates [] row_11 0 8 One × Value (renumbered two_gates (3 ∷ 4 ∷ [])) [] row_11 0 8 One
unfolding renumbered_literal renumbered_variable
values_of_eight =
    let a = value.Value.input 0 0 2 One (One ∷ One ∷ []) refl refl refl in
    let b = value.Value.input 0 1 4 One (One ∷ One ∷ []) refl refl refl in
    let six = value.Value.gate 0 0 (record { lhs = 6; rhs0 = 4; rhs1 = 2 }) One One refl b a in
    (eight_in_11, value.Value.gate 0 1 (record { lhs = 8; rhs0 = 6; rhs1 = 2 }) One One refl six a)

-- variable 4 is gate 1 of the canonical order
role_of_four : role two_gates (3 ∷ 4 ∷ []) 4 ≡ roles.gate 1
role_of_four = refl

-- the table is 0, 1, 2, 3, 4
table : IsRenumbering two_gates (3 ∷ 4 ∷ []) (0 ∷ 1 ∷ 2 ∷ 3 ∷ 4 ∷ [])
unfolding renumbered_variable
table = record { size = refl; each = is }
  where
    is : (v : ℕ) → v < 5 → slice_index (0 ∷ 1 ∷ 2 ∷ 3 ∷ 4 ∷ []) v ≡ renumbered_variable two_gates (3 ∷ 4 ∷ []) v
    is zero lt = refl
    is (suc zero) lt = refl
    is (suc (suc zero)) lt = refl
    is (suc (suc (suc zero))) lt = refl
    is (suc (suc (suc (suc zero)))) lt = refl
    is (suc (suc (suc (suc (suc v))))) lt = absurd (omega arith)

-- properties 8, 9, 0 with the names `b2 never`, `b0 both`; of positions 2, 0: properties 0, 8 with the names
-- `b0 never`, `b1 both`
abbrev three_properties : Raw
three_properties = record two_gates {
  bad = 8 ∷ 9 ∷ 0 ∷ [];
  symbols = ((Bad, 2), codes "never") ∷ ((Bad, 0), codes "both") ∷ [];
}

abbrev two_of_three : Raw
two_of_three = selected three_properties sections.Bad sections.Bad (2 ∷ 0 ∷ [])

selected_properties : (two_of_three.bad ≡ 0 ∷ 8 ∷ [])
    × (two_of_three.symbols ≡ ((Bad, 0), codes "never") ∷ ((Bad, 1), codes "both") ∷ [])
unfolding places_from
selected_properties = (refl, refl)

-- with the output 10 it is not sound: 10 is over 9, its greatest literal
output_over_greatest : (2 * two_gates.max_var + 1 ≡ 9) × (IsSound (record two_gates { outputs = 10 ∷ [] }) → ⊥)
output_over_greatest = (refl, λ sound. let h = sound.in_range 4 0 (omega arith) in omega (arith, h))

-- with the rows `11`, `01` literal 8 is 1 at frame 0 and 0 at frame 1
abbrev rows_11_01 : List (List Tern)
rows_11_01 = (One ∷ One ∷ []) ∷ (Zero ∷ One ∷ []) ∷ []

input_value : (rows : List (List Tern)) (t p l : ℕ) (w : Tern) (row : List Tern) → slice_get two_gates.inputs p ≡ Some l
    → slice_get rows t ≡ Some row → slice_get row p ≡ Some w → Value two_gates [] rows t l w
input_value rows t p l w row at is cell = value.Value.input t p l w row at is cell

six : (rows : List (List Tern)) (t : ℕ) (a b : Tern) → Value two_gates [] rows t 2 a → Value two_gates [] rows t 4 b
    → Value two_gates [] rows t 6 (kleene_and a b)
six rows t a b va vb = value.Value.gate t 1 (record { lhs = 6; rhs0 = 2; rhs1 = 4 }) a b refl va vb

eight : (rows : List (List Tern)) (t : ℕ) (a b : Tern) → Value two_gates [] rows t 6 a → Value two_gates [] rows t 2 b
    → Value two_gates [] rows t 8 (kleene_and a b)
eight rows t a b va vb = value.Value.gate t 0 (record { lhs = 8; rhs0 = 6; rhs1 = 2 }) a b refl va vb

eight_in_rows : Value two_gates [] rows_11_01 0 8 One × Value two_gates [] rows_11_01 1 8 Zero
eight_in_rows =
    let a = input_value rows_11_01 0 0 2 One (One ∷ One ∷ []) refl refl refl in
    let b = input_value rows_11_01 0 1 4 One (One ∷ One ∷ []) refl refl refl in
    let c = input_value rows_11_01 1 0 2 Zero (Zero ∷ One ∷ []) refl refl refl in
    let d = input_value rows_11_01 1 1 4 One (Zero ∷ One ∷ []) refl refl refl in (
      eight rows_11_01 0 One One (six rows_11_01 0 One One a b) a,
      eight rows_11_01 1 Zero Zero (six rows_11_01 1 Zero One c d) c,
    )

-- literal 8 is x under `x1`; literal 6 is 0 under `x0`, and stays 0 under `10`
abbrev one_row : Tern → Tern → List (List Tern)
one_row a b = (a ∷ b ∷ []) ∷ []

known_and_unknown : Value two_gates [] (one_row X One) 0 8 X × Value two_gates [] (one_row X Zero) 0 6 Zero
    × Value two_gates [] (one_row One Zero) 0 6 Zero
known_and_unknown = (eight (one_row X One) 0 X X (six_of X One) (first_of X One), six_of X Zero, six_of One Zero)
  where
    first_of : (a b : Tern) → Value two_gates [] (one_row a b) 0 2 a
    first_of a b = input_value (one_row a b) 0 0 2 a (a ∷ b ∷ []) refl refl refl

    six_of : (a b : Tern) → Value two_gates [] (one_row a b) 0 6 (kleene_and a b)
    six_of a b =
        six (one_row a b) 0 a b (first_of a b) (input_value (one_row a b) 0 1 4 b (a ∷ b ∷ []) refl refl refl)

-- input 2 is bad, input 4 a constraint: the rows `01`, `11` reach it at frame 1, `00`, `11` do not
abbrev constrained : Raw
constrained = record two_gates { outputs = []; bad = 2 ∷ []; constraints = 4 ∷ []; gates = []; max_var = 2 }

reached_at_one : ReachesProperty constrained [] ((Zero ∷ One ∷ []) ∷ (One ∷ One ∷ []) ∷ []) 1 0
reached_at_one = (fits, allowed, omega arith, (2, refl, (bad_there, kept)))
  where
    fits : Fits constrained [] ((Zero ∷ One ∷ []) ∷ (One ∷ One ∷ []) ∷ [])
    fits = record {
      latches = refl;
      inputs = All-cons (λ (row : List Tern). length row ≡ 2) (Zero ∷ One ∷ []) ((One ∷ One ∷ []) ∷ []) refl
          (All-cons (λ (row : List Tern). length row ≡ 2) (One ∷ One ∷ []) [] refl (All-nil _));
    }

    allowed : IsAllowed constrained []
    allowed p x w is at = let no : ⊥ = cc in absurd no

    bad_there : Value constrained [] ((Zero ∷ One ∷ []) ∷ (One ∷ One ∷ []) ∷ []) 1 2 One
    bad_there = value.Value.input 1 0 2 One (One ∷ One ∷ []) refl refl refl

    at : (s : ℕ) → s ≤ 1 → Value constrained [] ((Zero ∷ One ∷ []) ∷ (One ∷ One ∷ []) ∷ []) s 4 One
    at zero le = value.Value.input 0 1 4 One (Zero ∷ One ∷ []) refl refl refl
    at (suc zero) le = value.Value.input 1 1 4 One (One ∷ One ∷ []) refl refl refl
    at (suc (suc s)) le = absurd (omega (arith, le))

    kept : (s c : ℕ) → s ≤ 1 → Contains (4 ∷ []) c
        → Value constrained [] ((Zero ∷ One ∷ []) ∷ (One ∷ One ∷ []) ∷ []) s c One
    kept s c le (zero, lt, is) =
        subst (λ (l : ℕ). Value constrained [] ((Zero ∷ One ∷ []) ∷ (One ∷ One ∷ []) ∷ []) s l One) is (at s le)
    kept s c le (suc k, lt, is) = absurd (omega (arith, lt))

-- the value of literal 4 is the second one in the row
second_in_row : {rows : List (List Tern)} {t l : ℕ} {w : Tern} → Value constrained [] rows t l w → l ≡ 4
    → (row : List Tern) × (slice_get rows t ≡ Some row) × (slice_get row 1 ≡ Some w)
second_in_row (value.Value.constant_false t) e = absurd (omega (arith, e))
second_in_row (value.Value.constant_true t) e = absurd (omega (arith, e))
second_in_row (value.Value.input t zero l w row at is cell) e =
    let f : Some 2 ≡ Some l = at in
    let g : 2 ≡ l = cc in absurd (omega (arith, g, e))
second_in_row (value.Value.input t (suc zero) l w row at is cell) e = (row, is, cell)
second_in_row (value.Value.input t (suc (suc p)) l w row at is cell) e = let no : ⊥ = cc in absurd no
second_in_row (value.Value.latch_first p x w at is) e = let no : ⊥ = cc in absurd no
second_in_row (value.Value.latch_next t p x w at v) e = let no : ⊥ = cc in absurd no
second_in_row (value.Value.gate t q g a b at va vb) e = let no : ⊥ = cc in absurd no
second_in_row (value.Value.negated t l w over neg v) e = absurd (omega (arith, neg, e))

not_reached : (t b : ℕ) → ReachesBad constrained [] ((Zero ∷ Zero ∷ []) ∷ (One ∷ One ∷ []) ∷ []) t b → ⊥
not_reached t b (bad, kept) =
    let (row, is, cell) = second_in_row (kept 0 4 (omega arith) (0, omega arith, refl)) refl in
    let f : Zero ∷ Zero ∷ [] ≡ row = cc in
    let g : Some Zero ≡ Some One = ap (λ (r : List Tern). slice_get r 1) f ∙ cell in
    let no : ⊥ = cc in no

-- the fan-out of variable 3 is 3 and 4
fan_out_of_three : IsInFanOut two_gates 3 3 × IsInFanOut two_gates 3 4
fan_out_of_three = (
  fan.IsInFanOut.self,
  fan.IsInFanOut.reader 0 (record { lhs = 8; rhs0 = 6; rhs1 = 2 }) 3 refl
      (inl refl) fan.IsInFanOut.self,
)

no_other_in_fan_out : (v : ℕ) → IsInFanOut two_gates 3 v → (v ≡ 3) ⊎ (v ≡ 4)
no_other_in_fan_out v fan.IsInFanOut.self = inl refl
no_other_in_fan_out v (fan.IsInFanOut.reader zero g u is side h) =
    let f : record { lhs = 8; rhs0 = 6; rhs1 = 2 } ≡ g = cc in inr (ap (λ (k : Gate). variable k.lhs) (sym f))
no_other_in_fan_out v (fan.IsInFanOut.reader (suc zero) g u is side h) =
    let f : record { lhs = 6; rhs0 = 2; rhs1 = 4 } ≡ g = cc in inl (ap (λ (k : Gate). variable k.lhs) (sym f))
no_other_in_fan_out v (fan.IsInFanOut.reader (suc (suc q)) g u is side h) = let no : ⊥ = cc in absurd no

-- `examples/two_gates.aag` is a circuit
is_formed : IsFormed two_gates
is_formed = record {
  counts = record {
    max_var = omega arith;
    inputs = omega arith;
    latches = omega arith;
    outputs = omega arith;
    bad = omega arith;
    constraints = omega arith;
    justice = omega arith;
    fairness = omega arith;
    gates = omega arith;
    justice_literals = omega arith;
  };
  symbols = All-nil _;
  names = λ i j d lt within. absurd (omega (arith, within));
}

-- where a variable is defined
abbrev place_of_variable : ℕ → ℕ
place_of_variable (suc zero) = 0
place_of_variable (suc (suc zero)) = 1
place_of_variable (suc (suc (suc zero))) = 3
place_of_variable v = 2

place_is : (i v : ℕ) → slice_get (1 ∷ 2 ∷ 4 ∷ 3 ∷ []) i ≡ Some v → place_of_variable v ≡ i
place_is zero v e = let f : 1 ≡ v = cc in ap place_of_variable (sym f)
place_is (suc zero) v e = let f : 2 ≡ v = cc in ap place_of_variable (sym f)
place_is (suc (suc zero)) v e = let f : 4 ≡ v = cc in ap place_of_variable (sym f)
place_is (suc (suc (suc zero))) v e = let f : 3 ≡ v = cc in ap place_of_variable (sym f)
place_is (suc (suc (suc (suc i)))) v e = let no : ⊥ = cc in absurd no

is_sound : IsSound two_gates
is_sound = record {
  in_range = range;
  definitions = even;
  once = λ v twice. apart v twice.0 twice.1 twice.2 twice.3 twice.4;
  defined = known;
  resets = All-nil _;
}
  where
    range : All (IsInRange two_gates) (2 ∷ 4 ∷ 8 ∷ 6 ∷ 8 ∷ 6 ∷ 2 ∷ 2 ∷ 4 ∷ [])
    range zero d lt = omega arith
    range (suc zero) d lt = omega arith
    range (suc (suc zero)) d lt = omega arith
    range (suc (suc (suc zero))) d lt = omega arith
    range (suc (suc (suc (suc zero)))) d lt = omega arith
    range (suc (suc (suc (suc (suc zero))))) d lt = omega arith
    range (suc (suc (suc (suc (suc (suc zero)))))) d lt = omega arith
    range (suc (suc (suc (suc (suc (suc (suc zero))))))) d lt = omega arith
    range (suc (suc (suc (suc (suc (suc (suc (suc zero)))))))) d lt = omega arith
    range (suc (suc (suc (suc (suc (suc (suc (suc (suc k))))))))) d lt = absurd (omega (arith, lt))

    even : All IsDefinition (2 ∷ 4 ∷ 8 ∷ 6 ∷ [])
    even zero d lt = (refl, omega arith)
    even (suc zero) d lt = (refl, omega arith)
    even (suc (suc zero)) d lt = (refl, omega arith)
    even (suc (suc (suc zero))) d lt = (refl, omega arith)
    even (suc (suc (suc (suc k)))) d lt = absurd (omega (arith, lt))

    apart : (v i j : ℕ) → i < j → slice_get (1 ∷ 2 ∷ 4 ∷ 3 ∷ []) i ≡ Some v
        → slice_get (1 ∷ 2 ∷ 4 ∷ 3 ∷ []) j ≡ Some v → ⊥
    apart v i j lt at_i at_j = let e = place_is i v at_i in let f = place_is j v at_j in omega (arith, lt, e, f)

    known : All (λ l. IsDefined two_gates (variable l)) (8 ∷ 6 ∷ 2 ∷ 2 ∷ 4 ∷ [])
    known zero d lt = (3, omega arith, refl)
    known (suc zero) d lt = (4, omega arith, refl)
    known (suc (suc zero)) d lt = (1, omega arith, refl)
    known (suc (suc (suc zero))) d lt = (1, omega arith, refl)
    known (suc (suc (suc (suc zero)))) d lt = (2, omega arith, refl)
    known (suc (suc (suc (suc (suc k))))) d lt = absurd (omega (arith, lt))

is_acyclic : IsAcyclic two_gates
is_acyclic v (zero, lt, is) = subst (by.Grounded two_gates) is four
  where
    one : by.Grounded two_gates 1
    one = by.Grounded.source 1 (by.IsSource.input 0 2 refl)

    three : by.Grounded two_gates 3
    three = by.Grounded.gate 1 (record { lhs = 6; rhs0 = 2; rhs1 = 4 }) refl one
        (by.Grounded.source 2 (by.IsSource.input 1 4 refl))

    four : by.Grounded two_gates 4
    four = by.Grounded.gate 0 (record { lhs = 8; rhs0 = 6; rhs1 = 2 }) refl three one
is_acyclic v (suc zero, lt, is) = subst (by.Grounded two_gates) is
    (by.Grounded.gate 1 (record { lhs = 6; rhs0 = 2; rhs1 = 4 })
    refl (by.Grounded.source 1 (by.IsSource.input 0 2 refl)) (by.Grounded.source 2 (by.IsSource.input 1 4 refl)))
is_acyclic v (suc (suc k), lt, is) = absurd (omega (arith, lt))

is_circuit : IsCircuit two_gates
is_circuit = record { formed = is_formed; sound = is_sound; acyclic = is_acyclic }

-- gates `4 = 6, 2` and `6 = 4, 2`: `Cycle(2)`
abbrev two_cycle : Raw
two_cycle = record two_gates {
  max_var = 3;
  inputs = 2 ∷ [];
  outputs = [];
  gates = record { lhs = 4; rhs0 = 6; rhs1 = 2 } ∷ record { lhs = 6; rhs0 = 4; rhs1 = 2 } ∷ [];
}

none_over_one : {v : ℕ} → by.Grounded two_cycle v → 1 < v → ⊥
none_over_one (by.Grounded.source v by.IsSource.constant) over = omega (arith, over)
none_over_one (by.Grounded.source v (by.IsSource.input zero l is)) over =
    let e : 2 ≡ l = cc in omega (arith, over, e)
none_over_one (by.Grounded.source v (by.IsSource.input (suc p) l is)) over = let no : ⊥ = cc in no
none_over_one (by.Grounded.source v (by.IsSource.latch p x is)) over = let no : ⊥ = cc in no
none_over_one (by.Grounded.gate zero g is h0 h1) over =
    let e : record { lhs = 4; rhs0 = 6; rhs1 = 2 } ≡ g = cc in
    none_over_one h0 (subst (λ (k : Gate). 1 < variable k.rhs0) e (omega arith))
none_over_one (by.Grounded.gate (suc zero) g is h0 h1) over =
    let e : record { lhs = 6; rhs0 = 4; rhs1 = 2 } ≡ g = cc in
    none_over_one h0 (subst (λ (k : Gate). 1 < variable k.rhs0) e (omega arith))
none_over_one (by.Grounded.gate (suc (suc q)) g is h0 h1) over = let no : ⊥ = cc in no

cycle_of_two : IsFirstFault two_cycle (faults.Cycle 2)
cycle_of_two = record {
  applies = (((0, omega arith, refl), λ h. none_over_one h (omega arith)), least);
  first = none;
}
  where
    least : (u : ℕ) → u < 2 → IsUngrounded two_cycle u → ⊥
    least u lt ((zero, within, is), never) = omega (arith, lt, is)
    least u lt ((suc zero, within, is), never) = omega (arith, lt, is)
    least u lt ((suc (suc k), within, is), never) = omega (arith, within)

    range : (k x : ℕ) → k < 7 → slice_index_or (2 ∷ 4 ∷ 6 ∷ 6 ∷ 2 ∷ 4 ∷ 2 ∷ []) k x ≡ x → 7 < x → ⊥
    range zero x lt is over = omega (arith, is, over)
    range (suc zero) x lt is over = omega (arith, is, over)
    range (suc (suc zero)) x lt is over = omega (arith, is, over)
    range (suc (suc (suc zero))) x lt is over = omega (arith, is, over)
    range (suc (suc (suc (suc zero)))) x lt is over = omega (arith, is, over)
    range (suc (suc (suc (suc (suc zero))))) x lt is over = omega (arith, is, over)
    range (suc (suc (suc (suc (suc (suc zero)))))) x lt is over = omega (arith, is, over)
    range (suc (suc (suc (suc (suc (suc (suc k))))))) x lt is over = omega (arith, lt)

    odd : (k x : ℕ) → k < 3 → slice_index_or (2 ∷ 4 ∷ 6 ∷ []) k x ≡ x → (IsDefinition x → ⊥) → ⊥
    odd zero x lt is bad = bad (subst IsDefinition is (refl, omega arith))
    odd (suc zero) x lt is bad = bad (subst IsDefinition is (refl, omega arith))
    odd (suc (suc zero)) x lt is bad = bad (subst IsDefinition is (refl, omega arith))
    odd (suc (suc (suc k))) x lt is bad = omega (arith, lt)

    place : (i v : ℕ) → slice_get (1 ∷ 2 ∷ 3 ∷ []) i ≡ Some v → i + 1 ≡ v
    place zero v e = cc
    place (suc zero) v e = cc
    place (suc (suc zero)) v e = cc
    place (suc (suc (suc i))) v e = let no : ⊥ = cc in absurd no

    twice : (v i j : ℕ) → i < j → slice_get (1 ∷ 2 ∷ 3 ∷ []) i ≡ Some v → slice_get (1 ∷ 2 ∷ 3 ∷ []) j ≡ Some v → ⊥
    twice v i j lt at_i at_j = let e = place i v at_i in let f = place j v at_j in omega (arith, lt, e, f)

    undefined : (v : ℕ) → IsUndefined two_cycle v → ⊥
    undefined v ((zero, lt, is), never) = never (3, omega arith, is)
    undefined v ((suc zero, lt, is), never) = never (1, omega arith, is)
    undefined v ((suc (suc zero), lt, is), never) = never (2, omega arith, is)
    undefined v ((suc (suc (suc zero)), lt, is), never) = never (1, omega arith, is)
    undefined v ((suc (suc (suc (suc k))), lt, is), never) = omega (arith, lt)

    none : (g : Fault) → fault_order g < 9 → FaultApplies two_cycle g → ⊥
    none (faults.Text at) lt h = h
    none faults.Limit lt h = h
    none faults.Counts lt h = h
    none faults.Range lt (k, x, within, is, over) = range k x within is over
    none faults.Definition lt (k, x, within, is, bad) = odd k x within is bad
    none (faults.Redefined v) lt ((i, j, before, at_i, at_j), h) = twice v i j before at_i at_j
    none (faults.Undefined v) lt (h, least_v) = undefined v h
    none (faults.Reset v) lt ((p, x, at, lit, bad), least_v) = let no : ⊥ = cc in no
    none (faults.Cycle v) lt h = omega (arith, lt)
    none faults.Memory lt h = h
    none faults.Io lt h = h
