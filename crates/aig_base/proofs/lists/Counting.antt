-- How many entries lists without repetition have.
use Rattle.std.proofs.Common.{◌≡◌, ℕ, ◌+◌, ◌-◌, ◌<◌, ◌≤◌, List, [], ◌∷◌, ◌++◌, inl, inr, suc, length, map, get_or, eqb}
use Rattle.std.proofs.Common.{Some, slice_get, All, Contains, refl, sym, ap, ◌∙◌, arith, subst, length-append}
use Rattle.std.specs.List.{IsDistinct, range_with_len}
use Rattle.std.specs.Set.{is_member}
use Rattle.std.proofs.lemmas.Bool.{cases_Bool, cases_eq, false≢true, ne_eqb}
use Rattle.std.proofs.lemmas.Bool.Decides.{Decides-eqb}
use Rattle.std.proofs.lemmas.Map.Made.{is_member-Decides, length-le_from_is_member}
use Rattle.std.proofs.lemmas.Map.Keys.{IsDistinct-from_apart}
use Rattle.std.proofs.lemmas.List.{length-map, length_push}
use Rattle.std.proofs.lemmas.List.Elements.{All-contains, Contains-push_cases}
use Rattle.std.proofs.lemmas.List.FromFn.{length-range_with_len, get_or-range_with_len}
use Rattle.std.proofs.lemmas.Option.{slice_get-get_or, slice_get-map, slice_get_within, get_or_from_slice_get}
use Rattle.aig_parts.specs.declared.gate.Gate.{Gate}
use Rattle.aig_parts.specs.declared.raw.Raw.{Raw}
use Rattle.aig_parts.specs.Literal.{variable}
use Rattle.aig_base.specs.Grounded.{Level}
use Rattle.aig_base.specs.Order.{IsCanonicalOrder}
use Rattle.aig_base.specs.Sections.{definitions, uses, IsDefined}
use Rattle.aig_base.specs.Sound.{IsSound, IsInRange, IsDefinition, IsRedefined, StandsTwice}
use Rattle.aig_base.proofs.lists.Gets.{slice_get_push}
use Rattle.aig_base.proofs.lists.Joined.{All-left}
use Rattle.aig_base.proofs.levels.OneLevel.{same_level}
use Rattle.aig_base.proofs.circuits.Places.{gate}
use Rattle.aig_base.proofs.lists.Positions.{unmap, unmap_option, Contains-from_slice_get}
use Rattle.aig_base.proofs.circuits.Roles.{one_place}
use Rattle.aig_parts.proofs.SymbolKeys.{equivalence_from_same}

pub distinct : (xs : List ℕ) → ((x : ℕ) → StandsTwice xs x → ⊥) → IsDistinct eqb xs
distinct xs never = IsDistinct-from_apart eqb xs (λ i j d lt below.
    ne_eqb (get_or xs i d) (get_or xs j d) (λ e.
    never (get_or xs j d) (i, j, lt, slice_get-get_or xs i d (omega arith) ∙ ap Some e, slice_get-get_or xs j d below)))

-- a list without repetition is no longer than one that has its elements
pub length_le : (xs ys : List ℕ) → ((x : ℕ) → StandsTwice xs x → ⊥) → ((x : ℕ) → Contains xs x → Contains ys x)
    → length xs ≤ length ys
length_le xs ys never inside =
    length-le_from_is_member (equivalence_from_same Decides-eqb) xs ys (distinct xs never)
    (λ q m. (is_member-Decides Decides-eqb ys q).1 (inside q ((is_member-Decides Decides-eqb xs q).0 m)))

-- one more element stands once, where it is not there
push_once : (xs : List ℕ) → ((x : ℕ) → StandsTwice xs x → ⊥) → (v : ℕ) → (Contains xs v → ⊥) → (x : ℕ)
    → StandsTwice (xs ++ v ∷ []) x → ⊥
push_once xs once v free x (i, j, lt, at, here) = elim (slice_get_push xs v x j here) [
  | inl here_j ↦
      let inside_j = slice_get_within xs j x here_j in
      elim (slice_get_push xs v x i at) [ inl at_i ↦ once x (i, j, lt, at_i, here_j) | inr e ↦ omega (arith, e.0) ]
  | inr e ↦ elim (slice_get_push xs v x i at) [
    | inl at_i ↦ free (subst (Contains xs) (sym e.1) (Contains-from_slice_get xs i x at_i))
    | inr f ↦ omega (arith, e.0, f.0)
  ]
]

-- no variable stands twice in a canonical order
pub order_once : (raw : Raw) → IsSound raw → (order : List ℕ) → IsCanonicalOrder raw order → (v : ℕ)
    → StandsTwice order v → ⊥
order_once raw sound order canonical v (i, j, lt, at, here) =
    let (m, n, lu, lv, before) = canonical.ordered i j v lt (slice_get_within order j v here) in
    let e : get_or order i v ≡ v = get_or_from_slice_get order i v v at in
    let f : get_or order j v ≡ v = get_or_from_slice_get order j v v here in
    let same : m ≡ n = same_level sound (subst (λ u. Level raw u m) e lu) (subst (λ u. Level raw u n) f lv) in
    omega arith

-- two gates have two variables
pub gates_once : (raw : Raw) → IsSound raw → (v : ℕ) → StandsTwice (map (λ g. variable g.lhs) raw.gates) v → ⊥
gates_once raw sound v (i, j, lt, at, here) =
    let lhs : Gate → ℕ = λ g. variable g.lhs in
    let (g, is, e) = unmap_option lhs (slice_get raw.gates i) v (sym (slice_get-map lhs raw.gates i) ∙ at) in
    let (h, stands, f) = unmap_option lhs (slice_get raw.gates j) v (sym (slice_get-map lhs raw.gates j) ∙ here) in
    let same : gate i ≡ gate j = one_place raw sound (gate i) (gate j) g.lhs h.lhs tt tt (g, is, refl)
    (h, stands, refl) (e ∙ sym f) in
    let k : i ≡ j = cc in
    omega arith

-- a canonical order has an entry for each gate
pub length-order : (raw : Raw) → IsSound raw → (order : List ℕ) → IsCanonicalOrder raw order
    → length order ≡ length raw.gates
length-order raw sound order canonical =
    let vs : List ℕ = map (λ g. variable g.lhs) raw.gates in
    let a = length_le order vs (order_once raw sound order canonical) (λ v. (canonical.gates v).0) in
    let b = length_le vs order (gates_once raw sound) (λ v. (canonical.gates v).1) in
    let e = length-map raw.gates (λ g. variable g.lhs) in
    omega arith

module _ (raw : Raw) (defs : All IsDefinition (definitions raw)) (range : All (IsInRange raw) (definitions raw)) where
  vars : List ℕ
  vars = map variable (definitions raw)

  bounds : (l : ℕ) → IsDefinition l → IsInRange raw l → (0 < variable l) × (variable l ≤ raw.max_var)
  bounds l d r = (omega arith, omega arith)

  within : (v : ℕ) → (0 < v) × (v ≤ raw.max_var) → Contains (range_with_len 1 raw.max_var) v
  within v (over, le) =
      let lt : v - 1 < raw.max_var = omega arith in (
        v - 1,
        omega (arith, length-range_with_len 1 raw.max_var),
        get_or-range_with_len 1 raw.max_var (v - 1) v lt
            ∙ omega arith,
      )

  inside : (v : ℕ) → Contains vars v → Contains (range_with_len 1 raw.max_var) v
  unfolding vars
  inside v h =
      let (l, i, at, is) = unmap variable (definitions raw) v h in
      let c = Contains-from_slice_get (definitions raw) i l at in
      let d = All-contains IsDefinition (definitions raw) l defs c in
      let r = All-contains (IsInRange raw) (definitions raw) l range c in
      within v (subst (λ u. (0 < u) × (u ≤ raw.max_var)) is (bounds l d r))

  many : length vars ≡ length raw.inputs + length raw.latches + length raw.gates
  unfolding vars
  many =
      let xs = raw.inputs in
      let ys : List ℕ = map (λ x. x.lit) raw.latches in
      omega (
        arith,
        length-map (definitions raw) variable,
        length-append (xs ++ ys) (map (λ g. g.lhs) raw.gates),
        length-append xs ys,
        length-map raw.latches (λ x. x.lit),
        length-map raw.gates (λ g. g.lhs),
      )

  pub definitions_fit : ((v : ℕ) → IsRedefined raw v → ⊥)
      → length raw.inputs + length raw.latches + length raw.gates ≤ raw.max_var
  unfolding vars
  definitions_fit once =
      let a = length_le vars (range_with_len 1 raw.max_var) once inside in
      omega (arith, length-range_with_len 1 raw.max_var, many)

  -- where as many variables are defined as there are, each is
  pub all_defined : ((v : ℕ) → IsRedefined raw v → ⊥)
      → length raw.inputs + length raw.latches + length raw.gates ≡ raw.max_var
      → (v : ℕ) → v ≤ raw.max_var → IsDefined raw v
  unfolding vars
  all_defined once full v le = elim (cases_eq v 0) [
    | inl e ↦ (0, omega arith, sym e)
    | inr over ↦ elim (cases_Bool (is_member eqb vars v)) [
      | inl has ↦ let (k, lt, is) = (is_member-Decides Decides-eqb vars v).0 has in (suc k, omega arith, is)
      | inr has_not ↦
          let free : Contains vars v → ⊥ =
          λ h. false≢true (sym has_not ∙ (is_member-Decides Decides-eqb vars v).1 h) in
          let one_more : (x : ℕ) → Contains (vars ++ v ∷ []) x → Contains (range_with_len 1 raw.max_var) x =
          λ x h. elim (Contains-push_cases vars v x h) [
            | inl was ↦ inside x was
            | inr e ↦ subst (Contains (range_with_len 1 raw.max_var)) e (within v (omega arith, le))
          ] in
          let a = length_le (vars ++ v ∷ []) (range_with_len 1 raw.max_var) (push_once vars once v free) one_more in
          absurd (omega (arith, length_push vars v, length-range_with_len 1 raw.max_var, many))
    ]
  ]

-- a circuit defines no more variables than there are
pub sections_fit : (raw : Raw) → IsSound raw → length raw.inputs + length raw.latches + length raw.gates ≤ raw.max_var
sections_fit raw sound =
    definitions_fit raw sound.definitions (All-left (IsInRange raw) (definitions raw)
    (uses raw) sound.in_range) sound.once
