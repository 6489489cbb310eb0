-- The renumbered parts by the table are those by the roles, and they are formed.
use Rattle.std.proofs.Common.{◌≡◌, inl, inr, ℕ, suc, ◌+◌, ◌*◌, ◌<◌, ◌≤◌, ◌==◌, List, [], ◌∷◌, ◌++◌, length, map}
use Rattle.std.proofs.Common.{get_or, sum_by, All, Option, Some, None, slice_get, option_map, refl, sym, ◌∙◌, ap, ap₂}
use Rattle.std.proofs.Common.{arith}
use Rattle.std.proofs.lemmas.List.{length-map, get_or_default}
use Rattle.std.proofs.lemmas.List.Sums.{sum_by-cons}
use Rattle.std.proofs.lemmas.List.Elements.{All-cons, All-head, All-tail, All-weaker, All-nil, All-contains}
use Rattle.std.proofs.lemmas.Option.{slice_get-map, slice_get-get_or}
use Rattle.aig_parts.specs.declared.gate.Gate.{Gate}
use Rattle.aig_parts.specs.declared.latch.Latch.{Latch}
use Rattle.aig_parts.specs.declared.raw.Raw.{Raw}
use Rattle.aig_parts.specs.declared.symbols.Kind.{Kind}
use Rattle.aig_parts.specs.declared.symbols.Kind.TheVariants as kind
use Rattle.aig_parts.specs.Formed.{section_length, IsSymbolOf, IsFormed}
use Rattle.aig_parts.specs.Literal.{variable, with_sign}
use Rattle.aig_base.specs.Order.{IsCanonicalOrder}
use Rattle.aig_base.specs.Renumbered.{gate_of, ordered_gates, renumbered, renumbered_gate, renumbered_latch}
use Rattle.aig_base.specs.Renumbered.{renumbered_literal, renumbered_variable, role_variable}
use Rattle.aig_base.specs.RenumberingTable.{IsRenumbering, IsInTable, IsLatchListed, IsGateListed, HasAllEntries}
use Rattle.aig_base.specs.RenumberingTable.{literal_by}
use Rattle.aig_base.specs.RenumberingTable.{latch_by, gate_by, renumbered_by}
use Rattle.aig_base.specs.Role.{place_of, first_role}
use Rattle.aig_base.specs.Sections.{definitions, uses}
use Rattle.aig_base.specs.Sound.{IsSound, IsInRange, IsReset}
use Rattle.aig_base.proofs.lists.Counting.{length-order, sections_fit}
use Rattle.aig_base.proofs.circuits.EachUse.{each_use}
use Rattle.aig_base.proofs.lists.Joined.{All-left, All-right, All-unmap}
use Rattle.aig_base.proofs.lists.Positions.{Contains-from_slice_get}
use Rattle.aig_base.proofs.renumbered.Renumberings.{gate_at, gate_found, gate_stands}
use Rattle.aig_base.proofs.circuits.Roles.{place_within}

pub map_same : {A B : Type 0} (f g : A → B) (xs : List A) → All (λ x. f x ≡ g x) xs → map f xs ≡ map g xs
map_same f g [] h = refl
map_same f g (x ∷ xs) h = ap₂ (λ y ys. y ∷ ys) (All-head (λ x. f x ≡ g x) x xs h)
    (map_same f g xs (All-tail (λ x. f x ≡ g x) x xs h))

-- a place that is found is within the list

-- the new variables are within the number of definitions
pub variable_bound : (raw : Raw) (order : List ℕ) (v : ℕ)
    → renumbered_variable raw order v ≤ length raw.inputs + length raw.latches + length order
unfolding renumbered_variable
variable_bound raw order v =
    go (place_of (λ u. u == v) (map variable raw.inputs)) (place_of (λ u. u == v) order)
    (place_of (λ u. u == v) (map (λ x. variable x.lit) raw.latches))
    (λ i h. let k = place_within (λ u. u == v) (map variable raw.inputs) i h in
    omega (arith, length-map raw.inputs variable))
    (λ i h. place_within (λ u. u == v) order i h)
    (λ i h. let k = place_within (λ u. u == v) (map (λ (x : Latch). variable x.lit) raw.latches) i h in
    omega (arith, length-map raw.latches (λ x. variable x.lit)))
  where
    go : (a b d : Option ℕ) → ((i : ℕ) → a ≡ Some i → i < length raw.inputs) → ((i : ℕ) → b ≡ Some i → i < length order)
        → ((i : ℕ) → d ≡ Some i → i < length raw.latches)
        → role_variable raw (first_role a b d) ≤ length raw.inputs + length raw.latches + length order
    go (Some i) b d p q r = let k = p i refl in omega arith
    go None (Some i) d p q r = let k = q i refl in omega arith
    go None None (Some i) p q r = let k = r i refl in omega arith
    go None None None p q r = omega arith

-- each gate of the order, with its neighbours
ordered_is : (raw : Raw) (order : List ℕ)
    → ((i : ℕ) → i < length order → (g : Gate) × (gate_of raw (get_or order i 0) ≡ Some g))
    → map Some (ordered_gates raw order) ≡ map (gate_of raw) order
ordered_is raw [] h = refl
ordered_is raw (v ∷ vs) h =
    let (g, e) = h 0 (omega arith) in
    let later = ordered_is raw vs (λ i lt. h (suc i) (omega arith)) in
    rw e (ap (λ gs. Some g ∷ gs) later)

module _ (raw : Raw) (sound : IsSound raw) (order : List ℕ) (canonical : IsCanonicalOrder raw order) where
  found : (i : ℕ) → i < length order → (g : Gate) × (gate_of raw (get_or order i 0) ≡ Some g)
  found i lt = let (g, q, at, is) = gate_at raw sound order canonical i lt in
      (g, gate_found raw sound (get_or order i 0) q g at is)

  pub length-ordered : length (ordered_gates raw order) ≡ length raw.gates
  length-ordered =
      sym (length-map (ordered_gates raw order) Some) ∙ ap length (ordered_is raw order found)
      ∙ length-map order (gate_of raw)
      ∙ length-order raw sound order canonical

  -- the gate at a place of the order
  pub ordered_at : (i : ℕ) → i < length order
      → (g : Gate) × (q : ℕ) × (slice_get raw.gates q ≡ Some g) × (variable g.lhs ≡ get_or order i 0)
      × (slice_get (ordered_gates raw order) i ≡ Some g)
  ordered_at i lt =
      let (g, q, at, is) = gate_at raw sound order canonical i lt in
      let e : option_map Some (slice_get (ordered_gates raw order) i) ≡ Some (Some g) =
      sym (slice_get-map Some (ordered_gates raw order) i) ∙ ap (λ gs. slice_get gs i) (ordered_is raw order found)
      ∙ slice_get-map (gate_of raw) order i ∙ ap (option_map (gate_of raw)) (slice_get-get_or order i 0 lt)
      ∙ ap Some (gate_found raw sound (get_or order i 0) q g at is) in
      (g, q, at, is, unsome (slice_get (ordered_gates raw order) i) g e)
    where
      unsome : (o : Option Gate) (g : Gate) → option_map Some o ≡ Some (Some g) → o ≡ Some g
      unsome None g h = cc
      unsome (Some h) g e = cc

  -- the renumbered parts are formed
  pub renumbered_formed : IsFormed raw → IsFormed (renumbered raw order)
  renumbered_formed formed = record {
    counts = record {
      max_var = omega (arith, sections_fit raw sound, formed.counts.max_var);
      inputs = rw (length-map raw.inputs (renumbered_literal raw order)) formed.counts.inputs;
      latches = rw (length-map raw.latches (renumbered_latch raw order)) formed.counts.latches;
      outputs = rw (length-map raw.outputs (renumbered_literal raw order)) formed.counts.outputs;
      bad = rw (length-map raw.bad (renumbered_literal raw order)) formed.counts.bad;
      constraints = rw (length-map raw.constraints (renumbered_literal raw order)) formed.counts.constraints;
      justice = rw (length-map raw.justice (map (renumbered_literal raw order))) formed.counts.justice;
      fairness = rw (length-map raw.fairness (renumbered_literal raw order)) formed.counts.fairness;
      gates = rw (length-map (ordered_gates raw order) (renumbered_gate raw order), length-ordered) formed.counts.gates;
      justice_literals = rw (sums raw.justice) formed.counts.justice_literals;
    };
    symbols = All-weaker (IsSymbolOf raw) (IsSymbolOf (renumbered raw order))
        (λ e h. (rw (lengths e.0.0) h.0, h.1)) raw.symbols formed.symbols;
    names = formed.names;
  }
    where
      sums : (xs : List (List ℕ)) → sum_by length (map (map (renumbered_literal raw order)) xs) ≡ sum_by length xs
      sums [] = refl
      sums (x ∷ xs) =
          sum_by-cons length (map (renumbered_literal raw order) x) (map (map (renumbered_literal raw order)) xs)
          ∙ ap₂ (λ (a b : ℕ). a + b) (length-map x (renumbered_literal raw order)) (sums xs)
          ∙ sym (sum_by-cons length x xs)

      lengths : (k : Kind) → section_length (renumbered raw order) k ≡ section_length raw k
      lengths kind.Input = length-map raw.inputs (renumbered_literal raw order)
      lengths kind.Latch = length-map raw.latches (renumbered_latch raw order)
      lengths kind.Output = length-map raw.outputs (renumbered_literal raw order)
      lengths kind.Bad = length-map raw.bad (renumbered_literal raw order)
      lengths kind.Constraint = length-map raw.constraints (renumbered_literal raw order)
      lengths kind.Justice = length-map raw.justice (map (renumbered_literal raw order))
      lengths kind.Fairness = length-map raw.fairness (renumbered_literal raw order)

-- by the table or by the roles
literal_same : (raw : Raw) (order table : List ℕ) → IsRenumbering raw order table → (l : ℕ) → IsInTable table l
    → literal_by table l ≡ renumbered_literal raw order l
unfolding literal_by renumbered_literal
literal_same raw order table so l lt = ap (λ v. with_sign l (2 * v)) (so.each (variable l) lt)

module _ (raw : Raw) (order table : List ℕ) (so : IsRenumbering raw order table) where
  literals_same : (ls : List ℕ) → All (IsInTable table) ls
      → map (literal_by table) ls ≡ map (renumbered_literal raw order) ls
  literals_same ls h = map_same (literal_by table) (renumbered_literal raw order) ls
      (All-weaker (IsInTable table) (λ l. literal_by table l ≡ renumbered_literal raw order l)
      (literal_same raw order table so) ls h)

  latch_same : (x : Latch) → IsLatchListed table x → latch_by table x ≡ renumbered_latch raw order x
  latch_same x (a, b, d) =
      let e0 = literal_same raw order table so x.lit a in
      let e1 = literal_same raw order table so x.next b in
      let e2 = literal_same raw order table so x.reset d in
      rw (e0, e1, e2) refl

  gate_same : (g : Gate) → IsGateListed table g → gate_by table g ≡ renumbered_gate raw order g
  gate_same g (a, b, d) =
      let e0 = literal_same raw order table so g.lhs a in
      let e1 = literal_same raw order table so g.rhs0 b in
      let e2 = literal_same raw order table so g.rhs1 d in
      rw (e0, e1, e2) refl

  ordered_listed : All (IsGateListed table) raw.gates → (vs : List ℕ) → All (IsGateListed table) (ordered_gates raw vs)
  ordered_listed h [] = All-nil (IsGateListed table)
  ordered_listed h (v ∷ vs) = go (gate_of raw v) refl (ordered_listed h vs)
    where
      go : (o : Option Gate) → gate_of raw v ≡ o → All (IsGateListed table) (ordered_gates raw vs)
          → All (IsGateListed table) (ordered_gates raw (v ∷ vs))
      go None e later = rw e later
      go (Some g) e later =
          let (q, at, is) = gate_stands raw v g e in
          let here = All-contains (IsGateListed table) raw.gates g h (Contains-from_slice_get raw.gates q g at) in
          rw e (All-cons (IsGateListed table) g (ordered_gates raw vs) here later)

  -- the renumbered parts by the table
  pub renumbered_same : HasAllEntries raw table → renumbered_by raw order table ≡ renumbered raw order
  renumbered_same h =
      let inputs = literals_same raw.inputs h.inputs in
      let latches : map (latch_by table) raw.latches ≡ map (renumbered_latch raw order) raw.latches =
      map_same (latch_by table) (renumbered_latch raw order) raw.latches
      (All-weaker (IsLatchListed table) (λ x. latch_by table x ≡ renumbered_latch raw order x) latch_same
      raw.latches h.latches) in
      let outputs = literals_same raw.outputs h.outputs in
      let bad = literals_same raw.bad h.bad in
      let constraints = literals_same raw.constraints h.constraints in
      let justice : map (map (literal_by table)) raw.justice ≡ map (map (renumbered_literal raw order)) raw.justice =
      map_same (map (literal_by table)) (map (renumbered_literal raw order)) raw.justice
      (All-weaker (All (IsInTable table)) (λ p. map (literal_by table) p ≡ map (renumbered_literal raw order) p)
      literals_same raw.justice h.justice) in
      let fairness = literals_same raw.fairness h.fairness in
      let gates : map (gate_by table) (ordered_gates raw order)
      ≡ map (renumbered_gate raw order) (ordered_gates raw order) =
      map_same (gate_by table) (renumbered_gate raw order) (ordered_gates raw order)
      (All-weaker (IsGateListed table) (λ g. gate_by table g ≡ renumbered_gate raw order g) gate_same
      (ordered_gates raw order) (ordered_listed h.gates order)) in
      cc

-- the table has each literal of the circuit
pub all_listed : (raw : Raw) → IsFormed raw → IsSound raw → (order table : List ℕ) → IsCanonicalOrder raw order
    → IsRenumbering raw order table
    → HasAllEntries raw table
all_listed raw formed sound order table canonical so =
    let all : (ls : List ℕ) → All (IsInRange raw) ls
    → All (IsInTable table) ls = All-weaker (IsInRange raw) (IsInTable table) listed in
    let definitions_in = All-left (IsInRange raw) (definitions raw) (uses raw) sound.in_range in
    let used = each_use (IsInRange raw) raw (All-right (IsInRange raw) (definitions raw) (uses raw) sound.in_range) in
    let sources = All-left (IsInRange raw) (raw.inputs ++ map (λ x. x.lit) raw.latches) (map (λ g. g.lhs) raw.gates)
    definitions_in in
    let latches = All-unmap (IsInRange raw) (λ (x : Latch). x.lit) raw.latches
    (All-right (IsInRange raw) raw.inputs (map (λ x. x.lit) raw.latches) sources) in
    let lefts = All-unmap (IsInRange raw) (λ (g : Gate). g.lhs) raw.gates
    (All-right (IsInRange raw) (raw.inputs ++ map (λ x. x.lit) raw.latches) (map (λ g. g.lhs) raw.gates)
    definitions_in) in
    record {
      entries = λ k d lt.
          let e = so.each k lt in
          let f = get_or_default table k d 0 lt in
          let b = variable_bound raw order k in
          omega (arith, e, f, b, length-order raw sound order canonical, sections_fit raw sound, formed.counts.max_var);
      inputs = all raw.inputs (All-left (IsInRange raw) raw.inputs (map (λ x. x.lit) raw.latches) sources);
      latches = λ k d lt.
          let x = get_or raw.latches k d in
          let own = listed x.lit (latches k d lt) in
          (own, listed x.next (used.nexts k d lt), reset_listed x (sound.resets k d lt) own);
      outputs = all raw.outputs used.outputs;
      bad = all raw.bad used.bad;
      constraints = all raw.constraints used.constraints;
      justice = All-weaker (All (IsInRange raw)) (All (IsInTable table)) all raw.justice used.justice;
      fairness = all raw.fairness used.fairness;
      gates = λ k d lt.
          let g = get_or raw.gates k d in
          let sides = used.sides k d lt in
          (listed g.lhs (lefts k d lt), listed g.rhs0 sides.0, listed g.rhs1 sides.1);
    }
  where
    listed : (l : ℕ) → IsInRange raw l → IsInTable table l
    listed l r = omega (arith, so.size)

    reset_listed : (x : Latch) → IsReset x → IsInTable table x.lit → IsInTable table x.reset
    reset_listed x h own = elim h [
      | inl e ↦ omega (arith, so.size)
      | inr o ↦ elim o [ inl e ↦ omega (arith, so.size) | inr e ↦ omega (arith, so.size) ]
    ]
