-- A circuit without latches, and values that make each gate of a cone an AND.
use Rattle.std.proofs.Common.{◌≡◌, ◌≢◌, ℕ, zero, suc, ◌-◌, ◌<◌, ◌≤◌, Bool, true, false, ◌||◌}
use Rattle.std.proofs.Common.{if◌then◌else◌, List, [], ◌∷◌, flat_map, Some, slice_get, refl, sym, ◌∙◌, ap, ap₂, subst, arith}
use Rattle.std.specs.Prelude.{◌==◌}
use Rattle.std.specs.List.{list_any}
use Rattle.std.proofs.lemmas.Bool.{eq-eqb, ne_eqb, or_left, or_right}
use Rattle.std.proofs.lemmas.List.Folds.{list_any_at}
use Rattle.std.proofs.lemmas.Option.{get_or_from_slice_get, slice_get_within}
use Rattle.aig_parts.specs.Literal.{variable, IsNegated}
use Rattle.aig_parts.specs.Ternary.{kleene_and, kleene_not}
use Rattle.aig_parts.specs.declared.gate.Gate.{Gate}
use Rattle.aig_parts.specs.declared.raw.Raw.{Raw}
use Rattle.aig_parts.specs.declared.ternary.Tern.{Tern}
use Rattle.aig_parts.specs.declared.ternary.Tern.TheVariants.{Zero, One}
use Rattle.aig_base.specs.Circuit.{IsCircuit}
use Rattle.aig_base.specs.Order.{IsCanonicalOrder}
use Rattle.aig_base.specs.Value as value
use Rattle.aig_base.specs.Value.{Value}
use Rattle.aig_base.proofs.circuits.InOrder.{gate_number}
use Rattle.aig_base.proofs.lists.Gets.{All-at}
use Rattle.aig_cnf.specs.Formula.{cone, gate_clauses, reads}
use Rattle.aig_sat.specs.checker.Clause.{Satisfies}
use Rattle.aig_refute.proofs.Tseitin.{gates_met, meets_gates, none_of, only_row}
use Rattle.aig_unroll.specs.Unrolled.{unrolled}
use Rattle.aig_unroll.proofs.UnrolledReady.{unrolled_ready}

true_false : (b : Bool) → b ≡ true → b ≡ false → ⊥
true_false true e f = cc
true_false false e f = cc

-- ---- all gates and those of the cone

in_cone : (ls : List ℕ) (gates : List Gate) (q : ℕ) (g : Gate) → slice_get (cone ls gates) q ≡ Some g
    → (j : ℕ) × (slice_get gates j ≡ Some g)
unfolding cone
in_cone ls [] q g at = cc
in_cone ls (x ∷ gates) q g at =
    go (reads ls (cone ls gates) (variable x.lhs)) q at (λ r here. in_cone ls gates r g here)
  where
    go : (b : Bool) (q : ℕ) → slice_get (if b then x ∷ cone ls gates else cone ls gates) q ≡ Some g
        → ((r : ℕ) → slice_get (cone ls gates) r ≡ Some g → (j : ℕ) × (slice_get gates j ≡ Some g))
        → (j : ℕ) × (slice_get (x ∷ gates) j ≡ Some g)
    go true zero at later = (0, at)
    go true (suc q) at later = let (j, here) = later q at in (suc j, here)
    go false q at later = let (j, here) = later q at in (suc j, here)

-- the clauses of the cone are some of those of all gates
pub cone_met : (a : ℕ → Bool) (ls : List ℕ) (gates : List Gate) → Satisfies a (flat_map gate_clauses gates)
    → Satisfies a (flat_map gate_clauses (cone ls gates))
cone_met a ls gates h =
    meets_gates a (cone ls gates) (λ q g at. let (j, here) = in_cone ls gates q g at in gates_met a gates h j g here)

-- no gate reads one behind it, or itself
abbrev ReadEarlier : List Gate → Type 0
ReadEarlier gates = (q r : ℕ) (f g : Gate) → q < r → slice_get gates q ≡ Some f → slice_get gates r ≡ Some g
    → (variable f.rhs0 ≢ variable g.lhs) × (variable f.rhs1 ≢ variable g.lhs)

-- a gate that does not read the variable adds nothing
not_by_first : (ls : List ℕ) (x : Gate) (gates : List Gate) (v : ℕ) → variable x.rhs0 ≢ v → variable x.rhs1 ≢ v
    → reads ls (x ∷ gates) v ≡ true → reads ls gates v ≡ true
not_by_first ls x gates v n0 n1 e =
    let e0 = ne_eqb (variable x.rhs0) v n0 in
    let e1 = ne_eqb (variable x.rhs1) v n1 in
    let others : Bool = list_any (λ g. variable g.rhs0 == v || variable g.rhs1 == v) gates in
    let first : Bool = list_any (λ l. variable l == v) ls in
    sym (ap₂ (λ b d. first || ((b || d) || others)) e0 e1) ∙ e

-- a gate that is read is in the cone
read_is_kept : (ls : List ℕ) (gates : List Gate) → ReadEarlier gates → (q : ℕ) (g : Gate) → slice_get gates q ≡ Some g
    → reads ls (cone ls gates) (variable g.lhs) ≡ true → (j : ℕ) × (slice_get (cone ls gates) j ≡ Some g)
unfolding cone
read_is_kept ls [] ordered q g at needed = cc
read_is_kept ls (x ∷ gates) ordered q g at needed =
    go (reads ls (cone ls gates) (variable x.lhs)) refl q at (λ r here. ordered zero (suc r) x g (omega arith) refl here) needed
    (λ r here. read_is_kept ls gates (λ i j f h lt. ordered (suc i) (suc j) f h (omega (arith, lt))) r g here)
  where
    go : (b : Bool) → reads ls (cone ls gates) (variable x.lhs) ≡ b → (q : ℕ) → slice_get (x ∷ gates) q ≡ Some g
        → ((r : ℕ) → slice_get gates r ≡ Some g → (variable x.rhs0 ≢ variable g.lhs) × (variable x.rhs1 ≢ variable g.lhs))
        → reads ls (if b then x ∷ cone ls gates else cone ls gates) (variable g.lhs) ≡ true
        → ((r : ℕ) → slice_get gates r ≡ Some g → reads ls (cone ls gates) (variable g.lhs) ≡ true
        → (j : ℕ) × (slice_get (cone ls gates) j ≡ Some g))
        → (j : ℕ) × (slice_get (if b then x ∷ cone ls gates else cone ls gates) j ≡ Some g)
    go true e zero at apart needed later = (zero, at)
    go true e (suc r) at apart needed later =
        let (n0, n1) = apart r at in
        let (j, here) = later r at (not_by_first ls x (cone ls gates) (variable g.lhs) n0 n1 needed) in (suc j, here)
    go false e zero at apart needed later =
        let same : x ≡ g = (let f : Some x ≡ Some g = at in cc) in
        absurd (true_false (reads ls (cone ls gates) (variable x.lhs))
        (subst (λ (h : Gate). reads ls (cone ls gates) (variable h.lhs) ≡ true) (sym same) needed) e)
    go false e (suc r) at apart needed later = later r at needed

-- what a gate of the cone reads is read
side_read : (ls : List ℕ) (gates : List Gate) (j : ℕ) (g : Gate) (v : ℕ) → slice_get gates j ≡ Some g
    → (variable g.rhs0 == v || variable g.rhs1 == v) ≡ true → reads ls gates v ≡ true
side_read ls gates j g v at e =
    let p : Gate → Bool = λ f. variable f.rhs0 == v || variable f.rhs1 == v in
    or_right (list_any (λ l. variable l == v) ls) (list_any p gates)
    (list_any_at p gates j g (slice_get_within gates j g at) (ap p (get_or_from_slice_get gates j g g at) ∙ e))

pub goal_read : (ls : List ℕ) (gates : List Gate) (i l : ℕ) → slice_get ls i ≡ Some l → reads ls gates (variable l) ≡ true
goal_read ls gates i l at =
    let v = variable l in
    or_left (list_any (λ m. variable m == v) ls) (list_any (λ g. variable g.rhs0 == v || variable g.rhs1 == v) gates)
    (list_any_at (λ m. variable m == v) ls i l (slice_get_within ls i l at)
    (ap (λ m. variable m == v) (get_or_from_slice_get ls i l l at) ∙ eq-eqb v v refl))

-- ---- values

-- where each gate of the cone is an AND, each literal that is read has its value
module _ (raw : Raw) (row : List Tern) (no_latches : raw.latches ≡ []) (ordered : ReadEarlier raw.gates) (ls : List ℕ)
    (has : ℕ → Tern) (low : has 0 ≡ Zero) (high : has 1 ≡ One)
    (inputs : (p l : ℕ) (w : Tern) → slice_get raw.inputs p ≡ Some l → slice_get row p ≡ Some w → w ≡ has l)
    (negations : (l : ℕ) → IsNegated l → has l ≡ kleene_not (has (l - 1)))
    (gates : (j : ℕ) (g : Gate) → slice_get (cone ls raw.gates) j ≡ Some g → has g.lhs ≡ kleene_and (has g.rhs0) (has g.rhs1)) where
  abbrev kept : List Gate
  kept = cone ls raw.gates

  pub assigned_in : {t l : ℕ} {w : Tern} → Value raw [] (row ∷ []) t l w → reads ls kept (variable l) ≡ true → w ≡ has l
  assigned_in (value.constant_false t) read = sym low
  assigned_in (value.constant_true t) read = sym high
  assigned_in (value.input t p l w r at is cell) read =
      inputs p l w at (subst (λ (r : List Tern). slice_get r p ≡ Some w) (sym (only_row raw row no_latches t r is)) cell)
  assigned_in (value.latch_first p x w at is) read = absurd (none_of raw.latches p x no_latches at)
  assigned_in (value.latch_next t p x w at v) read = absurd (none_of raw.latches p x no_latches at)
  assigned_in (value.gate t q g b c at vb vc) read =
      let (j, here) = read_is_kept ls raw.gates ordered q g at read in
      let first = side_read ls kept j g (variable g.rhs0) here
      (or_left (variable g.rhs0 == variable g.rhs0) (variable g.rhs1 == variable g.rhs0) (eq-eqb (variable g.rhs0) (variable g.rhs0) refl)) in
      let second = side_read ls kept j g (variable g.rhs1) here
      (or_right (variable g.rhs0 == variable g.rhs1) (variable g.rhs1 == variable g.rhs1) (eq-eqb (variable g.rhs1) (variable g.rhs1) refl)) in
      ap₂ kleene_and (assigned_in vb first) (assigned_in vc second) ∙ sym (gates j g here)
  assigned_in (value.negated t l w over neg v) read =
      let same : variable l ≡ variable (l - 1) = grind (arith, neg, over) in
      ap kleene_not (assigned_in v (subst (λ u. reads ls kept u ≡ true) same read)) ∙ sym (negations l neg)

-- ---- the gates of an unrolled circuit

pub read_earlier : (raw : Raw) → IsCircuit raw → (order : List ℕ) → IsCanonicalOrder raw order → (k : ℕ)
    → ReadEarlier (unrolled raw order k).gates
read_earlier raw circuit order canonical k q r f g lt at_q at_r =
    let all = unrolled raw order k in
    let ready = unrolled_ready raw circuit order canonical k in
    let number_q = gate_number all ready.in_order q f at_q in
    let number_r = gate_number all ready.in_order r g at_r in
    let down = All-at (λ (h : Gate). (h.rhs0 < h.lhs) × (h.rhs1 ≤ h.rhs0)) all.gates q f ready.gates at_q in (
      λ e. no_later (variable f.lhs) (variable g.lhs) f.lhs f.rhs0 refl (omega (arith, number_q, number_r, lt)) down.0 e,
      λ e. no_later (variable f.lhs) (variable g.lhs) f.lhs f.rhs1 refl (omega (arith, number_q, number_r, lt))
          (omega (arith, down.0, down.1)) e,
    )
  where
    no_later : (m n l s : ℕ) → m ≡ variable l → m < n → s < l → variable s ≡ n → ⊥
    no_later m n l s e lt below is = absurd (omega (arith, e, lt, below, is))
