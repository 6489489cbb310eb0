-- A circuit that has all that another one has: no value changes.
use Rattle.std.proofs.Common.{◌≡◌, ℕ, List, map, Some, slice_get, ap, ◌∙◌, subst, sym}
use Rattle.aig_parts.specs.declared.ternary.Tern.{Tern}
use Rattle.aig_parts.specs.declared.gate.Gate.{Gate}
use Rattle.aig_parts.specs.declared.latch.Latch.{Latch}
use Rattle.aig_parts.specs.declared.raw.Raw.{Raw}
use Rattle.aig_base.specs.Sound.{IsSound}
use Rattle.aig_base.specs.Value as value
use Rattle.aig_base.specs.Value.{Value, start_of, reset_value}
use Rattle.aig_base.proofs.values.UniqueValue.{unique}
use Rattle.aig_bench.specs.state.Current.{HoldsInPair}
use Rattle.aig_bench.specs.BenchState.{CircuitAndRows, HasValue}
use Rattle.aig_bench.specs.Touched.{HasOther}

-- the same inputs and latches, and each gate that was there
pub record HasAll (raw more : Raw) : Type 0 where
  pub inputs : more.inputs ≡ raw.inputs
  pub latches : more.latches ≡ raw.latches
  pub gates : (q : ℕ) (g : Gate) → slice_get raw.gates q ≡ Some g → slice_get more.gates q ≡ Some g

module _ (raw more : Raw) (start : List Tern) (rows : List (List Tern)) (h : HasAll raw more) where
  pub value_stays : {t l : ℕ} {w : Tern} → Value raw start rows t l w → Value more start rows t l w
  value_stays (value.constant_false t) = value.constant_false t
  value_stays (value.constant_true t) = value.constant_true t
  value_stays (value.input t p l w row at is cell) =
      value.input t p l w row (ap (λ (ls : List ℕ). slice_get ls p) h.inputs ∙ at) is cell
  value_stays (value.latch_first p x w at is) =
      value.latch_first p x w (ap (λ (xs : List Latch). slice_get xs p) h.latches ∙ at) is
  value_stays (value.latch_next t p x w at v) =
      value.latch_next t p x w (ap (λ (xs : List Latch). slice_get xs p) h.latches ∙ at) (value_stays v)
  value_stays (value.gate t q g a b at va vb) = value.gate t q g a b (h.gates q g at) (value_stays va) (value_stays vb)
  value_stays (value.negated t l w over odd v) = value.negated t l w over odd (value_stays v)

-- the pair with such a circuit
module _ (p : CircuitAndRows) (more : Raw) (h : HasAll p.circuit more) where
  abbrev after : CircuitAndRows
  after = record p { circuit = more }

  same_start : start_of more ≡ start_of p.circuit
  same_start = ap (λ (xs : List Latch). map (λ (x : Latch). reset_value x.reset) xs) h.latches

  pub has_still : (t l : ℕ) (w : Tern) → HasValue p t l w → HasValue after t l w
  has_still t l w v =
      subst (λ (start : List Tern). Value more start p.rows t l w) (sym same_start)
      (value_stays p.circuit more (start_of p.circuit) p.rows h v)

  pub holds_still : (t v : ℕ) (row row' : List Tern) → slice_get row' v ≡ slice_get row v
      → HoldsInPair p t row v → HoldsInPair after t row' v
  holds_still t v row row' same k =
      record { cell = k.cell; cell_is = same ∙ k.cell_is; value_is = has_still t _ k.cell k.value_is }

  pub none_other : IsSound more → (t v : ℕ) → HasOther p after t v → ⊥
  none_other sound t v o =
      o.other (unique more (start_of more) p.rows sound o.after_is (has_still t _ o.before o.before_is))
