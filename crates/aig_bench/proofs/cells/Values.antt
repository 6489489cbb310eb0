-- The rules of values, for the cells of a row of a pair.
use Rattle.std.proofs.Common.{◌≡◌, ℕ, suc, ◌*◌, ◌<◌, List, length, Some, slice_get, slice_set, refl, ap, ◌∙◌}
use Rattle.std.proofs.Common.{option_map}
use Rattle.std.proofs.lemmas.Option.{slice_get-map, slice_get-get_or}
use Rattle.aig_parts.specs.declared.ternary.Tern.{Tern}
use Rattle.aig_parts.specs.declared.ternary.Tern.TheVariants.{Zero}
use Rattle.aig_parts.specs.declared.gate.Gate.{Gate}
use Rattle.aig_parts.specs.declared.latch.Latch.{Latch}
use Rattle.aig_parts.specs.Literal.{variable}
use Rattle.aig_base.specs.Sound.{IsSound}
use Rattle.aig_base.specs.Value as value
use Rattle.aig_base.specs.Value.{start_of, reset_value}
use Rattle.aig_base.proofs.circuits.Circuits.{latch_definition, next_defined}
use Rattle.aig_base.proofs.values.ValueRules.{by_latch_next}
use Rattle.aig_values.specs.Cells.{literal_value, gate_value}
use Rattle.aig_values.specs.InputRows.{row_at}
use Rattle.aig_values.proofs.Evaluation as cells
use Rattle.aig_bench.specs.BenchState.{CircuitAndRows, HasValue}
use Rattle.aig_bench.specs.state.Current.{HoldsInPair, HoldsInputsInPair, HoldsLatchesInPair, HoldsSourcesInPair}
use Rattle.aig_bench.specs.state.Current.{IsCurrentRow}

module _ (p : CircuitAndRows) (t : ℕ) where
  pub input_value : (i l : ℕ) (w : Tern) → IsSound p.circuit → t < length p.rows
      → slice_get p.circuit.inputs i ≡ Some l
      → slice_get (row_at p.rows t) i ≡ Some w → HasValue p t (2 * variable l) w
  input_value i l w sound lt at is =
      cells.input_value p.circuit (start_of p.circuit) p.rows t (row_at p.rows t) i l w sound
      (slice_get-get_or p.rows t _ lt) at is

  pub latch_value : (i : ℕ) (x : Latch) (w : Tern) → IsSound p.circuit → slice_get p.circuit.latches i ≡ Some x
      → HasValue p t x.lit w → HasValue p t (2 * variable x.lit) w
  latch_value i x w sound at v =
      cells.value_of_variable p.circuit (start_of p.circuit) p.rows t x.lit w (latch_definition p.circuit sound i x at) v

  -- a literal's value by the cell of its variable
  pub literal_has_value : (row : List Tern) (l : ℕ) → IsSound p.circuit → HoldsInPair p t row (variable l)
      → HasValue p t l (literal_value row l)
  literal_has_value row l sound h = cells.literal_has_value p.circuit (start_of p.circuit) p.rows t row l sound h

  pub gate_has_value : (row : List Tern) (i : ℕ) (g : Gate) → IsSound p.circuit → slice_get p.circuit.gates i ≡ Some g
      → HoldsInPair p t row (variable g.rhs0) → HoldsInPair p t row (variable g.rhs1)
      → HasValue p t (2 * variable g.lhs) (gate_value row g)
  gate_has_value row i g sound at h0 h1 =
      cells.gate_has_value p.circuit (start_of p.circuit) p.rows t row i g sound at h0 h1

  -- the cell of variable 0
  pub constant_holds : (row : List Tern) → slice_get row 0 ≡ Some Zero → HoldsInPair p t row 0
  constant_holds row is = record { cell = Zero; cell_is = is; value_is = value.constant_false t }

  -- a value written to a cell
  pub holds_new : (row : List Tern) (u : ℕ) (w : Tern) → u < length row → HasValue p t (2 * u) w
      → HoldsInPair p t (slice_set row u w) u
  holds_new row u w lt v = cells.holds_new p.circuit (start_of p.circuit) p.rows t row u w lt v

  -- what was a value stays one
  pub holds_still : (row : List Tern) (u : ℕ) (w : Tern) → u < length row → HasValue p t (2 * u) w → (v : ℕ)
      → HoldsInPair p t row v → HoldsInPair p t (slice_set row u w) v
  holds_still row u w lt val v h =
      let step = cells.renews_write p.circuit (start_of p.circuit) p.rows t row u w lt val in step.keeps v h

  pub sources_hold : (row : List Tern) → slice_get row 0 ≡ Some Zero → HoldsInputsInPair p t row → HoldsLatchesInPair p t row
      → HoldsSourcesInPair p t row
  sources_hold row is inputs latches =
      cells.sources_hold p.circuit (start_of p.circuit) p.rows t row (constant_holds row is) inputs latches

-- at frame 0 a latch has the value of its reset
pub latch_starts : (p : CircuitAndRows) (i : ℕ) (x : Latch) → slice_get p.circuit.latches i ≡ Some x
    → HasValue p 0 x.lit (reset_value x.reset)
latch_starts p i x at =
    value.latch_first i x (reset_value x.reset) at
    (slice_get-map (λ x. reset_value x.reset) p.circuit.latches i ∙ ap (option_map (λ x. reset_value x.reset)) at)

-- afterwards it has the value that its next literal had
pub latch_follows : (p : CircuitAndRows) (t u i : ℕ) (x : Latch) (row : List Tern) → IsSound p.circuit → t ≡ suc u
    → slice_get p.circuit.latches i ≡ Some x → IsCurrentRow p u row → HasValue p t x.lit (literal_value row x.next)
latch_follows p t u i x row sound e at now =
    by_latch_next p.circuit (start_of p.circuit) p.rows t x.lit i u x (literal_value row x.next) e at refl
    (literal_has_value p u row x.next sound (now (variable x.next) (next_defined p.circuit sound i x at)))
