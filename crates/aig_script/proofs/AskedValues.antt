-- A literal that has a value is defined, and its character is that of its cell.
use Rattle.std.proofs.Common.{◌≡◌, ℕ, zero, ◌-◌, ◌<◌, ◌≤◌, List, length, Ok, inl, inr, refl, subst, arith}
use Rattle.std.proofs.lemmas.Bool.{cases_lt}
use Rattle.aig_parts.specs.declared.raw.Raw.{Raw}
use Rattle.aig_parts.specs.declared.ternary.Tern.{Tern}
use Rattle.aig_parts.specs.Literal.{variable}
use Rattle.aig_base.specs.Sections.{IsDefined}
use Rattle.aig_base.specs.Sound.{IsSound}
use Rattle.aig_base.specs.Value as value
use Rattle.aig_base.specs.Value.{Value}
use Rattle.aig_base.proofs.circuits.Circuits.{input_defined, latch_defined, gate_defined}
use Rattle.aig_base.proofs.circuits.Gates.{defined_in_range}
use Rattle.aig_values.specs.Cells.{literal_value}
use Rattle.aig_values.specs.InputRows.{row_at}
use Rattle.aig_bench.specs.BenchState.{CircuitAndRows, HasValue}
use Rattle.aig_bench.specs.CurrentCells.{HasCurrentCells}
use Rattle.aig_bench.specs.Question.{AnswersValue}
use Rattle.aig_bench.specs.declared.edit.EditFault.TheVariants as faults
use Rattle.aig_bench.proofs.cells.Values.{literal_has_value}

module _ (raw : Raw) (start : List Tern) (rows : List (List Tern)) where
  pub value_defined : {t l : ℕ} {w : Tern} → Value raw start rows t l w → IsDefined raw (variable l)
  value_defined (value.constant_false t) = (zero, omega arith, refl)
  value_defined (value.constant_true t) = (zero, omega arith, refl)
  value_defined (value.input t p l w row at is cell) = input_defined raw p l at
  value_defined (value.latch_first p x w at is) = latch_defined raw p x at
  value_defined (value.latch_next t p x w at v) = latch_defined raw p x at
  value_defined (value.gate t q g a b at va vb) = gate_defined raw q g at
  value_defined (value.negated t l w over neg v) =
      let same : variable (l - 1) ≡ variable l = omega (arith, over, neg) in
      subst (IsDefined raw) same (value_defined v)

module _ (p : CircuitAndRows) (t l : ℕ) (w : Tern) (answers : AnswersValue p t l (Ok w)) where
  asked_defined : IsDefined p.circuit (variable l)
  asked_defined = value_defined p.circuit _ p.rows answers.1

  pub asked_variable : IsSound p.circuit → variable l ≤ p.circuit.max_var
  asked_variable sound = defined_in_range p.circuit sound (variable l) asked_defined

  pub asked_frame : t < length p.rows
  asked_frame =
      elim (cases_lt t (length p.rows)) [
        | inl lt ↦ lt
        | inr le ↦ absurd (answers.0 faults.NoFrame le)
      ]

  -- where the cells are current, the answer is the literal's value by the cell of its variable
  pub asked_in_cells : (cells : List (List Tern)) → IsSound p.circuit → HasCurrentCells p cells
      → AnswersValue p t l (Ok (literal_value (row_at cells t) l))
  asked_in_cells cells sound current =
      let (v, is, value_is) = current.values t (variable l) asked_frame asked_defined in (
        answers.0,
        literal_has_value p t (row_at cells t) l sound (record { cell = v; cell_is = is; value_is = value_is }),
      )
