-- The sources of a new frame, filled one after the other.
use Rattle.std.proofs.Common.{◌≡◌, ℕ, ◌+◌, refl, sym, ap, ◌∙◌, subst, arith}
use Rattle.aig_parts.specs.Literal.{variable}
use Rattle.aig_values.specs.InputRows.{row_at}
use Rattle.aig_bench.specs.BenchState.{CircuitAndRows}
use Rattle.aig_bench.specs.state.Current.{HoldsInPair, HoldsInputsInPair, HoldsLatchesInPair}
use Rattle.aig_bench.specs.state.Engine.{EngineState}
use Rattle.aig_bench.specs.state.Filled.{FillsCells, FillsRow, FillsSource, KeepsRowValues}

pub cells_then : (a b c : EngineState) → FillsCells a b → FillsCells b c → FillsCells a c
cells_then a b c x y =
    y ∙ ap (λ (s : EngineState). let z : EngineState = record s { cells = c.cells; evaluations = c.evaluations } in z) x

pub pair_kept : (a b : EngineState) → FillsCells a b → b.pair ≡ a.pair
pair_kept a b h = ap (λ (s : EngineState). s.pair) h

pub fills_then : (t n m k : ℕ) (a b c : EngineState) → FillsRow t n a b → FillsRow t m b c → k ≡ n + m → FillsRow t k a c
fills_then t n m k a b c x y is = record {
  same = cells_then a b c x.same y.same;
  others = λ u ne. y.others u ne ∙ x.others u ne;
  count = omega (arith, x.count, y.count);
}

-- one more source after those that are filled, as it is seen from the start
pub record OneMore (t v : ℕ) (a b c : EngineState) : Type 0 where
  pub row : FillsRow t 0 a c
  pub keeps : KeepsRowValues a.pair t (row_at b.cells t) (row_at c.cells t)
  pub holds : HoldsInPair a.pair t (row_at c.cells t) v

pub one_more : (t v : ℕ) (a b c : EngineState) → FillsRow t 0 a b → FillsSource t v b c → OneMore t v a b c
one_more t v a b c x y =
    let same = pair_kept a b x.same in
    record {
      row = fills_then t 0 0 0 a b c x y.row refl;
      keeps = subst (λ (p : CircuitAndRows). KeepsRowValues p t (row_at b.cells t) (row_at c.cells t)) same y.keeps;
      holds = subst (λ (p : CircuitAndRows). HoldsInPair p t (row_at c.cells t) v) same y.holds;
    }

-- after inputs and latches the sources have their values
module _ (t : ℕ) (a b c : EngineState) (x : FillsRow t 0 a b) (y : FillsRow t 0 b c)
    (keeps : KeepsRowValues b.pair t (row_at b.cells t) (row_at c.cells t)) where
  pub still_inputs : HoldsInputsInPair a.pair t (row_at b.cells t) → HoldsInputsInPair c.pair t (row_at c.cells t)
  still_inputs h =
      subst (λ (p : CircuitAndRows). HoldsInputsInPair p t (row_at c.cells t)) (sym (pair_kept b c y.same))
      (λ i l at. keeps.keeps (variable l)
      (subst (λ (p : CircuitAndRows). HoldsInputsInPair p t (row_at b.cells t)) (sym (pair_kept a b x.same)) h i l at))

  pub still_latches : HoldsLatchesInPair b.pair t (row_at c.cells t) → HoldsLatchesInPair c.pair t (row_at c.cells t)
  still_latches h = subst (λ (p : CircuitAndRows). HoldsLatchesInPair p t (row_at c.cells t)) (sym (pair_kept b c y.same)) h
