use Rattle.std.proofs.Common.{◌≡◌, ◌+◌, ◌*◌, ◌<◌, ℕ, List, Some, slice_get, slice_set, length, get_or, sym, ap, ◌∙◌}
use Rattle.std.proofs.Common.{◌≤◌, arith}
use Rattle.std.proofs.lemmas.Option.{slice_get-get_or}
use Rattle.aig_parts.specs.declared.raw.Raw.{Raw}
use Rattle.aig_parts.specs.declared.ternary.Tern.{Tern}
use Rattle.aig_parts.specs.declared.ternary.Tern.TheVariants.{Zero}
use Rattle.aig_parts.specs.Literal.{variable}
use Rattle.aig_base.specs.Sound.{IsSound}
use Rattle.aig_values.specs.state.Frame.{Holds, PutsInputs}
use Rattle.aig_base.proofs.circuits.Circuits.{input_in_range}
use Rattle.aig_values.proofs.Evaluation.{items_more, items_all, input_value, put_value}
use Rattle.aig_base.proofs.lists.Items.{item_at}
use Rattle.aig_sim.proofs.simulation.frame_cells.put_inputs.Invariants.{PutsFirst}
use Rattle.aig_sim.proofs.simulation.frame_cells.put_inputs.Goals as goal

-- one more input is put
more : (raw : Raw) → IsSound raw → (row old cells : List Tern) (i l u : ℕ) (w : Tern) → slice_get raw.inputs i ≡ Some l
    → u ≡ variable l → u < length cells → slice_get row i ≡ Some w → PutsFirst raw row old cells i
    → PutsFirst raw row old (slice_set cells u w) (i + 1)
more raw sound row old cells i l u w at same wide value before =
    let put = λ (start : List Tern) (rows : List (List Tern)) (t : ℕ) (h : slice_get rows t ≡ Some row).
    put_value raw start rows t old cells u (variable l) w same wide
    (input_value raw start rows t row i l w sound h at value) (before.renews start rows t h) in
    record {
      renews = λ start rows t h. (put start rows t h).0;
      inputs = λ start rows t h. items_more
          (λ k. Holds raw start rows t (slice_set cells u w) (variable k)) raw.inputs i l at
          (λ j k below is. (put start rows t h).1.keeps (variable k) (before.inputs start rows t h j k below is))
          (put start rows t h).2;
    }

-- all inputs are put
all : (raw : Raw) (row old cells : List Tern) (n : ℕ) → length raw.inputs ≤ n → PutsFirst raw row old cells n
    → PutsInputs raw row old cells
all raw row old cells n whole puts = record {
  renews = puts.renews;
  inputs = λ start rows t h. items_all (λ k. Holds raw start rows t cells (variable k)) raw.inputs n whole
      (puts.inputs start rows t h);
}

pub bounds-cells-first : goal.bounds-cells-first
bounds-cells-first c =
    let raw = c.args.circuit.now in
    let i = c.loop-position.position in
    let lt : i < length raw.inputs = omega (arith, c.requires.row, c.loop-position-test.true) in
    let l = get_or raw.inputs i 0 in
    let at = slice_get-get_or raw.inputs i 0 lt in
    let is : l ≡ 2 * (c.in-Some.first + i) = (rw c.in-Some.is at c.requires.first).each i l at in
    let fits = input_in_range raw c.facts.ensures.sound i l at in
    omega (arith, is, fits, c.requires.cells, c.loop-position.auto.cells)

pub loop-position-preserved : goal.loop-position-preserved
loop-position-preserved c =
    let raw = c.args.circuit.now in
    let row = c.args.row.now in
    let i = c.loop-position.position in
    let lt : i < length raw.inputs = omega (arith, c.requires.row, c.loop-position-test.true) in
    let l = get_or raw.inputs i 0 in
    let at = slice_get-get_or raw.inputs i 0 lt in
    let is : l ≡ 2 * (c.in-Some.first + i) = (rw c.in-Some.is at c.requires.first).each i l at in
    let fits = input_in_range raw c.facts.ensures.sound i l at in
    let cells = c.loop-position.cells in
    let u = c.in-Some.first + i in
    let same : u ≡ variable l = omega (arith, is) in
    let wide : u < length cells = omega (arith, is, fits, c.requires.cells, c.loop-position.auto.cells) in
    let value : slice_get row i ≡ Some c.of.result =
    slice_get-get_or row i Zero c.loop-position-test.true ∙ ap Some (sym c.of.ensures) in
    more raw c.facts.ensures.sound row c.args.cells.now cells i l u c.of.result at same wide value
    c.loop-position.invariant

pub returns-after-loop-position : goal.returns-after-loop-position
returns-after-loop-position c =
    all c.args.circuit.now c.args.row.now c.args.cells.now c.loop-position.cells c.loop-position.position
    (omega (arith, c.requires.row, c.loop-position-test.false)) c.loop-position.invariant

pub bounds-cells-var : goal.bounds-cells-var
bounds-cells-var c =
    let raw = c.args.circuit.now in
    let i = c.loop-place.place in
    let l = c.input-item.result in
    let at : slice_get raw.inputs i
    ≡ Some l = item_at _ _ i l c.inputs-input-items.ensures c.loop-place-test.true c.input-item.is in
    let fits = input_in_range raw c.facts.ensures.sound i l at in
    omega (arith, c.var.ensures, fits, c.requires.cells, c.loop-place.auto.cells)

pub loop-place-preserved : goal.loop-place-preserved
loop-place-preserved c =
    let raw = c.args.circuit.now in
    let row = c.args.row.now in
    let i = c.loop-place.place in
    let l = c.input-item.result in
    let cells = c.loop-place.cells in
    let w = c.of-in-loop-place.result in
    let at : slice_get raw.inputs i
    ≡ Some l = item_at _ _ i l c.inputs-input-items.ensures c.loop-place-test.true c.input-item.is in
    let lt : i < length row = omega (arith, c.requires.row, ap length c.inputs-input-items.ensures) in
    let fits = input_in_range raw c.facts.ensures.sound i l at in
    let wide : c.var.result < length cells =
    omega (arith, c.var.ensures, fits, c.requires.cells, c.loop-place.auto.cells) in
    let value : slice_get row i ≡ Some w =
    slice_get-get_or row i Zero lt ∙ ap Some (sym c.of-in-loop-place.ensures) in
    more raw c.facts.ensures.sound row c.args.cells.now cells i l c.var.result w at c.var.ensures wide value
    c.loop-place.invariant

pub returns-after-loop-place : goal.returns-after-loop-place
returns-after-loop-place c =
    all c.args.circuit.now c.args.row.now c.args.cells.now c.loop-place.cells c.loop-place.place
    (rw (← c.inputs-input-items.ensures) (omega (arith, c.loop-place-test.false))) c.loop-place.invariant
