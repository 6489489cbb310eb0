use Rattle.std.proofs.Common.{fold, sym, ap, ◌∙◌, arith}
use Rattle.std.proofs.lemmas.Bool.{false≢true}
use Rattle.std.proofs.lemmas.List.{take_all}
use Rattle.aig_values.specs.Cells.{with_gate_value}
use Rattle.aig_values.proofs.SweepLemmas.{places_next, row_more}
use Rattle.aig_values.proofs.grid.row_grid.sweep_row.Goals as goal

pub loop-gate-init : goal.loop-gate-init
loop-gate-init g c = c.sweep_at_once.ensures.same (λ h. false≢true (sym c.if-not-sweep_at_once.true ∙ h))

pub evaluate-changed-requires : goal.evaluate-changed-requires
evaluate-changed-requires g c =
    places_next (g.R.CellRow.cells c.args.row.now) (g.R.CellRow.cells c.loop-gate.row) c.args.gates.now c.loop-gate.gate-index
    c.gate-item.result c.requires c.loop-gate-test.true c.gate-item.is c.loop-gate.invariant

pub loop-gate-preserved : goal.loop-gate-preserved
loop-gate-preserved g c =
    c.evaluate-changed.ensures.cells ∙ ap (λ row. with_gate_value row c.gate-item.result) c.loop-gate.invariant
    ∙ row_more (g.R.CellRow.cells c.args.row.now) c.args.gates.now c.loop-gate.gate-index c.gate-item.result
    c.loop-gate-test.true c.gate-item.is

pub returns-after-loop-gate : goal.returns-after-loop-gate
returns-after-loop-gate g c =
    c.loop-gate.invariant
    ∙ ap (fold with_gate_value (g.R.CellRow.cells c.args.row.now))
    (take_all c.loop-gate.gate-index c.args.gates.now (omega (arith, c.loop-gate-test.false)))
