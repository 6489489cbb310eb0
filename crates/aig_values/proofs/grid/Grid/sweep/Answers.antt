use Rattle.std.proofs.Common.{length, take, refl, ap, ◌∙◌, arith}
use Rattle.aig_values.specs.Cells.{HasCells}
use Rattle.aig_values.proofs.SweepLemmas.{item_is, length-with_swept_row, swept_none, swept_more, swept_all}
use Rattle.aig_values.proofs.grid.Grid.sweep.Goals as goal

pub loop-gate-init : goal.loop-gate-init
loop-gate-init g c = record {
  cells = swept_none (g.Self.Grid.cells c.args.self.now) c.args.frame;
  flags = refl;
  count = omega arith;
  room = refl;
}

pub evaluate-requires-clause-frame : goal.evaluate-requires-clause-frame
evaluate-requires-clause-frame g c =
    omega (
      arith,
      c.requires.frame,
      ap length c.loop-gate.invariant.cells,
      length-with_swept_row (g.Self.Grid.cells c.args.self.now) c.args.frame (take c.loop-gate.gate-index c.args.gates.now),
    )

pub evaluate-requires-clause-gate : goal.evaluate-requires-clause-gate
evaluate-requires-clause-gate g c =
    rw c.loop-gate.invariant.flags
    (item_is (HasCells (g.Self.Grid.gate_flags c.args.self.now)) c.args.gates.now c.loop-gate.gate-index c.gate-item.result
    c.requires.gates c.loop-gate-test.true c.gate-item.is)

pub loop-gate-preserved : goal.loop-gate-preserved
loop-gate-preserved g c = record {
  cells = c.evaluate.ensures.cells
      ∙ swept_more (g.Self.Grid.cells c.args.self.now) (g.Self.Grid.cells c.loop-gate.self) c.args.frame c.args.gates.now
      c.loop-gate.gate-index c.gate-item.result c.requires.frame c.loop-gate-test.true c.gate-item.is
      c.loop-gate.invariant.cells;
  flags = c.evaluate.ensures.gates ∙ c.loop-gate.invariant.flags;
  count = omega (arith, c.evaluate.ensures.count, c.loop-gate.invariant.count);
  room = c.evaluate.ensures.room ∙ c.loop-gate.invariant.room;
}

pub returns-clause-cells : goal.returns-clause-cells
returns-clause-cells g c =
    swept_all (g.Self.Grid.cells c.args.self.now) (g.Self.Grid.cells c.loop-gate.self) c.args.frame c.args.gates.now
    c.loop-gate.gate-index (omega (arith, c.loop-gate-test.false)) c.loop-gate.invariant.cells

pub returns-clause-gates : goal.returns-clause-gates
returns-clause-gates g c = c.loop-gate.invariant.flags

pub returns-clause-count : goal.returns-clause-count
returns-clause-count g c =
    omega (arith, c.loop-gate-test.false, c.loop-gate.auto.gate-index-end, c.loop-gate.invariant.count)

pub returns-clause-room : goal.returns-clause-room
returns-clause-room g c = c.loop-gate.invariant.room
