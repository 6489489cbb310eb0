use Rattle.std.proofs.Common.{◌+◌, length, arith}
use Rattle.aig_parts.specs.Limits.{cell_limit}
use Rattle.aig_bench.proofs.cells.NewGrids.{room_for_row}
use Rattle.aig_bench.proofs.engine.new_grid.add_rows.Goals as goal

pub add_row-requires-clause-limit : goal.add_row-requires-clause-limit
add_row-requires-clause-limit g c =
    let driven = c.args.driven.now in
    rw (c.loop.invariant.rows.frames_are, c.loop.invariant.flags.size)
    (room_for_row (driven.circuit.max_var + 1) c.loop.counter (length driven.stimulus.rows) cell_limit
    (omega (arith, c.loop-test.true, c.frames-end.ensures.frames)) c.requires.driven.cells)
