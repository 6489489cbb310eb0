use Rattle.std.proofs.Common.{◌≡◌, ◌+◌, take}
use Rattle.aig_values.specs.Cells.{with_swept_row}
use Rattle.aig_values.proofs.grid.Grid.sweep.Given as goal

abbrev pub invariant-loop-gate : goal.invariant-loop-gate
invariant-loop-gate g l = record {
  cells : g.Self.Grid.cells l.self ≡ with_swept_row (g.Self.Grid.cells l.initial.self) l.frame (take l.gate-index l.gates);
  flags : g.Self.Grid.gate_flags l.self ≡ g.Self.Grid.gate_flags l.initial.self;
  count : g.Self.Grid.evaluations l.self ≡ g.Self.Grid.evaluations l.initial.self + l.gate-index;
  room : g.Self.Grid.has_room l.self ≡ g.Self.Grid.has_room l.initial.self;
}
