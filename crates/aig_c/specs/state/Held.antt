-- What a place for a bench owns: the bench on the heap, with the right to free its block, or nothing.
-- Example: after `aig_live_close` it owns nothing.
use Rattle.std.specs.Prelude.{Option, Some, None}
use Rattle.std.specs.Coded.{coded_option}
use base.Fml.{Fml, ftrue}
use base.Stored.{Coded}
use denote.RattleType.{RattleType}
use denote.RawPtr.{Ptr}
use Rattle.std.specs.Global.{Global}
use Rattle.std_heap.specs.contracts.GlobalAllocator.TheImpl as allocator
use Rattle.std.specs.Box.Ownership.{box_owns}
use Rattle.aig_values.specs.contracts.grid.plane_grid.PlaneGrid as grid
use Rattle.aig_values.specs.contracts.grid.plane_grid.PlaneGridGrid.TheImpl as grid_impl
use Rattle.aig_bench.specs.contracts.bench.Bench as bench
use Rattle.aig_bench.specs.BenchState.{BenchState}

-- a bench on planes, as the logic holds it
abbrev pub bench_row : RattleType
bench_row = bench.the_row grid.the_row grid_impl.ghosts

abbrev pub held_coded : Coded (Option BenchState)
held_coded = coded_option bench_row.coded

-- the bench at the pointer, where there is one
abbrev pub held_owns : Global → Ptr → Option BenchState → Fml
held_owns alloc p (Some b) = box_owns (allocator.ghosts.dealloc_token alloc) bench_row p b
held_owns alloc p None = ftrue
