-- A seat with a bench, and its parts, own what a box of a bench owns.
use mir.Syntax.{impl, tnil, dnil}
use mathlib.Core.List.{[]}
use denote.Signature.{Slot, plain}
use Rattle.std.specs.Prelude.{◌≡◌, Option, Some, None, true}
use Rattle.std.proofs.Common.{refl}
use Rattle.aig_bench.specs.BenchState.{BenchState}
use Rattle.aig_c.specs.Live.{is_open}
use mathlib.Core.Bool.{false≢true}
use Rattle.std_alloc.proofs.BoxSteps.Form.{Bx}
use Rattle.std_heap.specs.contracts.Global as Heap
use Rattle.std_heap.specs.contracts.GlobalAllocator.TheImpl.{ghosts, dict}
use Rattle.std_heap.proofs.Global.TheLaws as heap
use Rattle.aig_values.specs.contracts.grid.plane_grid.PlaneGrid as grid
use Rattle.aig_values.specs.contracts.grid.plane_grid.PlaneGridGrid.TheImpl as grid_impl
use Rattle.aig_values.proofs.grid.plane_grid.PlaneGrid.TheLaws as grid_laws
use Rattle.aig_bench.proofs.bench.Bench.TheLaws as bench_laws
use Rattle.aig_c.specs.state.Held.{bench_row}
use Rattle.aig_c.specs.contracts.live.parts.Parts as Parts
use Rattle.aig_c.specs.contracts.live.handle.Seat as Seat

abbrev pub E : Bx
E = record { row = bench_row; laws = bench_laws.the_row_laws grid.the_row grid_impl.ghosts grid_laws.the_row_laws; al = record { row = Heap.the_row; laws = heap.the_row_laws; g = ghosts; d = dict; drops = impl [] tnil dnil } }

abbrev pub FromParts : Slot 0
FromParts = plain (λ _. Parts.the_row bench_row Heap.the_row ghosts)

abbrev pub FromSeat : Slot 0
FromSeat = plain (λ _. Seat.the_row)

-- an open seat has a bench
pub opened : (h : Option BenchState) → is_open h ≡ true → (x : BenchState) × (h ≡ Some x)
opened (Some x) e = (x, refl)
opened None e = absurd (false≢true e)
