use Rattle.std.proofs.Common.{sym, subst, arith}
use Rattle.aig_parts.specs.Literal.{variable}
use Rattle.aig_values.specs.InputRows.{row_at}
use Rattle.aig_bench.specs.BenchState.{HasValue}
use Rattle.aig_bench.proofs.cells.Values.{literal_has_value}
use Rattle.aig_causes.proofs.values.value_at.Goals as goal

pub literal_in-requires : goal.literal_in-requires
literal_in-requires g c = (
  omega (arith, c.requires.frame, c.grid.ensures.cells.rows),
  omega (arith, c.requires.range, c.grid.ensures.variables),
)

pub returns : goal.returns
returns g c = λ defined.
    let p = c.args.bench.now.pair in
    let row = row_at (g.G.Grid.cells c.grid.result.now) c.args.frame in
    let (w, at, v) = c.grid.ensures.cells.values c.args.frame (variable c.args.literal) c.requires.frame defined in
    subst (HasValue p c.args.frame c.args.literal) (sym c.literal_in.ensures)
    (literal_has_value p c.args.frame row c.args.literal c.width.ensures.circuit.sound
    (record { cell = w; cell_is = at; value_is = v }))
