use Rattle.std.proofs.Common.{Ok, Err, sym, ◌∙◌, arith}
use Rattle.aig_values.specs.Cells.{literal_value}
use Rattle.aig_values.specs.InputRows.{row_at}
use Rattle.aig_script.proofs.AskedValues.{asked_frame, asked_variable, asked_in_cells}
use Rattle.aig_script.proofs.reply.write_value.Goals as goal

pub character-requires-clause-frame : goal.character-requires-clause-frame
character-requires-clause-frame g c =
    let there = asked_frame c.args.bench.now.pair c.args.frame c.args.literal c.in-Ok.field-0 c.in-Ok.ensures in
    omega (arith, there, c.grid.ensures.cells.rows)

pub character-requires-clause-variable : goal.character-requires-clause-variable
character-requires-clause-variable g c =
    let range = asked_variable c.args.bench.now.pair c.args.frame c.args.literal c.in-Ok.field-0 c.in-Ok.ensures
    c.width.ensures.circuit.sound in
    omega (arith, range, c.grid.ensures.variables)

pub returns-in-Ok : goal.returns-in-Ok
returns-in-Ok g c =
    let cells = g.G.Grid.cells c.grid.result.now in (
      Ok (literal_value (row_at cells c.args.frame) c.args.literal),
      asked_in_cells c.args.bench.now.pair c.args.frame c.args.literal c.in-Ok.field-0 c.in-Ok.ensures cells
          c.width.ensures.circuit.sound c.grid.ensures.cells,
      rw c.character.ensures at c.write_all.ensures,
    )

pub returns-in-Err : goal.returns-in-Err
returns-in-Err g c = (Err c.in-Err.fault, c.in-Err.ensures, c.write_refusal.ensures)
