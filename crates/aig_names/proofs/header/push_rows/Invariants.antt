use Rattle.std.proofs.Common.{◌≡◌, ◌+◌, ◌++◌, drop}
use Rattle.aig_names.specs.state.Rows.{rows_size, rows_text}
use Rattle.aig_names.proofs.header.push_rows.Given as goal

abbrev pub invariant-loop-row : goal.invariant-loop-row
invariant-loop-row l = record {
  text : l.text.items ++ rows_text l.symbols l.first (drop l.row-index l.rows) ≡ l.fn.text.items ++ rows_text l.symbols 0 l.rows;
  size : l.first + rows_size (drop l.row-index l.rows) ≡ rows_size l.rows;
}
