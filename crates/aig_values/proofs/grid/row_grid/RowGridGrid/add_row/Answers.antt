use Rattle.std.proofs.Common.{◌≡◌, ◌<◌, ℕ, List, [], ◌∷◌, ◌++◌, length, map, take, ap, sym, ◌∙◌, subst, arith}
use Rattle.std.proofs.lemmas.List.{length-map, map_push}
use Rattle.aig_parts.specs.declared.ternary.Tern.{Tern}
use Rattle.aig_values.specs.Cells.{Cells, fresh_row}
use Rattle.aig_values.specs.state.Padded.{ArePadded}
use Rattle.aig_values.proofs.PaddedRows.{padded_more, rows_more}
use Rattle.aig_values.proofs.grid.row_grid.RowGridGrid.add_row.Goals as goal

pub invariant_of-self-2 : goal.invariant_of-self-2
invariant_of-self-2 g c =
    let n : ℕ = c.self.inside.variables in
    let room : ℕ = c.self.inside.room in
    let flags = c.self.inside.gates.flags in
    let row_cells = g.R.CellRow.cells in
    let rows : List (List Tern) = map row_cells c.self.inside.rows.items in
    let wide : ℕ = c.in_ok-row.ensures.0 in
    let items : map row_cells c.push.new.self.items ≡ rows ++ fresh_row wide ∷ [] =
    ap (map row_cells) c.in_ok-push.ensures.items ∙ map_push row_cells c.self.inside.rows.items c.in_ok-row.row
    ∙ ap (λ (row : List Tern). rows ++ row ∷ []) c.in_ok-row.ensures.2 in
    let cells : map (take n) rows ≡ c.args.self.now.cells = ap (λ (g : Cells). g.cells) c.self.view_is in
    let lt : length rows < 65536 = omega (arith, c.requires.rows, ap length cells, length-map rows (take n)) in
    subst (λ (rows : List (List Tern)). ArePadded n room flags rows) (sym items)
    (padded_more n room wide flags rows c.self.invariant c.in_ok-row.ensures.1 lt)

pub returns-clause-ok : goal.returns-clause-ok
returns-clause-ok g c =
    let n : ℕ = c.self.inside.variables in
    let room : ℕ = c.self.inside.room in
    let flags = c.self.inside.gates.flags in
    let row_cells = g.R.CellRow.cells in
    let rows : List (List Tern) = map row_cells c.self.inside.rows.items in
    let wide : ℕ = c.in_ok-row.ensures.0 in
    let items : map row_cells c.push.new.self.items ≡ rows ++ fresh_row wide ∷ [] =
    ap (map row_cells) c.in_ok-push.ensures.items ∙ map_push row_cells c.self.inside.rows.items c.in_ok-row.row
    ∙ ap (λ (row : List Tern). rows ++ row ∷ []) c.in_ok-row.ensures.2 in
    let cells : map (take n) rows ≡ c.args.self.now.cells = ap (λ (g : Cells). g.cells) c.self.view_is in
    let same : flags ≡ c.args.self.now.gate_flags = ap (λ (g : Cells). g.gate_flags) c.self.view_is in
    let size : n ≡ length c.args.self.now.gate_flags = sym c.self.invariant.flagged ∙ ap length same in
    ap (map (take n)) items ∙ rows_more n room wide flags rows c.self.invariant c.in_ok-row.ensures.1
    ∙ ap (λ (cells : List (List Tern)). cells ++ fresh_row n ∷ []) cells
    ∙ ap (λ (k : ℕ). c.args.self.now.cells ++ fresh_row k ∷ []) size
