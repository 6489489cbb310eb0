use Rattle.std.proofs.Common.{◌≡◌, ◌≤◌, ◌+◌, ◌∙◌, All, length, map, take, ap, sym, subst, arith}
use Rattle.std.proofs.lemmas.List.{length-map, with_items_is}
use Rattle.aig_values.specs.Cells.{Cells}
use Rattle.aig_values.specs.state.Padded.{ArePadded, AreLengthened}
use Rattle.aig_values.proofs.PaddedRows.{longer_padded, seen_same, still_padded}
use Rattle.aig_values.proofs.SeenRows.{all_items, all_seen}
use Rattle.aig_values.proofs.grid.row_grid.RowGridGrid.reserve_gate.Goals as goal

pub make_room-requires-clause-more : goal.make_room-requires-clause-more
make_room-requires-clause-more g c =
    let cells = g.R.CellRow.cells in
    let n = c.self.inside.variables in
    let fits = c.self.invariant.fits in
    subst (λ rows. All (λ row. n + 1 ≤ length (cells row) + 1) rows) (sym c.deref_mut.ensures.value)
    (all_items cells (λ row. n + 1 ≤ length row + 1) c.self.inside.rows.items (λ k d lt.
    let padded = c.self.invariant.each k d lt in
    omega (arith, padded.0)))

pub invariant_of-self : goal.invariant_of-self
invariant_of-self g c =
    let cells = g.R.CellRow.cells in
    let items = c.self.inside.rows.items in
    let new = c.make_room.new.rows in
    let count : length new ≡ length c.deref_mut.result.now =
    sym (length-map new cells) ∙ c.make_room.ensures.rows.size ∙ length-map c.deref_mut.result.now cells in
    let same = with_items_is c.self.inside.rows new (count ∙ c.deref_mut.ensures.len) in
    let long = subst (λ xs. AreLengthened (map cells xs) (map cells new)) c.deref_mut.ensures.value c.make_room.ensures.rows in
    subst (λ xs. ArePadded c.self.inside.variables c.self.inside.room c.self.inside.gates.flags (map cells xs)) (sym same)
    (still_padded c.self.inside.variables c.self.inside.room c.self.inside.gates.flags (map cells items) (map cells new)
    c.self.invariant long)

pub returns-in_err-make_room-clause-cells : goal.returns-in_err-make_room-clause-cells
returns-in_err-make_room-clause-cells g c =
    let cells = g.R.CellRow.cells in
    let items = c.self.inside.rows.items in
    let new = c.make_room.new.rows in
    let count : length new ≡ length c.deref_mut.result.now =
    sym (length-map new cells) ∙ c.make_room.ensures.rows.size ∙ length-map c.deref_mut.result.now cells in
    let same = with_items_is c.self.inside.rows new (count ∙ c.deref_mut.ensures.len) in
    let long = subst (λ xs. AreLengthened (map cells xs) (map cells new)) c.deref_mut.ensures.value c.make_room.ensures.rows in
    ap (λ xs. map (take c.self.inside.variables) (map cells xs)) same
    ∙ seen_same c.self.inside.variables c.self.inside.room c.self.inside.gates.flags (map cells items) (map cells new)
    c.self.invariant long
    ∙ ap (λ (g : Cells). g.cells) c.self.view_is

pub invariant_of-self-then-self-wanted : goal.invariant_of-self-then-self-wanted
invariant_of-self-then-self-wanted g c =
    let n = c.self.inside.variables in
    let cells = g.R.CellRow.cells in
    let items = c.self.inside.rows.items in
    let new = c.make_room.new.rows in
    let count : length new ≡ length c.deref_mut.result.now =
    sym (length-map new cells) ∙ c.make_room.ensures.rows.size ∙ length-map c.deref_mut.result.now cells in
    let same = with_items_is c.self.inside.rows new (count ∙ c.deref_mut.ensures.len) in
    let long = subst (λ xs. AreLengthened (map cells xs) (map cells new)) c.deref_mut.ensures.value c.make_room.ensures.rows in
    let flags = ap (λ (g : Cells). length g.gate_flags) c.self.view_is in
    let size = c.self.invariant.flagged in
    let limit = c.requires in
    subst (λ xs. ArePadded n (n + 1) c.self.inside.gates.flags (map cells xs)) (sym same)
    (longer_padded n c.self.inside.room c.self.inside.gates.flags (map cells items) (map cells new) c.self.invariant long
    (n + 1) (omega arith) (omega arith) (all_seen cells (λ row. n + 1 ≤ length row) new c.in_ok-make_room.ensures.ok))

pub returns-in_ok-make_room-clause-cells : goal.returns-in_ok-make_room-clause-cells
returns-in_ok-make_room-clause-cells g c =
    let cells = g.R.CellRow.cells in
    let items = c.self.inside.rows.items in
    let new = c.make_room.new.rows in
    let count : length new ≡ length c.deref_mut.result.now =
    sym (length-map new cells) ∙ c.make_room.ensures.rows.size ∙ length-map c.deref_mut.result.now cells in
    let same = with_items_is c.self.inside.rows new (count ∙ c.deref_mut.ensures.len) in
    let long = subst (λ xs. AreLengthened (map cells xs) (map cells new)) c.deref_mut.ensures.value c.make_room.ensures.rows in
    ap (λ xs. map (take c.self.inside.variables) (map cells xs)) same
    ∙ seen_same c.self.inside.variables c.self.inside.room c.self.inside.gates.flags (map cells items) (map cells new)
    c.self.invariant long
    ∙ ap (λ (g : Cells). g.cells) c.self.view_is
