use Rattle.std.proofs.Common.{◌<◌, ◌≤◌, ◌+◌, length, map, sym, subst, arith}
use Rattle.std.proofs.lemmas.List.{length-map, map-set}
use Rattle.aig_values.specs.state.Padded.{AreLengthened, IsLengthened}
use Rattle.aig_values.proofs.PaddedRows.{Longer, longer_all, near_here, longer_rows, longer_set, longer_start}
use Rattle.aig_values.proofs.SeenRows.{item_seen, all_seen, all_items}
use Rattle.aig_values.proofs.grid.row_grid.make_room.Goals as goal

pub loop-frame-init : goal.loop-frame-init
loop-frame-init g c =
    let cells = g.R.CellRow.cells in
    longer_start (map cells c.args.rows.now) c.args.size
    (all_seen cells (λ row. c.args.size ≤ length row + 1) c.args.rows.now c.requires.more)

pub make_room-requires-clause-more : goal.make_room-requires-clause-more
make_room-requires-clause-more g c =
    let cells = g.R.CellRow.cells in
    let now = c.loop-frame.rows in
    let row = c.index-rows-frame.result in
    let lt : c.loop-frame.frame < length now =
    omega (arith, c.loop-frame-test.true, c.loop-frame.auto.rows, c.loop-frame.auto.frame-end) in
    let within : c.loop-frame.frame < length (map cells now) = omega (arith, length-map now cells) in
    let is = item_seen cells now c.loop-frame.frame row lt c.index-rows-frame.is in
    subst (λ r. c.args.size ≤ length (cells r) + 1) c.index-rows-frame.is (near_here c.loop-frame.invariant (cells row) within is)

pub returns-in_err-make_room-clause-rows : goal.returns-in_err-make_room-clause-rows
returns-in_err-make_room-clause-rows g c =
    let cells = g.R.CellRow.cells in
    let now = c.loop-frame.rows in
    let row = c.index-rows-frame.result in
    let lt : c.loop-frame.frame < length now =
    omega (arith, c.loop-frame-test.true, c.loop-frame.auto.rows, c.loop-frame.auto.frame-end) in
    let within : c.loop-frame.frame < length (map cells now) = omega (arith, length-map now cells) in
    let is = item_seen cells now c.loop-frame.frame row lt c.index-rows-frame.is in
    let new = c.make_room.new.self in
    subst (AreLengthened (map cells c.args.rows.now)) (sym (map-set cells now c.loop-frame.frame new))
    (longer_rows c.loop-frame.invariant (cells row) within is (cells new)
    (subst (λ r. IsLengthened (cells r) (cells new)) (sym c.index-rows-frame.is) c.make_room.ensures.cells))

pub loop-frame-preserved : goal.loop-frame-preserved
loop-frame-preserved g c =
    let cells = g.R.CellRow.cells in
    let now = c.loop-frame.rows in
    let row = c.index-rows-frame.result in
    let lt : c.loop-frame.frame < length now =
    omega (arith, c.loop-frame-test.true, c.loop-frame.auto.rows, c.loop-frame.auto.frame-end) in
    let within : c.loop-frame.frame < length (map cells now) = omega (arith, length-map now cells) in
    let is = item_seen cells now c.loop-frame.frame row lt c.index-rows-frame.is in
    let new = c.make_room.new.self in
    subst (λ rows. Longer (map cells c.args.rows.now) rows c.args.size (c.loop-frame.frame + 1))
    (sym (map-set cells now c.loop-frame.frame new))
    (longer_set c.loop-frame.invariant (cells row) within is (cells new)
    (subst (λ r. IsLengthened (cells r) (cells new)) (sym c.index-rows-frame.is) c.make_room.ensures.cells) c.in_ok-make_room.ensures.ok)

pub returns-clause-ok : goal.returns-clause-ok
returns-clause-ok g c =
    let cells = g.R.CellRow.cells in
    all_items cells (λ row. c.args.size ≤ length row) c.loop-frame.rows
    (longer_all c.loop-frame.invariant
    (omega (arith, length-map c.loop-frame.rows cells, c.loop-frame-test.false, c.loop-frame.auto.rows, c.loop-frame.auto.frame-end)))
