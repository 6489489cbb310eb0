use Rattle.std.proofs.Common.{arith, refl, ◌∙◌, ◌<◌, ◌≤◌, ◌+◌, ◌*◌, length}
use Rattle.aig_parts.specs.Limits.{cell_limit, frame_limit}
use Rattle.aig_bench.proofs.renewals.Engines.{held}
use Rattle.aig_bench.proofs.renewals.Changed.{room_added, driven_added, current_added, laid_out_added}
use Rattle.aig_bench.proofs.edits.Edited.{work_for, before_first, added_current, added_touched, added_changed}
use Rattle.aig_bench.proofs.edits.Edited.{frames_more, lists_for}
use Rattle.aig_bench.proofs.bench.Bench.add_frame.Goals as goal

pub add_row-requires-clause-limit : goal.add_row-requires-clause-limit
add_row-requires-clause-limit g c =
    let k = held c.engine.invariant c.engine.view_is c.self.invariant in
    let driven = c.engine.inside.driven in
    let limit : (driven.circuit.max_var + 1) * (length driven.stimulus.rows + 1) ≤ cell_limit =
    rw (c.cells.ensures.count, c.frames-frames.ensures.frames) at c.if-cells-gt-CELLS.false in
    room_added driven _ _ k.working.work.laid_out limit

pub fill-requires-clause-next : goal.fill-requires-clause-next
fill-requires-clause-next g c =
    let k = held c.engine.invariant c.engine.view_is c.self.invariant in
    let driven = c.engine.inside.driven in
    let w = k.working.work in
    let limit : (driven.circuit.max_var + 1) * (length driven.stimulus.rows + 1) ≤ cell_limit =
    rw (c.cells.ensures.count, c.frames-frames.ensures.frames) at c.if-cells-gt-CELLS.false in
    let few : length driven.stimulus.rows < frame_limit = omega (arith, c.frames-frames.ensures.frames) in
    let wide = c.if-row-width.false ∙ c.width.ensures.width in
    let more = frames_more driven c.push.new.self c.args.row.now (g.G.Grid.cells c.engine.inside.grid)
    (g.G.Grid.cells c.engine.inside.grid) (g.G.Grid.cells c.engine.inside.grid) w.driven_is.circuit.sound
    k.working.bench.current c.in-Ok.ensures.ok in
    record {
      frame = omega (arith, more, c.frames-frames.ensures.frames);
      before = rw c.frames-frames.ensures.frames
          (before_first _ _ _ (current_added driven c.push.new.self c.args.row.now w.driven_is c.in-Ok.ensures.ok wide few limit _ _ _
          k.working.bench.current w.laid_out.rows_are.frames_are c.in_ok-add_row.ensures.ok));
    }

pub invariant_of-engine-2 : goal.invariant_of-engine-2
invariant_of-engine-2 g c =
    let k = held c.engine.invariant c.engine.view_is c.self.invariant in
    let driven = c.engine.inside.driven in
    let fanouts = c.engine.inside.fanouts in
    let pending = c.engine.inside.pending in
    let w = k.working.work in
    let limit : (driven.circuit.max_var + 1) * (length driven.stimulus.rows + 1) ≤ cell_limit =
    rw (c.cells.ensures.count, c.frames-frames.ensures.frames) at c.if-cells-gt-CELLS.false in
    let few : length driven.stimulus.rows < frame_limit = omega (arith, c.frames-frames.ensures.frames) in
    let wide = c.if-row-width.false ∙ c.width.ensures.width in
    record {
      work = work_for driven _ fanouts fanouts _ _ _ _ pending.buckets w k.working.empty refl
          (driven_added driven c.push.new.self c.args.row.now w.driven_is c.in-Ok.ensures.ok wide few limit)
          (laid_out_added driven c.push.new.self c.args.row.now _ _ _ _ w.laid_out c.in-Ok.ensures.ok c.in_ok-add_row.ensures.ok
          c.in_ok-add_row.ensures.gates)
          w.levels w.readers refl refl;
      lists = lists_for driven _ fanouts fanouts pending k.lists refl k.lists.readers;
      orders = c.in_ok-renew.ensures.orders;
    }

pub invariant_of-self-2 : goal.invariant_of-self-2
invariant_of-self-2 g c =
    let k = held c.engine.invariant c.engine.view_is c.self.invariant in
    let driven = c.engine.inside.driven in
    let w = k.working.work in
    let limit : (driven.circuit.max_var + 1) * (length driven.stimulus.rows + 1) ≤ cell_limit =
    rw (c.cells.ensures.count, c.frames-frames.ensures.frames) at c.if-cells-gt-CELLS.false in
    let few : length driven.stimulus.rows < frame_limit = omega (arith, c.frames-frames.ensures.frames) in
    let wide = c.if-row-width.false ∙ c.width.ensures.width in
    let t = c.frames-frames.ensures.frames in
    let now = rw t at c.fill.ensures.current in
    let others = rw t at c.fill.ensures.fills.others in
    let before = current_added driven c.push.new.self c.args.row.now w.driven_is c.in-Ok.ensures.ok wide few limit _ _ _
    k.working.bench.current w.laid_out.rows_are.frames_are c.in_ok-add_row.ensures.ok in
    rw c.fill.ensures.fills.same (record {
      current = added_current driven c.push.new.self c.args.row.now (g.G.Grid.cells c.engine.inside.grid) _ _ w.driven_is.circuit.sound
          k.working.bench.current c.in-Ok.ensures.ok now others before;
      idle = k.idle;
    })

pub returns-clause-works : goal.returns-clause-works
returns-clause-works g c =
    let k = held c.engine.invariant c.engine.view_is c.self.invariant in
    let driven = c.engine.inside.driven in
    let w = k.working.work in
    let cells = g.G.Grid.cells c.engine.inside.grid in
    let size = c.from-evaluated.ensures ∙ c.gate_count.ensures in
    rw (← c.self.view_is, ← c.engine.view_is) (
      added_touched driven c.push.new.self c.args.row.now cells cells cells w.driven_is.circuit.sound
          k.working.bench.current c.in-Ok.ensures.ok _ size,
      added_changed driven c.push.new.self c.args.row.now cells cells cells w.driven_is.circuit.sound
          k.working.bench.current c.in-Ok.ensures.ok,
      omega (arith, c.fill.ensures.fills.count, c.in_ok-add_row.ensures.count, c.add_row.ensures.count, size),
    )
