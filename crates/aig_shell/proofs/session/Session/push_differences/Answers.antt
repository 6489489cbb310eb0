use Rattle.std.proofs.Common.{ℕ, List, Bor, option_map, codes, inl, refl, sym, ap, subst, ◌+◌, ◌-◌, ◌∙◌, arith, map}
use Rattle.std.specs.Prelude.{◌==◌}
use Rattle.aig_prompt.specs.Table.{row_of}
use Rattle.aig_prompt.specs.declared.table.Table.{Table}
use Rattle.aig_shell.specs.Answers.{some_shown}
use Rattle.aig_shell.proofs.tables.Differences.{signal_within}
use Rattle.aig_shell.proofs.tables.Differing.{AreRowsBefore, difference_shown, is_none, is_one, no_row, rows_begin}
use Rattle.aig_shell.proofs.tables.Differing.{rows_differ, rows_end, rows_same, some_found, some_row}
use Rattle.aig_shell.proofs.session.Session.push_differences.Goals.{then-is_some+in_ok-above+in_ok-push+in_ok-push-2}
use Rattle.aig_shell.proofs.session.Session.push_differences.Goals.{else-is_some}
use Rattle.aig_shell.proofs.session.Session.push_differences.Goals as goal

pub signal_literals-requires-clause-order : goal.signal_literals-requires-clause-order
signal_literals-requires-clause-order c =
    let there =
    signal_within c.args.self.now.run.bench.pair.circuit c.args.self.now.signals.items c.as_slice-signal-items.result.now
    c.loop-signal.signal-index c.signal-item.result c.as_slice-signal-items.ensures.value c.args.self.now.has_signals c.loop-signal-test.true
    c.signal-item.is in
    omega (arith, there.0)

pub signal_literals-requires-clause-within : goal.signal_literals-requires-clause-within
signal_literals-requires-clause-within c =
    let there =
    signal_within c.args.self.now.run.bench.pair.circuit c.args.self.now.signals.items c.as_slice-signal-items.result.now
    c.loop-signal.signal-index c.signal-item.result c.as_slice-signal-items.ensures.value c.args.self.now.has_signals c.loop-signal-test.true
    c.signal-item.is in
    there.1

pub loop-signal-init : goal.loop-signal-init
loop-signal-init c = record {
  first = c.new-table.ensures.first;
  frames = c.new-table.ensures.frames;
  rows = λ p h. rows_begin c.args.self.now.run.bench.pair p c.args.first c.args.end c.as_slice-signal-items.result.now
      c.new-table.result.rows.items c.new-table.ensures.rows;
}

pub loop-signal-preserved : goal.loop-signal-preserved
loop-signal-preserved c =
    let now = c.args.self.now.run.bench.pair in
    let items = c.as_slice-signal-items.result.now in
    let i = c.loop-signal.signal-index in
    let signal = c.signal-item.result in
    let before = c.loop-signal.invariant in
    let are = c.in_ok-literals.ensures.are in
    let lt = c.loop-signal-test.true in
    let is = c.signal-item.is in
    elim c.if-is_some.branch [
      | then-is_some+in_ok-above+in_ok-push+in_ok-push-2 w ↦
          let one = is_one c.in_ok-found.found c.is_some.result c.is_some.ensures w.if-is_some.true in
          record {
            first = ap (λ (t : Table). t.first) w.table-is ∙ before.first;
            frames = ap (λ (t : Table). t.frames) w.table-is ∙ before.frames;
            rows = λ p h. subst (AreRowsBefore now p c.args.first c.args.end items (i + 1))
                (sym (ap (λ (t : Table). t.rows.items) w.table-is))
                (rows_differ now p c.args.first c.args.end items i signal one.0 c.loop-signal.table.rows.items w.push.new.self.items
                w.push-then-is_some.new.self.items w.in_ok-above.above w.in_ok-above.below lt is
                (some_found _ c.in_ok-found.found one.0 one.1 c.in_ok-found.ensures.range)
                (some_found _ c.in_ok-found.found one.0 one.1 (c.in_ok-found.ensures.differs signal are p h))
                (w.in_ok-above.ensures are p h) w.in_ok-push.ensures.items w.in_ok-push-2.ensures.items (before.rows p h));
          }
      | else-is_some w ↦
          record {
            first = ap (λ (t : Table). t.first) w.table-is ∙ before.first;
            frames = ap (λ (t : Table). t.frames) w.table-is ∙ before.frames;
            rows = λ p h. subst (AreRowsBefore now p c.args.first c.args.end items (i + 1))
                (sym (ap (λ (t : Table). t.rows.items) w.table-is))
                (rows_same now p c.args.first c.args.end items i signal c.loop-signal.table.rows.items c.requires.order lt is
                (is_none c.in_ok-found.found c.is_some.result c.is_some.ensures w.if-is_some.false
                (c.in_ok-found.ensures.same signal are p h)) (before.rows p h));
          }
    ]

pub returns-then-is_empty : goal.returns-then-is_empty
returns-then-is_empty c = λ p h.
    let rows = c.loop-signal.table.rows.items in (
      codes "no difference\n",
      (
        map row_of rows,
        rows_end c.args.self.now.run.bench.pair p c.args.first c.args.end c.as_slice-signal-items.result.now c.loop-signal.signal-index rows
            (omega (arith, c.loop-signal-test.false)) (c.as_slice-signal-items.ensures.value ∙ c.args.self.now.has_signals)
            (c.loop-signal.invariant.rows p h),
        inl (
          no_row rows c.is_empty.result (c.is_empty.ensures ∙ ap (λ n. n == 0) c.loop-signal.table.rows.ok.0) c.if-is_empty.true,
          refl,
        ),
      ),
      c.in_ok-extend_from_slice.ensures.items,
    )

pub returns : goal.returns
returns c = λ p h.
    let rows = c.loop-signal.table.rows.items in
    difference_shown c.args.self.now.run.bench.pair p
    (some_shown (option_map (λ (w : Bor (List ℕ)). w.now) c.args.frames) c.args.count c.args.first (c.args.end - c.args.first))
    c.args.first (c.args.end - c.args.first) c.loop-signal.table.first
    c.loop-signal.table.frames (map row_of rows) c.push_text.result c.args.text.now.items c.push_frames.new.text.items
    c.push_text.new.text.items c.loop-signal.invariant.first c.loop-signal.invariant.frames
    (rows_end c.args.self.now.run.bench.pair p c.args.first c.args.end c.as_slice-signal-items.result.now c.loop-signal.signal-index rows
    (omega (arith, c.loop-signal-test.false)) (c.as_slice-signal-items.ensures.value ∙ c.args.self.now.has_signals)
    (c.loop-signal.invariant.rows p h)) (some_row rows c.is_empty.result (c.is_empty.ensures ∙ ap (λ n. n == 0) c.loop-signal.table.rows.ok.0) c.if-is_empty.false)
    c.in_ok-push_frames.ensures c.push_text.ensures
