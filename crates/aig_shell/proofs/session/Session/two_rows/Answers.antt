use Rattle.std.proofs.Common.{ℕ, List, [], ◌∷◌, ◌++◌, ap, ◌∙◌, arith}
use Rattle.aig_shell.proofs.tables.Columns.{columns_begin, columns_more, two_rows_are}
use Rattle.aig_shell.proofs.session.Session.two_rows.Goals as goal

pub loop-frame-init : goal.loop-frame-init
loop-frame-init c = λ are p h.
    columns_begin c.args.self.now.run.bench.pair p c.args.signal.now c.args.first c.new-above.result c.new-below.result
    c.new-above.ensures.none c.new-below.ensures.none

pub loop-frame-preserved : goal.loop-frame-preserved
loop-frame-preserved c = λ are p h.
    let texts = c.in_ok-fill.ensures c.args.signal.now are in
    columns_more c.args.self.now.run.bench.pair p c.args.signal.now c.args.first c.loop-frame.frame c.loop-frame.above
    c.loop-frame.below c.push.new.self c.push-in-loop-frame.new.self c.fill.new.cells.current.items c.fill.new.cells.was.items
    c.below.result.now c.loop-frame.auto.frame (c.loop-frame.invariant are p h) texts.current (texts.was p h) c.below.ensures
    (c.in_ok-push.ensures.pushed ∙ ap (λ (t : List ℕ). c.loop-frame.above ++ t ∷ []) c.as_slice.ensures.value)
    c.in_ok-push-2.ensures.pushed

pub returns : goal.returns
returns c = λ are p h.
    two_rows_are c.args.self.now.run.bench.pair p c.args.signal.now c.args.first c.loop-frame.frame c.args.end _ _
    (omega (arith, c.loop-frame-test.false, c.loop-frame.auto.frame-end, c.requires.order))
    (c.in_ok-name.ensures.items ∙ c.as_slice-text.ensures) (c.loop-frame.invariant are p h)
