use Rattle.std.proofs.Common.{List, [], ap, arith, sym, ◌∙◌}
use Rattle.std.proofs.lemmas.Bool.{false≢true}
use Rattle.std.proofs.lemmas.List.{take_more_same}
use Rattle.aig_parts.specs.declared.ternary.Tern.{Tern}
use Rattle.aig_values.specs.InputRows.{row_at}
use Rattle.aig_shell.proofs.session.run_kept.are_same.Goals as goal

pub loop-frame-preserved : goal.loop-frame-preserved
loop-frame-preserved c =
    take_more_same c.args.one.now.rows c.args.other.now.rows c.loop-frame.frame []
    (omega (arith, c.loop-frame-test.true, c.frames-frame-end.ensures.frames))
    (omega (arith, c.loop-frame-test.true, c.frames-frame-end.ensures.frames, c.if-frames.false, c.frames.ensures.frames, c.frames-2.ensures.frames))
    c.loop-frame.invariant
    (sym c.row-given.ensures ∙ c.are_same_values.ensures.0 c.if-not-are_same_values.false ∙ c.row-wanted.ensures)

pub returns-then-not-are_same_values : goal.returns-then-not-are_same_values
returns-then-not-are_same_values c = (
  λ h. absurd (false≢true h),
  λ e. absurd (false≢true (sym c.if-not-are_same_values.true
      ∙ c.are_same_values.ensures.1 (c.row-given.ensures
      ∙ ap (λ (rows : List (List Tern)). row_at rows c.loop-frame.frame) e ∙ sym c.row-wanted.ensures))),
)
