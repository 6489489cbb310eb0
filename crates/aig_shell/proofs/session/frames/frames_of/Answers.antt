use Rattle.std.proofs.Common.{◌+◌, inr, arith, sym, ◌∙◌}
use Rattle.std.proofs.lemmas.List.{take_rest}
use Rattle.aig_bytes.proofs.Results.{on_err}
use Rattle.aig_shell.proofs.words.Spans.{no_dash_frames, dash_frames, dash_joins, empty_span}
use Rattle.aig_shell.proofs.session.frames.frames_of.Goals as goal

pub returns-in_err-frame-clause-err : goal.returns-in_err-frame-clause-err
returns-in_err-frame-clause-err c =
    on_err c.from_residual.result (λ first last h. c.in_err-frame.ensures.err first
    (no_dash_frames c.args.word.now c.args.frames first last (omega (arith, c.ranges.frames.fits)) c.in_default.ensures.none h))

pub returns-in_err-first-clause-err : goal.returns-in_err-first-clause-err
returns-in_err-first-clause-err c =
    on_err c.from_residual-in_err-first.result (λ first last h. c.in_err-first.ensures.err first (
      (dash_frames c.args.word.now c.in-Some.at c.args.frames first last (omega (arith, c.ranges.frames.fits)) c.in-Some.ensures.some
          c.in-Some.ensures.before h).0,
      omega (arith, h.1, h.2),
    ))

pub returns-in_err-last-clause-err : goal.returns-in_err-last-clause-err
returns-in_err-last-clause-err c =
    on_err c.from_residual-in_err-last.result (λ first last h. c.in_err-last.ensures.err last (
      take_rest c.args.word.now (c.in-Some.at + 1) ∙ (dash_frames c.args.word.now c.in-Some.at c.args.frames first last (omega (arith, c.ranges.frames.fits))
          c.in-Some.ensures.some c.in-Some.ensures.before h).1,
      h.2,
    ))

pub returns-then-first-last-clause-err : goal.returns-then-first-last-clause-err
returns-then-first-last-clause-err c = λ first last h.
    let r = dash_frames c.args.word.now c.in-Some.at c.args.frames first last (omega (arith, c.ranges.frames.fits)) c.in-Some.ensures.some c.in-Some.ensures.before h in
    empty_span _ _ c.args.frames c.in_ok-first.first c.in_ok-last.last first last (omega (arith, c.ranges.frames.fits)) c.in_ok-first.ensures.ok c.in_ok-last.ensures.ok r.0 (take_rest c.args.word.now (c.in-Some.at + 1) ∙ r.1)
    h.1 h.2 c.if-first-last.true

pub returns-clause-ok : goal.returns-clause-ok
returns-clause-ok c = (
  inr (dash_joins c.args.word.now c.in-Some.at c.in_ok-first.first c.in_ok-last.last c.in-Some.ensures.some c.in_ok-first.ensures.ok.0
      (sym (take_rest c.args.word.now (c.in-Some.at + 1)) ∙ c.in_ok-last.ensures.ok.0)),
  omega (arith, c.if-first-last.false),
  c.in_ok-last.ensures.ok.1,
)
