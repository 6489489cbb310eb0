use Rattle.std.proofs.Common.{◌+◌, arith}
use Rattle.std.proofs.lemmas.List.{take_rest}
use Rattle.aig_shell.proofs.explained.Explained.{lines_added, lines_more, no_lines}
use Rattle.aig_shell.proofs.answers.explain.push_lines.Goals as goal

pub loop-line-init : goal.loop-line-init
loop-line-init c = record { added = no_lines c.args.lines.now c.args.text.now.items; most = omega arith }

pub returns-in_default : goal.returns-in_default
returns-in_default c =
    lines_added c.args.lines.now c.loop-line.rest.now c.args.text.now.items c.loop-line.text.items c.loop-line._line
    c.loop-line.invariant.added c.loop-line.invariant.most (λ lt. c.in_default.ensures.none)

pub loop-line-preserved : goal.loop-line-preserved
loop-line-preserved c = record {
  added = lines_more c.args.lines.now c.loop-line.rest.now _ c.args.text.now.items _ _ c.loop-line._line c.in-Some.end
      c.in-Some.ensures.some c.in-Some.ensures.before (take_rest c.loop-line.rest.now (c.in-Some.end + 1)) c.loop-line.invariant.added
      c.in_ok-push_folded.ensures;
  most = omega (arith, c.loop-line-test.true);
}

pub returns : goal.returns
returns c =
    lines_added c.args.lines.now c.loop-line.rest.now c.args.text.now.items c.loop-line.text.items c.loop-line._line
    c.loop-line.invariant.added c.loop-line.invariant.most (λ lt. absurd (omega (arith, c.loop-line-test.false, lt)))
