use Rattle.std.proofs.Common.{◌≡◌, slice_index, ap, arith}
use Rattle.std.proofs.lemmas.Grind.{common_steps}
use Rattle.aig_bytes.proofs.GatherLemmas.{gathers_then, gathers_stop, gathers_failed, gathers_ok, gathers_same}
use Rattle.aig_cnf.specs.CnfText.{goal_line}
use Rattle.aig_cnf.proofs.FormulaText.{frames_more, frames_rest}
use Rattle.aig_cnf.proofs.dimacs.put_goal_lines.Goals as goal

pub returns-in_err-put_goal_line : goal.returns-in_err-put_goal_line
returns-in_err-put_goal_line g c =
    let h = c.from_residual.ensures.0 in
    let t = c.loop-frame.frame in
    let here : c.index-goals-frame.result ≡ slice_index c.args.goals.now t = grind (arith, common_steps) in
    let (rest, e) = frames_rest (λ s. goal_line (slice_index c.args.goals.now s) s) t _ c.loop-frame-test.true in
    gathers_same (gathers_stop rest h (gathers_then c.loop-frame.invariant (gathers_failed
    (gathers_same c.in_err-put_goal_line.ensures (ap (λ l. goal_line l t) here)) h))) e

pub loop-frame-preserved : goal.loop-frame-preserved
loop-frame-preserved g c =
    let t = c.loop-frame.frame in
    let here : c.index-goals-frame.result ≡ slice_index c.args.goals.now t = grind (arith, common_steps) in
    gathers_same (gathers_ok (gathers_then c.loop-frame.invariant
    (gathers_same c.in_ok-put_goal_line.ensures (ap (λ l. goal_line l t) here))))
    (frames_more (λ s. goal_line (slice_index c.args.goals.now s) s) t)
