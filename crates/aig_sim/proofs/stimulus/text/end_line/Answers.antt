use Rattle.std.proofs.Common.{length, ap, ◌∙◌, arith}
use Rattle.aig_sim.proofs.LineLemmas.{limit_is_passed}
use Rattle.aig_sim.proofs.stimulus.text.end_line.Goals as goal

pub returns-then-frames-eq-FRAMES-clause-fault : goal.returns-then-frames-eq-FRAMES-clause-fault
returns-then-frames-eq-FRAMES-clause-fault c =
    let v = c.args.line.now in
    let (is_row, values_are, len) = c.in_ok-row.ensures.row in
    λ _ bytes rest. limit_is_passed v.width _ bytes rest v.shape v.values is_row (ap length values_are ∙ len)
    (omega arith)
