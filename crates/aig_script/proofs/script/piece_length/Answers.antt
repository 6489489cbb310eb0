use Rattle.std.proofs.Common.{ℕ, arith}
use Rattle.std.proofs.lemmas.List.{length-take}
use Rattle.aig_script.proofs.Pieces.{near_end, near_piece}
use Rattle.aig_script.proofs.script.piece_length.Goals as goal

pub slice_bounds-line_length-end : goal.slice_bounds-line_length-end
slice_bounds-line_length-end c = omega (arith, length-take {A = ℕ} 32 c.args.bytes.now)

pub returns-then-near-lt-NEAR-clause-no_end : goal.returns-then-near-lt-NEAR-clause-no_end
returns-then-near-lt-NEAR-clause-no_end c =
    near_piece c.args.bytes.now 32 c.line_length-near.result c.if-near-lt-NEAR.true c.line_length-near.ensures.no_end

pub returns-then-near-lt-NEAR-clause-ended : goal.returns-then-near-lt-NEAR-clause-ended
returns-then-near-lt-NEAR-clause-ended c = λ lt.
    near_end c.args.bytes.now 32 c.line_length-near.result (omega arith) c.if-near-lt-NEAR.true
    (c.line_length-near.ensures.ended (omega (arith, c.if-near-lt-NEAR.true, length-take {A = ℕ} 32 c.args.bytes.now)))
