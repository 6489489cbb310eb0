use Rattle.std.proofs.Common.{◌≢◌, take, All}
use Rattle.aig_sim.proofs.witness.text.line_end.Given as goal

abbrev pub invariant-loop-place : goal.invariant-loop-place
invariant-loop-place l = All (λ b. b ≢ 10) (take l.place l.text)
