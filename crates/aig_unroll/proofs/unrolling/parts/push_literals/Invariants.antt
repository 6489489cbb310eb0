use Rattle.std.proofs.Common.{◌≡◌, ◌++◌, map, take}
use Rattle.aig_unroll.specs.state.FrameTable.{literal_at}
use Rattle.aig_unroll.proofs.unrolling.parts.push_literals.Given as goal

abbrev pub invariant-loop-literal : goal.invariant-loop-literal
invariant-loop-literal l = l.to ≡ l.initial.to ++ map (literal_at l.plan l.frame) (take l.literal-index l.literals)
