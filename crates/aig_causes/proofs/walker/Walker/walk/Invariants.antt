use Rattle.std.proofs.Common.{◌≡◌, ℕ, ◌+◌, length, Contains}
use Rattle.aig_parts.specs.Literal.{variable}
use Rattle.aig_causes.specs.Causes.{moment}
use Rattle.aig_causes.specs.state.Walk.{IsReached, IsWalk, IsWalker, steps_left, walk_of}
use Rattle.aig_causes.proofs.walker.Walker.walk.Given as goal

abbrev pub invariant-loop-variable : goal.invariant-loop-variable
invariant-loop-variable g l = record {
  walker : IsWalker l.self;
  size : length l.self.visited.marks.items ≡ l.bench.pair.circuit.max_var + 1;
  walk : IsWalk l.bench.pair.circuit (moment l.bench.pair l.frame) (walk_of l.self);
  reached : (k : ℕ) → Contains l.literals k → IsReached (walk_of l.self) (variable k);
}

abbrev pub decreases-loop-variable : goal.decreases-loop-variable
decreases-loop-variable g l = steps_left (walk_of l.self)
