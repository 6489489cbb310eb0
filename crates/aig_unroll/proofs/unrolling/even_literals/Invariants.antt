use Rattle.std.proofs.Common.{◌≡◌}
use Rattle.aig_base.specs.Renumbered.{evens}
use Rattle.aig_unroll.proofs.unrolling.even_literals.Given as goal

abbrev pub invariant-loop-variable : goal.invariant-loop-variable
invariant-loop-variable l = l.new ≡ evens l.variable
