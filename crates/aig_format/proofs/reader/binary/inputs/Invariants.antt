use Rattle.std.proofs.Common.{◌≡◌}
use Rattle.aig_base.specs.Renumbered.{evens}
use Rattle.aig_format.proofs.reader.binary.inputs.Given as goal

abbrev pub invariant-loop-i : goal.invariant-loop-i
invariant-loop-i l = l.all ≡ evens l.i
