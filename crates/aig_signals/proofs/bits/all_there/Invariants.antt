use Rattle.std.proofs.Common.{◌≡◌, ◌++◌, drop}
use Rattle.std.specs.Prelude.{option_map}
use Rattle.aig_signals.specs.Bits.{all_there}
use Rattle.aig_signals.proofs.bits.all_there.Given as goal

abbrev pub invariant-loop-literal : goal.invariant-loop-literal
invariant-loop-literal l =
    option_map (λ ys. l.literals ++ ys) (all_there (drop l.literal-index l.table)) ≡ all_there l.table
