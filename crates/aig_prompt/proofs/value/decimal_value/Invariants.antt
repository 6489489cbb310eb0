use Rattle.std.proofs.Common.{◌≡◌, ◌++◌, List}
use Rattle.aig_parts.specs.declared.ternary.Tern.{Tern}
use Rattle.aig_prompt.specs.Value.{number_bits, numeral}
use Rattle.aig_prompt.specs.state.Gathered.{Gathers}
use Rattle.aig_prompt.proofs.value.decimal_value.Given as goal

abbrev pub invariant-loop-left : goal.invariant-loop-left
invariant-loop-left l = record {
  width : l.bits.width ≡ l.width;
  all : List Tern;
  gathered : Gathers all l.bits;
  number : all ++ number_bits l.left l.number ≡ number_bits 64 (numeral 10 l.digits);
}

abbrev pub decreases-loop-left : goal.decreases-loop-left
decreases-loop-left l = l.left
