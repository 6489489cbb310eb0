use Rattle.std.proofs.Common.{◌≡◌, ℕ, ◌<◌, Some, slice_get}
use Rattle.aig_parts.specs.declared.ternary.Tern.TheVariants.{One}
use Rattle.aig_bench.specs.BenchState.{HasValue}
use Rattle.aig_reduce.proofs.looks.are_one.Given as goal

abbrev pub invariant-loop-literal : goal.invariant-loop-literal
invariant-loop-literal g l =
    (q k : ℕ) → q < l.literal-index → slice_get l.bench.pair.circuit.constraints q ≡ Some k
    → HasValue l.bench.pair l.frame k One
