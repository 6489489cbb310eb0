use Rattle.std.proofs.Common.{◌≡◌, take}
use Rattle.std.specs.Prelude.{min, fold}
use Rattle.aig_signals.proofs.bits.least_index.Given as goal

abbrev pub invariant-loop-bit : goal.invariant-loop-bit
invariant-loop-bit l = l.least ≡ fold (λ n b. min n b.index) l.fn.first.index (take l.bit-index l.more)
