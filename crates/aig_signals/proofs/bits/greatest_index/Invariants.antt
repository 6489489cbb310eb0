use Rattle.std.proofs.Common.{◌≡◌, take}
use Rattle.std.specs.Prelude.{max, fold}
use Rattle.aig_signals.proofs.bits.greatest_index.Given as goal

abbrev pub invariant-loop-bit : goal.invariant-loop-bit
invariant-loop-bit l = l.greatest ≡ fold (λ n b. max n b.index) l.fn.first.index (take l.bit-index l.more)
