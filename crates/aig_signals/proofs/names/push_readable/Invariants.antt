use Rattle.std.proofs.Common.{◌≡◌, ◌++◌, take}
use Rattle.aig_signals.specs.Names.{readable}
use Rattle.aig_signals.proofs.names.push_readable.Given as goal

abbrev pub invariant-loop-byte : goal.invariant-loop-byte
invariant-loop-byte l = l.text.items ≡ l.fn.text.items ++ readable (take l.byte-index l.word)
