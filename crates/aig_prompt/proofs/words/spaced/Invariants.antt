use Rattle.std.proofs.Common.{◌≡◌, map, take}
use Rattle.aig_prompt.specs.Words.{spaced_byte}
use Rattle.aig_prompt.proofs.words.spaced.Given as goal

abbrev pub invariant-loop-byte : goal.invariant-loop-byte
invariant-loop-byte l = l.copy.items ≡ map spaced_byte (take l.byte-index l.line)
