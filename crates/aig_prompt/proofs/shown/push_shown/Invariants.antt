use Rattle.std.proofs.Common.{◌≡◌, ◌++◌, take}
use Rattle.aig_prompt.specs.Shown.{escaped}
use Rattle.aig_prompt.proofs.shown.push_shown.Given as goal

abbrev pub invariant-loop-byte : goal.invariant-loop-byte
invariant-loop-byte l = l.text.items ≡ l.fn.text.items ++ escaped (take l.byte-index l.bytes)
