use Rattle.std.proofs.Common.{◌≡◌, [], ◌∷◌, ◌++◌, take}
use Rattle.std.specs.Prelude.{flat_map}
use Rattle.aig_signals.specs.Json.{string_byte}
use Rattle.aig_signals.proofs.json.push_string.Given as goal

abbrev pub invariant-loop-byte : goal.invariant-loop-byte
invariant-loop-byte l =
    l.text.items ≡ (l.fn.text.items ++ 34 ∷ []) ++ flat_map string_byte (take l.byte-index l.bytes)
