use Rattle.std.proofs.Common.{◌≡◌, take}
use Rattle.std.specs.String.{string_bytes}
use Rattle.aig_files.specs.Shown.{ArePrintable, escaped}
use Rattle.aig_files.proofs.escape.escaped.Given as goal

abbrev pub invariant-loop-byte : goal.invariant-loop-byte
invariant-loop-byte l =
    (string_bytes l.shown ≡ escaped (take l.byte-index l.text)) × ArePrintable (string_bytes l.shown)
