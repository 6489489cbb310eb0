use Rattle.std.proofs.Common.{take, Ok}
use Rattle.std.specs.List.{flat_map}
use Rattle.aig_bytes.specs.Bytes.{Writes}
use Rattle.aig_signals.specs.Json.{string_byte}
use Rattle.aig_signals.proofs.json.names.write_bytes.Given as goal

abbrev pub invariant-loop-byte : goal.invariant-loop-byte
invariant-loop-byte g l =
    Writes {T = Unit {0}} {E = Unit {0}} g.W.Write.written g.W.Write.failures l.initial.out l.out
    (flat_map string_byte (take l.byte-index l.bytes)) (Ok tt)
