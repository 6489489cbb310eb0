use Rattle.std.proofs.Common.{take, Ok}
use Rattle.std.specs.List.{flat_map}
use Rattle.std.specs.Prelude.{decimal}
use Rattle.aig_bytes.specs.Bytes.{Writes}
use Rattle.aig_signals.specs.Json.{comma_before}
use Rattle.aig_signals.proofs.json.names.write_more.Given as goal

abbrev pub invariant-loop-number : goal.invariant-loop-number
invariant-loop-number g l =
    Writes {T = Unit {0}} {E = Unit {0}} g.W.Write.written g.W.Write.failures l.initial.out l.out
    (flat_map (λ n. comma_before (decimal n)) (take l.number-index l.numbers)) (Ok tt)
