use Rattle.std.proofs.Common.{take, Ok}
use Rattle.std.specs.List.{flat_map}
use Rattle.aig_bytes.specs.Bytes.{Writes}
use Rattle.aig_commands.specs.Info.{fact_number_line}
use Rattle.aig_commands.proofs.info.write_numbers.Given as goal

abbrev pub invariant-loop-name : goal.invariant-loop-name
invariant-loop-name g l =
    Writes {T = Unit {0}} {E = Unit {0}} g.W.Write.written g.W.Write.failures l.initial.out l.out
    (flat_map (λ n. fact_number_line n.0.now n.1) (take l.name-index l.numbers)) (Ok tt)
