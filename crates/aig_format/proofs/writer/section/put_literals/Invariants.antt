use Rattle.std.proofs.Common.{take, Ok}
use Rattle.std.specs.List.{flat_map}
use Rattle.aig_bytes.specs.Gathered.{Gathers}
use Rattle.aig_format.specs.Spelling.{literal_line}
use Rattle.aig_format.proofs.writer.section.put_literals.Given as goal

abbrev pub invariant-loop-literal : goal.invariant-loop-literal
invariant-loop-literal g l =
    Gathers {T = Unit {0}} {E = Unit {0}} g.W.Write.written g.W.Write.failures l.initial.out l.out l.initial.block l.block
    (flat_map literal_line (take l.literal-index l.literals)) (Ok tt)
