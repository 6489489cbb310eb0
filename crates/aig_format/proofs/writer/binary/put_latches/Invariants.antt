use Rattle.std.proofs.Common.{take, Ok}
use Rattle.std.specs.List.{flat_map}
use Rattle.aig_bytes.specs.Gathered.{Gathers}
use Rattle.std.proofs.Common.{false}
use Rattle.aig_format.specs.Spelling.{implicit_latch_line}
use Rattle.aig_format.proofs.writer.binary.put_latches.Given as goal

abbrev pub invariant-loop-latch : goal.invariant-loop-latch
invariant-loop-latch g l =
    Gathers {T = Unit {0}} {E = Unit {0}} g.W.Write.written g.W.Write.failures l.initial.out l.out l.initial.block l.block
    (flat_map (implicit_latch_line false) (take l.latch-index l.latches)) (Ok tt)
