use Rattle.std.proofs.Common.{take, Ok}
use Rattle.std.specs.List.{flat_map}
use Rattle.aig_bytes.specs.Gathered.{Gathers}
use Rattle.aig_cnf.specs.Dimacs.{gate_text}
use Rattle.aig_cnf.proofs.dimacs.put_gates.Given as goal

abbrev pub invariant-loop-gate : goal.invariant-loop-gate
invariant-loop-gate g l =
    Gathers {T = Unit {0}} {E = Unit {0}} g.W.Write.written g.W.Write.failures l.initial.out l.out l.initial.block l.block
    (flat_map gate_text (take l.gate-index l.gates)) (Ok tt)
