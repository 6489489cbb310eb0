use Rattle.std.proofs.Common.{take, Ok}
use Rattle.std.specs.List.{flat_map}
use Rattle.aig_bytes.specs.Gathered.{Gathers}
use Rattle.aig_cnf.proofs.FormulaText.{implies_text}
use Rattle.aig_cnf.proofs.dimacs.put_starts.Given as goal

abbrev pub invariant-loop-bad : goal.invariant-loop-bad
invariant-loop-bad g l =
    Gathers {T = Unit {0}} {E = Unit {0}} g.W.Write.written g.W.Write.failures l.initial.out l.out l.initial.block l.block
    (flat_map (implies_text l.starts) (take l.bad-index l.earlier)) (Ok tt)
