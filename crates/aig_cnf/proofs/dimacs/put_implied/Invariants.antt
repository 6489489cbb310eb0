use Rattle.std.proofs.Common.{take, Ok}
use Rattle.std.specs.List.{flat_map}
use Rattle.aig_bytes.specs.Gathered.{Gathers}
use Rattle.aig_cnf.proofs.FormulaText.{implied_text}
use Rattle.aig_cnf.proofs.dimacs.put_implied.Given as goal

abbrev pub invariant-loop-other : goal.invariant-loop-other
invariant-loop-other g l =
    Gathers {T = Unit {0}} {E = Unit {0}} g.W.Write.written g.W.Write.failures l.initial.out l.out l.initial.block l.block
    (flat_map (implied_text l.literal) (take l.other-index l.implied)) (Ok tt)
