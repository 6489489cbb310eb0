use Rattle.aig_names.specs.Names.{identifier_code}
use Rattle.aig_values.proofs.GatherLemmas.{Partly}
use Rattle.aig_sim.proofs.dumps.text.put_code.Given as goal

abbrev pub invariant-loop-rest : goal.invariant-loop-rest
invariant-loop-rest g l =
    Partly g.W.Write.written g.W.Write.failures l.fn.out l.out l.fn.block l.block (identifier_code l.signal)
    (identifier_code l.rest)

abbrev pub decreases-loop-rest : goal.decreases-loop-rest
decreases-loop-rest g l = l.rest
