use Rattle.std.proofs.Common.{drop}
use Rattle.aig_sim.specs.Dump.{changed_lines}
use Rattle.aig_values.proofs.GatherLemmas.{Partly}
use Rattle.aig_sim.proofs.dumps.text.put_changes.Given as goal

abbrev pub invariant-loop-signal : goal.invariant-loop-signal
invariant-loop-signal g l =
    Partly g.W.Write.written g.W.Write.failures l.initial.out l.out l.initial.block l.block (changed_lines 0 l.before l.after)
    (changed_lines l.signal (drop l.signal l.before) (drop l.signal l.after))
