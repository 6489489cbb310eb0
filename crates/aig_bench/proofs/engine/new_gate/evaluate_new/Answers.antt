use Rattle.aig_bench.proofs.engine.new_gate.evaluate_new.Goals as goal

pub evaluate-requires-clause-gate : goal.evaluate-requires-clause-gate
evaluate-requires-clause-gate g c = rw c.loop-frame.invariant.flags c.requires
