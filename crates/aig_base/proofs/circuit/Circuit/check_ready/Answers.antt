use Rattle.aig_base.proofs.circuits.InOrder.{smaller_sides}
use Rattle.aig_base.proofs.circuit.Circuit.check_ready.Goals as goal

pub test_ascending-requires-clause-smaller : goal.test_ascending-requires-clause-smaller
test_ascending-requires-clause-smaller c = smaller_sides c.args.raw c.requires.ready.in_order c.requires.ready.gates
