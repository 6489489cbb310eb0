use Rattle.std.proofs.Common.{ap}
use Rattle.aig_cnf.specs.Dimacs.{gate_text}
use Rattle.aig_bytes.proofs.GatherLemmas.{piece_failed, piece_more, gathers_same}
use Rattle.aig_cnf.proofs.dimacs.put_gates.Goals as goal

pub returns-in_err-put_gate : goal.returns-in_err-put_gate
returns-in_err-put_gate g c =
    piece_failed gate_text c.args.gates.now c.loop-gate.gate-index c.gate-item.result c.loop-gate.invariant c.loop-gate-test.true
    (gathers_same c.in_err-put_gate.ensures (ap gate_text c.gate-item.is)) c.from_residual.ensures.0

pub loop-gate-preserved : goal.loop-gate-preserved
loop-gate-preserved g c =
    piece_more gate_text c.args.gates.now c.loop-gate.gate-index c.gate-item.result c.loop-gate.invariant c.loop-gate-test.true
    (gathers_same c.in_ok-put_gate.ensures (ap gate_text c.gate-item.is))
