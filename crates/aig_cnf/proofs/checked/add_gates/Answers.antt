use Rattle.std.proofs.Common.{ap}
use Rattle.aig_cnf.specs.Formula.{gate_clauses}
use Rattle.aig_cnf.proofs.AddedLemmas.{adds_none, adds_more, adds_same, adds_some}
use Rattle.aig_cnf.proofs.NumberedLemmas.{err_on_ok, numbers_all, numbers_more, numbers_none, numbers_same}
use Rattle.aig_cnf.proofs.checked.add_gates.Goals as goal

pub loop-gate-init : goal.loop-gate-init
loop-gate-init c = (adds_none _, numbers_none _)

pub loop-gate-preserved : goal.loop-gate-preserved
loop-gate-preserved c = (
  adds_more gate_clauses c.args.gates.now c.loop-gate.gate-index c.gate-item.result c.loop-gate.invariant.0 c.loop-gate-test.true
      (adds_same c.in_ok-add_gate.ensures.adds (ap gate_clauses c.gate-item.is)),
  numbers_more gate_clauses c.args.gates.now c.loop-gate.gate-index c.gate-item.result c.loop-gate.invariant.1
      c.loop-gate-test.true (numbers_same c.in_ok-add_gate.ensures.numbered (ap gate_clauses c.gate-item.is)),
)

pub returns-in_err-add_gate-clause-adds : goal.returns-in_err-add_gate-clause-adds
returns-in_err-add_gate-clause-adds c =
    adds_some gate_clauses c.args.gates.now _
    (adds_more gate_clauses c.args.gates.now c.loop-gate.gate-index c.gate-item.result c.loop-gate.invariant.0 c.loop-gate-test.true
    (adds_same c.in_err-add_gate.ensures.adds (ap gate_clauses c.gate-item.is)))

pub returns-clause-adds : goal.returns-clause-adds
returns-clause-adds c = adds_some gate_clauses c.args.gates.now _ c.loop-gate.invariant.0

pub returns-in_err-add_gate-clause-numbered : goal.returns-in_err-add_gate-clause-numbered
returns-in_err-add_gate-clause-numbered c = err_on_ok c.from_residual.result _ _ c.from_residual.ensures.1

pub returns-clause-numbered : goal.returns-clause-numbered
returns-clause-numbered c = numbers_all gate_clauses c.args.gates.now _ c.loop-gate-test.false c.loop-gate.invariant.1
