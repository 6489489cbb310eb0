use Rattle.std.proofs.Common.{◌∙◌}
use Rattle.aig_parts.specs.Literal.{variable}
use Rattle.aig_parts.specs.declared.gate.Gate.{Gate}
use Rattle.aig_cnf.specs.ReadFormula.{marked}
use Rattle.aig_cnf.proofs.PartLists.{picked_all, picked_more, picked_none}
use Rattle.aig_cnf.proofs.part.read_gates.Goals as goal

pub loop-gate-init : goal.loop-gate-init
loop-gate-init c = c.new-found.ensures.items ∙ picked_none (λ (x : Gate). marked c.args.marks.now (variable x.lhs)) c.args.gates.now

pub loop-gate-preserved : goal.loop-gate-preserved
loop-gate-preserved c =
    picked_more (λ (x : Gate). marked c.args.marks.now (variable x.lhs)) c.args.gates.now c.loop-gate.gate-index
    c.gate-item.result c.is_marked.result c.loop-gate-test.true c.gate-item.is c.is_marked.ensures c.loop-gate.invariant
    c.in_ok-push_marked.ensures

pub returns : goal.returns
returns c =
    c.from_vec.ensures
    ∙ picked_all (λ (x : Gate). marked c.args.marks.now (variable x.lhs)) c.args.gates.now c.loop-gate.gate-index
    c.loop-gate-test.false c.loop-gate.invariant
