use Rattle.std.proofs.Common.{ℕ, ◌∙◌}
use Rattle.aig_parts.specs.Literal.{variable}
use Rattle.aig_cnf.specs.ReadFormula.{marked}
use Rattle.aig_cnf.proofs.PartLists.{picked_all, picked_more, picked_none}
use Rattle.aig_cnf.proofs.part.read_inputs.Goals as goal

pub loop-input-init : goal.loop-input-init
loop-input-init c = c.new-found.ensures.items ∙ picked_none (λ (x : ℕ). marked c.args.marks.now (variable x)) c.args.inputs.now

pub loop-input-preserved : goal.loop-input-preserved
loop-input-preserved c =
    picked_more (λ (x : ℕ). marked c.args.marks.now (variable x)) c.args.inputs.now c.loop-input.input-index
    c.input-item.result c.is_marked.result c.loop-input-test.true c.input-item.is c.is_marked.ensures c.loop-input.invariant
    c.in_ok-push_marked.ensures

pub returns : goal.returns
returns c =
    c.from_vec.ensures
    ∙ picked_all (λ (x : ℕ). marked c.args.marks.now (variable x)) c.args.inputs.now c.loop-input.input-index
    c.loop-input-test.false c.loop-input.invariant
