use Rattle.std.proofs.Common.{◌∙◌}
use Rattle.aig_parts.specs.Literal.{variable}
use Rattle.aig_parts.specs.declared.latch.Latch.{Latch}
use Rattle.aig_cnf.specs.ReadFormula.{marked}
use Rattle.aig_cnf.proofs.PartLists.{picked_all, picked_more, picked_none}
use Rattle.aig_cnf.proofs.part.read_latches.Goals as goal

pub loop-latch-init : goal.loop-latch-init
loop-latch-init c = c.new-found.ensures.items ∙ picked_none (λ (x : Latch). marked c.args.marks.now (variable x.lit)) c.args.latches.now

pub loop-latch-preserved : goal.loop-latch-preserved
loop-latch-preserved c =
    picked_more (λ (x : Latch). marked c.args.marks.now (variable x.lit)) c.args.latches.now c.loop-latch.latch-index
    c.latch-item.result c.is_marked.result c.loop-latch-test.true c.latch-item.is c.is_marked.ensures c.loop-latch.invariant
    c.in_ok-push_marked.ensures

pub returns : goal.returns
returns c =
    c.from_vec.ensures
    ∙ picked_all (λ (x : Latch). marked c.args.marks.now (variable x.lit)) c.args.latches.now c.loop-latch.latch-index
    c.loop-latch-test.false c.loop-latch.invariant
