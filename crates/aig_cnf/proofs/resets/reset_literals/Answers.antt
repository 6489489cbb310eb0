use Rattle.aig_cnf.specs.Formula.{reset_literals}
use Rattle.aig_cnf.proofs.StartLemmas.{resets_more_at}
use Rattle.aig_cnf.proofs.resets.reset_literals.Goals as goal

pub loop-place-init : goal.loop-place-init
unfolding reset_literals
loop-place-init c = c.new-found.ensures.items

pub loop-place-preserved : goal.loop-place-preserved
loop-place-preserved c =
    resets_more_at c.args.latches.now c.args.first c.loop-place.place c.index-latches-place.result c.loop-place-test.true
    c.index-latches-place.is c.loop-place.invariant c.in_ok-push_reset.ensures
