use Rattle.aig_reduce.proofs.needed.kept.all_x.Goals as goal

pub returns : goal.returns
returns c = c.in_ok-values.ensures.items_if_clones_equal (λ y e. e)
