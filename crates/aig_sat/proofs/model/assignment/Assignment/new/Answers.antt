use Rattle.aig_sat.proofs.models.NamedLemmas.{none_named}
use Rattle.aig_sat.proofs.model.assignment.Assignment.new.Goals as goal

pub returns : goal.returns
returns c = record { named = none_named c.args.variables _ (c.in_ok-values.ensures.items_if_clones_equal (λ y e. e)) }
