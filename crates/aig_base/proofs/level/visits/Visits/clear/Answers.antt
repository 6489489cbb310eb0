use Rattle.aig_base.proofs.rewires.VisitLemmas.{listed_within}
use Rattle.aig_base.proofs.level.visits.Visits.clear.Goals as goal

pub unmark-requires-clause-within : goal.unmark-requires-clause-within
unmark-requires-clause-within c =
    rw (c.deref.ensures.value, c.deref_mut.ensures.value) (listed_within c.args.self.now c.requires.visits)
