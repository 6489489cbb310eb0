use Rattle.std.proofs.Common.{inl, inr, ◌∙◌}
use Rattle.aig_reduce.proofs.NeededLemmas.{none_listed}
use Rattle.aig_reduce.proofs.spread.Spread.begin.Goals as goal

pub returns : goal.returns
returns c = λ u listed. elim (c.meet.ensures u listed) [
  | inl before ↦ absurd (none_listed c.clear.new.self.items u c.clear.ensures.items before)
  | inr e ↦ e ∙ c.var.ensures
]
