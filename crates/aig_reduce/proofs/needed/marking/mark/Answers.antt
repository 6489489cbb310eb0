use Rattle.std.proofs.Common.{inl, inr, ◌∙◌}
use Rattle.std.proofs.lemmas.Bool.{cases_eq}
use Rattle.aig_reduce.proofs.NeededLemmas.{marked_then}
use Rattle.aig_reduce.proofs.needed.marking.mark.Goals as goal

pub returns-then-place-len : goal.returns-then-place-len
returns-then-place-len c = λ u m. elim (cases_eq u c.var-place.result) [
  | inl e ↦ inr (e ∙ c.var-place.ensures)
  | inr other ↦ inl (marked_then c.args.marks.now.items c.var-place.result u m other)
]

pub returns-else-place-len : goal.returns-else-place-len
returns-else-place-len c = λ u m. inl m
