use Rattle.std.proofs.Common.{false}
use Rattle.aig_prompt.specs.Folded.{AddsSpaces}
use Rattle.aig_prompt.proofs.fold.Folding.break_line.Given as goal

abbrev pub invariant-loop-space : goal.invariant-loop-space
invariant-loop-space l = AddsSpaces false l.fn.text.items l.text.items
