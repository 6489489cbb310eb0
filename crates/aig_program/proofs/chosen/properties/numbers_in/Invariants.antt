use Rattle.aig_signals.specs.Property.{IsNumbered}
use Rattle.aig_program.proofs.TextPositions.{AreFirst}
use Rattle.aig_program.proofs.chosen.properties.numbers_in.Given as goal

abbrev pub invariant-loop-text : goal.invariant-loop-text
invariant-loop-text l = AreFirst (λ text. text.now) (IsNumbered l.section) l.texts l.text-index l.positions.items
