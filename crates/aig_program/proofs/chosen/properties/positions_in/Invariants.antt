use Rattle.aig_command.specs.Position.{IsPositionIn}
use Rattle.aig_program.proofs.TextPositions.{AreFirst}
use Rattle.aig_program.proofs.chosen.properties.positions_in.Given as goal

abbrev pub invariant-loop-text : goal.invariant-loop-text
invariant-loop-text l = AreFirst (λ text. text.now) (IsPositionIn l.file l.fn.section) l.texts l.text-index l.positions.items
