use Rattle.std.proofs.Common.{◌≡◌, ◌++◌, take}
use Rattle.aig_shell.specs.Pieces.{pieces_text}
use Rattle.aig_shell.proofs.pieces.push_pieces.Given as goal

abbrev pub invariant-loop-piece : goal.invariant-loop-piece
invariant-loop-piece l = l.text.items ≡ l.initial.text.items ++ pieces_text (take l.piece-index l.pieces)
