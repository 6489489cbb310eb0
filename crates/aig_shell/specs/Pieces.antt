-- Texts in pieces.
use Rattle.std.specs.Prelude.{ℕ, List, decimal}
use Rattle.std.specs.List.{flat_map}
use Rattle.aig_prompt.specs.Shown.{escaped}
use Rattle.aig_shell.specs.declared.pieces.Piece.{Piece}
use Rattle.aig_shell.specs.declared.pieces.Piece.TheVariants as pieces

abbrev pub piece_text : Piece → List ℕ
piece_text (pieces.Text bytes) = bytes.now
piece_text (pieces.Number n) = decimal n
piece_text (pieces.Shown word) = escaped word.now

-- one after the other
abbrev pub pieces_text : List Piece → List ℕ
pieces_text line = flat_map piece_text line
