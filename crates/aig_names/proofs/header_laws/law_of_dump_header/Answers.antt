use Rattle.aig_names.proofs.HeaderNames.{header_names}
use Rattle.aig_names.proofs.NamePieces.{visible_piece, some_piece, no_keyword}
use Rattle.aig_names.proofs.header_laws.law_of_dump_header.Goals as goal

pub returns : goal.returns
returns c = record {
  names = header_names;
  visible = visible_piece;
  some_piece = some_piece;
  no_keyword = no_keyword;
}
