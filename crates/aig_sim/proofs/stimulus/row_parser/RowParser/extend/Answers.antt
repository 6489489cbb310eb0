use Rattle.std.proofs.Common.{◌∙◌, sym}
use Rattle.std.proofs.lemmas.Bool.{false≢true}
use Rattle.aig_sim.proofs.LineLemmas.{keeps_wrong_pieces}
use Rattle.aig_sim.proofs.stimulus.row_parser.RowParser.extend.Goals as goal

pub returns-else-are_characters-clause-keeps : goal.returns-else-are_characters-clause-keeps
returns-else-are_characters-clause-keeps c =
    let v = c.args.self.now in
    λ line k. keeps_wrong_pieces v.width line v.shape v.values _ c.args.bytes.now
    (λ h. false≢true (sym c.if-are_characters.false ∙ c.are_characters.ensures.1 h)) k
