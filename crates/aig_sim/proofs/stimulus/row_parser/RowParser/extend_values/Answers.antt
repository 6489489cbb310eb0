use Rattle.std.proofs.Common.{◌≡◌, ◌+◌, ◌<◌, length, sym, ap, ◌∙◌, subst, arith, refl}
use Rattle.aig_sim.specs.declared.stimulus.row_parser.Shape.TheVariants.{Row}
use Rattle.aig_sim.specs.RowParser.{RowParser, KeepsLine}
use Rattle.aig_sim.proofs.LineLemmas.{keeps_long_pieces, keeps_more_pieces}
use Rattle.aig_sim.proofs.stimulus.row_parser.RowParser.extend_values.Goals as goal

pub returns-else-text-saturating_sub-clause-keeps : goal.returns-else-text-saturating_sub-clause-keeps
returns-else-text-saturating_sub-clause-keeps c =
    let v = c.args.self.now in
    let is_row : v.shape ≡ Row = ap (λ (l : RowParser). l.shape) (sym c.self.view_is) ∙ c.in-Row.is in
    let width : c.self.inside.width ≡ v.width = ap (λ (l : RowParser). l.width) c.self.view_is in
    let values : length c.self.inside.values.items
    ≡ length v.values = ap (λ (l : RowParser). length l.values) c.self.view_is in
    let past : v.width < length v.values + length c.args.text.now = omega arith in
    λ line k. keeps_long_pieces v.width line v.values c.args.text.now _ c.requires past
    (subst (λ s. KeepsLine v.width line s v.values) is_row k)

pub returns-in_default : goal.returns-in_default
returns-in_default c =
    let v = c.args.self.now in
    record {
      keeps = λ line k. keeps_more_pieces v.width line v.shape v.values c.args.text.now
          (λ h. c.in_default.not-Row (ap (λ (l : RowParser). l.shape) c.self.view_is ∙ h)) c.requires k;
      reserve = record { width = refl; room = omega arith; err = tt };
    }
