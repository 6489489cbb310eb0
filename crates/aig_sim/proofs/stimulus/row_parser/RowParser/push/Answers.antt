use Rattle.std.proofs.Common.{◌≡◌, ◌≤◌, length, sym, ap, ◌∙◌, subst, arith, refl}
use Rattle.aig_sim.specs.declared.stimulus.row_parser.Shape.TheVariants.{Row}
use Rattle.aig_sim.specs.RowParser.{RowParser, KeepsLine}
use Rattle.aig_sim.proofs.LineLemmas.{keeps_long, keeps_more}
use Rattle.aig_sim.proofs.stimulus.row_parser.RowParser.push.Goals as goal

pub returns-else-len-self-clause-keeps : goal.returns-else-len-self-clause-keeps
returns-else-len-self-clause-keeps c =
    let v = c.args.self.now in
    let is_row : v.shape ≡ Row = ap (λ (l : RowParser). l.shape) (sym c.self.view_is) ∙ c.in-Row.is in
    let width : c.self.inside.width ≡ v.width = ap (λ (l : RowParser). l.width) c.self.view_is in
    let values : length c.self.inside.values.items
    ≡ length v.values = ap (λ (l : RowParser). length l.values) c.self.view_is in
    let full : v.width ≤ length v.values = omega arith in
    λ line k. rw c.in-Some.ensures.some
    (keeps_long v.width line v.values c.in-Some.value _ full (subst (λ s. KeepsLine v.width line s v.values) is_row k))

pub returns-in_default : goal.returns-in_default
returns-in_default c =
    let v = c.args.self.now in
    record {
      width = refl;
      keeps = λ line k. rw c.in-Some.ensures.some
          (keeps_more v.width line v.shape v.values c.in-Some.value
          (λ h. c.in_default.not-Row (ap (λ (l : RowParser). l.shape) c.self.view_is ∙ h)) k);
      err = tt;
      room = omega arith;
    }
