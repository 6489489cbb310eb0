use Rattle.std.proofs.Common.{◌≡◌, length, sym, ap, ◌∙◌, arith}
use Rattle.aig_sim.specs.declared.stimulus.row_parser.Shape.TheVariants.{Row, Long}
use Rattle.aig_sim.specs.RowParser.{RowParser}
use Rattle.aig_sim.proofs.LineLemmas.{length_is_wrong}
use Rattle.aig_sim.proofs.stimulus.row_parser.RowParser.row.Goals as goal
use Rattle.aig_sim.proofs.stimulus.row_parser.RowParser.row.Goals.{in_default-via-in-Row+else-len-self}
use Rattle.aig_sim.proofs.stimulus.row_parser.RowParser.row.Goals.{in_default-via-in_default}

pub returns-in_default-clause-fault : goal.returns-in_default-clause-fault
returns-in_default-clause-fault c =
    let v = c.args.self.now in
    elim c.in_default.branch [
      | in_default-via-in-Row+else-len-self w ↦
          let is_row : v.shape ≡ Row = ap (λ (l : RowParser). l.shape) (sym c.self.view_is) ∙ w.in-Row.is in
          λ before line rest e k ends. length_is_wrong v.width c.args.number before line rest v.shape v.values
          (λ h. let no : ⊥ = cc in no) (λ _ h.
          let width : c.self.inside.width ≡ v.width = ap (λ (l : RowParser). l.width) c.self.view_is in
          let values : length c.self.inside.values.items
          ≡ length v.values = ap (λ (l : RowParser). length l.values) c.self.view_is in
          w.if-len-self.false (omega arith)) e k ends
      | in_default-via-in_default w ↦
          let is_long : v.shape ≡ Long = ap (λ (l : RowParser). l.shape) (sym c.self.view_is) ∙ w.in_default.is in
          λ before line rest e k ends. length_is_wrong v.width c.args.number before line rest v.shape v.values
          (λ h. let no : ⊥ = cc in no) (λ h. let no : ⊥ = cc in absurd no) e k ends
    ]
