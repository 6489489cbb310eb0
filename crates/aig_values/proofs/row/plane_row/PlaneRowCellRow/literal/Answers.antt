use Rattle.std.proofs.Common.{◌≡◌, ap, ap₂, sym, ◌∙◌, subst, arith}
use Rattle.aig_parts.specs.Literal.{variable}
use Rattle.aig_values.specs.Cells.{literal_value}
use Rattle.aig_values.specs.state.Words.{spelled, value_of, AreWhole}
use Rattle.aig_values.proofs.WordLemmas.{cell_within, literal_apart, literal_cell}
use Rattle.aig_values.proofs.row.plane_row.PlaneRowCellRow.literal.Goals as goal

pub literal_bits-requires : goal.literal_bits-requires
literal_bits-requires c =
    cell_within c.deref.result.now c.args.self.now (ap spelled c.deref.ensures.value ∙ c.self.view_is) (variable c.args.literal)
    c.requires

pub code_of-requires : goal.code_of-requires
code_of-requires c =
    let words = c.deref.result.now in
    let l = c.args.literal in
    let are : spelled words ≡ c.args.self.now = ap spelled c.deref.ensures.value ∙ c.self.view_is in
    let whole : AreWhole words = subst AreWhole (sym c.deref.ensures.value) c.self.invariant in
    omega (
      arith,
      c.literal_bits.ensures.one,
      c.literal_bits.ensures.zero,
      literal_apart words l whole (cell_within words c.args.self.now are (variable l) c.requires),
    )

pub returns : goal.returns
returns c =
    let words = c.deref.result.now in
    let l = c.args.literal in
    let are : spelled words ≡ c.args.self.now = ap spelled c.deref.ensures.value ∙ c.self.view_is in
    let whole : AreWhole words = subst AreWhole (sym c.deref.ensures.value) c.self.invariant in
    c.code_of.ensures ∙ ap₂ value_of c.literal_bits.ensures.one c.literal_bits.ensures.zero
    ∙ literal_cell words l whole (cell_within words c.args.self.now are (variable l) c.requires)
    ∙ ap (λ row. literal_value row l) are
