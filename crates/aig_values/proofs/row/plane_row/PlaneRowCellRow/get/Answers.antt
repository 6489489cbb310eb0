use Rattle.std.proofs.Common.{◌≡◌, Some, ap, ap₂, sym, ◌∙◌, subst, arith}
use Rattle.aig_values.specs.state.Words.{spelled, value_of, AreWhole}
use Rattle.aig_values.proofs.WordLemmas.{cell_within, first_one, first_zero, get_cell, whole_at}
use Rattle.aig_values.proofs.row.plane_row.PlaneRowCellRow.get.Goals as goal

pub bits_from-requires : goal.bits_from-requires
bits_from-requires c =
    cell_within c.deref.result.now c.args.self.now (ap spelled c.deref.ensures.value ∙ c.self.view_is) c.args.variable c.requires

pub code_of-requires : goal.code_of-requires
code_of-requires c =
    let words = c.deref.result.now in
    let v = c.args.variable in
    let bits = c.bits_from.result in
    let are : spelled words ≡ c.args.self.now = ap spelled c.deref.ensures.value ∙ c.self.view_is in
    let whole : AreWhole words = subst AreWhole (sym c.deref.ensures.value) c.self.invariant in
    omega (
      arith,
      first_one words v bits c.bits_from.ensures.one c.bits_from.ensures.zero,
      first_zero words v bits c.bits_from.ensures.one c.bits_from.ensures.zero,
      whole_at words v whole (cell_within words c.args.self.now are v c.requires),
    )

pub returns : goal.returns
returns c =
    let words = c.deref.result.now in
    let v = c.args.variable in
    let bits = c.bits_from.result in
    let are : spelled words ≡ c.args.self.now = ap spelled c.deref.ensures.value ∙ c.self.view_is in
    get_cell words c.args.self.now are v c.requires
    ∙ ap Some (sym (c.code_of.ensures
    ∙ ap₂ value_of (first_one words v bits c.bits_from.ensures.one c.bits_from.ensures.zero)
    (first_zero words v bits c.bits_from.ensures.one c.bits_from.ensures.zero)))
