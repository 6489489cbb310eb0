use Rattle.std.proofs.Common.{◌≡◌, Some, slice_get, get_or, set, sym, ap, ap₂, ◌∙◌, subst}
use Rattle.std.proofs.lemmas.Bool.{false≢true}
use Rattle.std.proofs.lemmas.List.{set-get_or}
use Rattle.std.proofs.lemmas.Option.{get_or_from_slice_get}
use Rattle.aig_parts.specs.declared.ternary.Tern.TheVariants.{X}
use Rattle.aig_parts.specs.Literal.{variable}
use Rattle.aig_parts.specs.Ternary.{kleene_and}
use Rattle.aig_values.specs.Cells.{gate_value}
use Rattle.aig_values.proofs.WordBits.{same_value}
use Rattle.aig_values.proofs.row.cell_row.CellRow.evaluate.Goals as goal

pub returns-else-changed-clause-cells : goal.returns-else-changed-clause-cells
returns-else-changed-clause-cells g c =
    let cells = g.Self.CellRow.cells c.args.self.now in
    let v = variable c.args.gate.lhs in
    let before = c.get.result in
    let value : c.and-code.result ≡ gate_value cells c.args.gate =
    c.and-code.ensures ∙ ap₂ kleene_and c.literal.ensures c.literal-2.ensures in
    let seen : get_or cells v X ≡ before =
    get_or_from_slice_get cells v before X (subst (λ i. slice_get cells i ≡ Some before) c.var-place.ensures c.get.ensures) in
    let same : c.and-code.result ≡ before =
    same_value c.and-code.result before (λ ne. false≢true (sym c.if-changed.false ∙ c.differs-changed.ensures.1 ne)) in
    sym (set-get_or cells v X) ∙ ap (set cells v) (seen ∙ sym same ∙ value)

pub returns-else-changed-clause-changed : goal.returns-else-changed-clause-changed
returns-else-changed-clause-changed g c =
    let cells = g.Self.CellRow.cells c.args.self.now in
    let v = variable c.args.gate.lhs in
    let before = c.get.result in
    let value : c.and-code.result ≡ gate_value cells c.args.gate =
    c.and-code.ensures ∙ ap₂ kleene_and c.literal.ensures c.literal-2.ensures in
    let seen : get_or cells v X ≡ before =
    get_or_from_slice_get cells v before X (subst (λ i. slice_get cells i ≡ Some before) c.var-place.ensures c.get.ensures) in (
      λ yes. absurd (false≢true (sym c.if-changed.false ∙ yes)),
      λ ne. c.differs-changed.ensures.1 (λ e. ne (sym value ∙ e ∙ sym seen)),
    )
