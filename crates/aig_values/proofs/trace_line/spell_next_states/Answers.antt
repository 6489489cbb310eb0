use Rattle.std.proofs.Common.{ℕ, All, map, sym, ap, ◌∙◌, subst}
use Rattle.std.proofs.lemmas.List.Elements.{All-map}
use Rattle.std.proofs.lemmas.Simd.{map-map}
use Rattle.aig_parts.specs.declared.latch.Latch.{Latch}
use Rattle.aig_parts.specs.Literal.{variable}
use Rattle.aig_values.specs.TraceText.{literal_character}
use Rattle.aig_values.proofs.trace_line.spell_next_states.Goals as goal

pub spell-requires-clause-row : goal.spell-requires-clause-row
spell-requires-clause-row g c =
    let has = λ (l : ℕ). g.R.Row.has c.args.row.now (variable l) in
    subst (All has) (sym c.list_next_states.ensures) (All-map has (λ (x : Latch). x.next) c.args.latches.now c.requires.row)

pub returns : goal.returns
returns g c =
    let f = literal_character (g.R.Row.cells c.args.row.now) in
    c.spell.ensures ∙ ap (map f) c.list_next_states.ensures ∙ map-map f (λ (x : Latch). x.next) c.args.latches.now
