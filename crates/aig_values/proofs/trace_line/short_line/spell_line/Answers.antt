use Rattle.std.proofs.Common.{◌∷◌, [], ◌++◌, List, ℕ, map, ap}
use Rattle.std.proofs.lemmas.List.Elements.{All-map}
use Rattle.aig_parts.specs.declared.latch.Latch.{Latch}
use Rattle.aig_parts.specs.Literal.{variable}
use Rattle.aig_base.proofs.circuits.Circuits.{input_in_range, latch_in_range, next_in_range, output_in_range}
use Rattle.aig_values.specs.TraceText.{fields_text, literal_character, line_text}
use Rattle.aig_values.proofs.FieldLemmas.{all_have, shown}
use Rattle.aig_values.proofs.ShortLines.{four_fields}
use Rattle.aig_values.proofs.trace_line.short_line.spell_line.Goals as goal

pub spell_at-at-requires-clause-row : goal.spell_at-at-requires-clause-row
spell_at-at-requires-clause-row g c =
    All-map (λ l. g.R.Row.has c.args.row.now (variable l)) (λ (x : Latch). x.lit) c.latches.result.now
    (all_have (g.R.Row.has c.args.row.now) (λ x. x.lit) c.args.circuit.now.max_var c.latches.result.now _ c.latches.ensures c.requires.row
    (latch_in_range c.args.circuit.now c.facts.ensures.sound))

pub spell_at-at-requires-2-clause-row : goal.spell_at-at-requires-2-clause-row
spell_at-at-requires-2-clause-row g c =
    all_have (g.R.Row.has c.args.row.now) (λ l. l) c.args.circuit.now.max_var c.inputs.result.now _ c.inputs.ensures c.requires.row
    (input_in_range c.args.circuit.now c.facts.ensures.sound)

pub spell_at-at-requires-3-clause-row : goal.spell_at-at-requires-3-clause-row
spell_at-at-requires-3-clause-row g c =
    all_have (g.R.Row.has c.args.row.now) (λ l. l) c.args.circuit.now.max_var c.outputs.result.now _ c.outputs.ensures c.requires.row
    (output_in_range c.args.circuit.now c.facts.ensures.sound)

pub spell_at-requires-clause-row : goal.spell_at-requires-clause-row
spell_at-requires-clause-row g c =
    All-map (λ l. g.R.Row.has c.args.row.now (variable l)) (λ (x : Latch). x.next) c.latches-2.result.now
    (all_have (g.R.Row.has c.args.row.now) (λ x. x.next) c.args.circuit.now.max_var c.latches-2.result.now _ c.latches-2.ensures c.requires.row
    (next_in_range c.args.circuit.now c.facts.ensures.sound))

pub returns-clause-line : goal.returns-clause-line
unfolding line_text fields_text
returns-clause-line g c =
    let cells = g.R.Row.cells c.args.row.now in
    let latches = c.args.circuit.now.latches in
    four_fields _ _ _ _ _ _ _ _ _ _ _ _
    c.spell_at-at.ensures.text c.spell_at-at-2.ensures.text c.spell_at-at-3.ensures.text c.spell_at.ensures.text
    (shown cells (λ x. x.lit) 32 c.latches.result.now latches c.latches.ensures)
    (ap (λ (ls : List ℕ). map (literal_character cells) ls ++ 32 ∷ []) c.inputs.ensures)
    (ap (λ (ls : List ℕ). map (literal_character cells) ls ++ 32 ∷ []) c.outputs.ensures)
    (shown cells (λ x. x.next) 10 c.latches-2.result.now latches c.latches-2.ensures)
