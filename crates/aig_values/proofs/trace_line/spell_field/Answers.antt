use Rattle.std.proofs.Common.{length, map, take, drop, All, sym, ap, ◌∙◌, subst}
use Rattle.aig_parts.specs.declared.latch.Latch.{Latch}
use Rattle.aig_parts.specs.Literal.{variable}
use Rattle.aig_values.specs.TraceText.{literal_character}
use Rattle.aig_values.specs.declared.trace_line.Field.{Field}
use Rattle.aig_values.specs.state.Fields.{literals_of}
use Rattle.aig_values.proofs.FieldLemmas.{piece_all, piece_shown}
use Rattle.aig_values.proofs.trace_line.spell_field.Goals as goal

pub spell_states-requires-clause-row : goal.spell_states-requires-clause-row
spell_states-requires-clause-row g c =
    piece_all (λ (x : Latch). x.lit) c.in-States.latches.now c.args.at (length c.args.text.now)
    (λ l. g.R.Row.has c.args.row.now (variable l))
    (subst (λ (f : Field). All (λ l. g.R.Row.has c.args.row.now (variable l)) (literals_of f)) c.in-States.is c.requires.row)

pub returns-in-States : goal.returns-in-States
returns-in-States g c =
    let f = literal_character (g.R.Row.cells c.args.row.now) in
    piece_shown (λ (x : Latch). x.lit) c.in-States.latches.now c.args.at (length c.args.text.now) f c.spell_states.new.text c.spell_states.ensures
    ∙ ap (λ (it : Field). map f (take (length c.args.text.now) (drop c.args.at (literals_of it)))) (sym c.in-States.is)

pub spell_next_states-requires-clause-row : goal.spell_next_states-requires-clause-row
spell_next_states-requires-clause-row g c =
    piece_all (λ (x : Latch). x.next) c.in-NextStates.latches.now c.args.at (length c.args.text.now)
    (λ l. g.R.Row.has c.args.row.now (variable l))
    (subst (λ (f : Field). All (λ l. g.R.Row.has c.args.row.now (variable l)) (literals_of f)) c.in-NextStates.is c.requires.row)

pub returns-in-NextStates : goal.returns-in-NextStates
returns-in-NextStates g c =
    let f = literal_character (g.R.Row.cells c.args.row.now) in
    piece_shown (λ (x : Latch). x.next) c.in-NextStates.latches.now c.args.at (length c.args.text.now) f c.spell_next_states.new.text c.spell_next_states.ensures
    ∙ ap (λ (it : Field). map f (take (length c.args.text.now) (drop c.args.at (literals_of it)))) (sym c.in-NextStates.is)
