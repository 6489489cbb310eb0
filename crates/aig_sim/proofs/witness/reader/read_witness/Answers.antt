use Rattle.std.proofs.Common.{◌≡◌, ℕ, List, ◌∷◌, ◌++◌, length, map, sym, ap, ◌∙◌, subst}
use Rattle.aig_parts.specs.declared.raw.Raw.{Raw}
use Rattle.aig_parts.specs.declared.ternary.Tern.{Tern}
use Rattle.aig_base.specs.Circuit.{IsCircuit}
use Rattle.aig_values.specs.Characters.{character}
use Rattle.aig_values.specs.InputRows.{InputRows}
use Rattle.aig_sim.specs.declared.witness.text.WitnessParts.{WitnessParts}
use Rattle.aig_sim.specs.state.Checking.{ArePartsOf, BeginsWithRow, SpellsFrames}
use Rattle.aig_sim.specs.WitnessText.{Witness, SpellsWitness, IsAdmitted}
use Rattle.aig_sim.proofs.VerdictLemmas.{property_same, start_same}
use Rattle.aig_sim.proofs.witness.reader.read_witness.Goals as goal

-- what was read of the parts of a witness's text is the witness
of_parts : (raw : Raw) (parts : WitnessParts) (w : Witness) (start : List Tern) (rest : List ℕ) (rows : InputRows) (width : ℕ) → IsCircuit raw
    → ArePartsOf raw parts w → IsAdmitted raw w → parts.start.now ≡ map character start ++ (10 ∷ rest)
    → rows ≡ record { width = width; rows = w.rows }
    → (let v : Witness = record { property = parts.property; start = start; rows = rows.rows } in v) ≡ w
of_parts raw parts w start rest rows width circuit h admitted read is =
    ap (λ (n : ℕ). let v : Witness = record { property = n; start = start; rows = rows.rows } in v) (property_same circuit h admitted)
    ∙ ap (λ (s : List Tern). let v : Witness = record { property = w.property; start = s; rows = rows.rows } in v)
    (start_same start rest h read)
    ∙ ap (λ (r : InputRows). let v : Witness = record { property = w.property; start = w.start; rows = r.rows } in v) is

pub read_start-requires : goal.read_start-requires
read_start-requires c =
    let (w, spells, parts, admitted) = c.in_ok-parts.ensures.parts in
    (w.start, c.in_ok-parts.parts.rows.now, parts.latches ∙ sym (ap length c.latches.ensures), parts.start_is)

pub read_rows-requires-clause-rows : goal.read_rows-requires-clause-rows
read_rows-requires-clause-rows c =
    let (w, spells, parts, admitted) = c.in_ok-parts.ensures.parts in (
      w.rows,
      sym parts.frames_are,
      subst (λ n. SpellsFrames n c.in_ok-parts.parts.rows.now w.rows) (sym (ap length c.inputs.ensures)) parts.rows_are,
    )

pub returns-clause-spelled : goal.returns-clause-spelled
returns-clause-spelled c =
    let raw = c.args.circuit.now in
    let (w, spells, parts, admitted) = c.in_ok-parts.ensures.parts in
    let (rest, read) = c.in_ok-start.ensures.read in
    subst (SpellsWitness raw c.args.text.now)
    (sym (of_parts raw c.in_ok-parts.parts w c.in_ok-start.start.items rest c.in_ok-rows.rows _ c.facts.ensures parts admitted
    read (c.in_ok-rows.ensures w.rows (sym parts.frames_are)
    (subst (λ n. SpellsFrames n c.in_ok-parts.parts.rows.now w.rows) (sym (ap length c.inputs.ensures)) parts.rows_are)))) spells

pub returns-clause-admitted : goal.returns-clause-admitted
returns-clause-admitted c =
    let raw = c.args.circuit.now in
    let (w, spells, parts, admitted) = c.in_ok-parts.ensures.parts in
    let (rest, read) = c.in_ok-start.ensures.read in
    subst (IsAdmitted raw)
    (sym (of_parts raw c.in_ok-parts.parts w c.in_ok-start.start.items rest c.in_ok-rows.rows _ c.facts.ensures parts admitted
    read (c.in_ok-rows.ensures w.rows (sym parts.frames_are)
    (subst (λ n. SpellsFrames n c.in_ok-parts.parts.rows.now w.rows) (sym (ap length c.inputs.ensures)) parts.rows_are)))) admitted
