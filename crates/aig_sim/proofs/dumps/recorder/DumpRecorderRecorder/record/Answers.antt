use Rattle.std.proofs.Common.{◌≡◌, ◌≤◌, ℕ, List, length, map, All, arith, ap, sym, subst, ◌∙◌}
use Rattle.std.proofs.lemmas.List.{take_at, length-map}
use Rattle.aig_parts.specs.Literal.{variable}
use Rattle.aig_sim.specs.Dump.{signals}
use Rattle.aig_values.specs.TraceText.{literal_character}
use Rattle.aig_sim.proofs.DumpFrames.{signals_in_range, dumped_more, last_more}
use Rattle.aig_sim.proofs.dumps.recorder.DumpRecorderRecorder.record.Goals as goal

pub spell_literals-requires-clause-row : goal.spell_literals-requires-clause-row
spell_literals-requires-clause-row g c =
    let raw = c.args.machine.now.circuit in
    subst (λ (ls : List ℕ). All (λ l. variable l ≤ raw.max_var) ls) (sym (c.deref.ensures.value ∙ c.requires.can.0))
    (signals_in_range raw c.circuit-circuit.ensures.is_circuit.sound)

pub returns-in_err-write_frame-clause-text : goal.returns-in_err-write_frame-clause-text
returns-in_err-write_frame-clause-text g c start rows row text reported kept holds is =
    let m = c.args.machine.now in
    dumped_more m.circuit start rows row m.cells c.args.self.now.last.items text c.args.frame
    c.circuit-circuit.ensures.is_circuit.sound reported kept holds is

pub returns-clause-text : goal.returns-clause-text
returns-clause-text g c start rows row text reported kept holds is =
    let m = c.args.machine.now in
    dumped_more m.circuit start rows row m.cells c.args.self.now.last.items text c.args.frame
    c.circuit-circuit.ensures.is_circuit.sound reported kept holds is

pub returns-clause-recorded : goal.returns-clause-recorded
returns-clause-recorded g c start rows row kept holds is =
    let m = c.args.machine.now in
    let f = literal_character m.cells in
    let text = c.spell_literals.new.text in
    let literals = c.deref.ensures.value ∙ c.requires.can.0 in
    let size : length text ≡ c.args.self.now.characters.len =
    omega (
      arith,
      ap length c.spell_literals.ensures,
      length-map c.deref.result.now f,
      ap length literals,
      c.requires.can.2,
      c.deref_mut.ensures.len,
      ap length c.deref_mut.ensures.value,
    ) in
    let same : c.copy_from_slice.new.self.items ≡ map f (signals m.circuit) =
    c.copy_from_slice.ensures.items ∙ c.deref-4.ensures.value ∙ take_at text _ c.args.self.now.characters.len size
    ∙ c.spell_literals.ensures ∙ ap (map f) literals in
    last_more m.circuit start rows row m.cells c.copy_from_slice.new.self.items
    c.circuit-circuit.ensures.is_circuit.sound holds same
