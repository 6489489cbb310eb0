-- A renumbered circuit has the witnesses of the circuit: they depend on the lengths of its sections alone.
use Rattle.std.proofs.Common.{◌≡◌, ℕ, List, length, sym, ◌∙◌, subst, arith}
use Rattle.std.proofs.lemmas.List.{length-map}
use Rattle.aig_parts.specs.declared.raw.Raw.{Raw}
use Rattle.aig_base.specs.Renumbered.{renumbered, renumbered_latch, renumbered_literal}
use Rattle.aig_values.specs.InputRows.{HaveWidth}
use Rattle.aig_sim.specs.declared.witness.fault.WitnessFault.{WitnessFault}
use Rattle.aig_sim.specs.declared.witness.fault.WitnessFault.TheVariants as fault
use Rattle.aig_sim.specs.WitnessText.{Witness, SpellsWitness, HasWitnessFault}
use Rattle.aig_refute.specs.Conversion.{HaveSameWitnesses}

-- sections of the same lengths
record AreAsLong (raw new : Raw) : Type 0 where
  inputs : length new.inputs ≡ length raw.inputs
  latches : length new.latches ≡ length raw.latches
  bad : length new.bad ≡ length raw.bad

turned : (raw new : Raw) → AreAsLong raw new → AreAsLong new raw
turned raw new same = record { inputs = sym same.inputs; latches = sym same.latches; bad = sym same.bad }

spelled_too : (raw new : Raw) → AreAsLong raw new → (text : List ℕ) (w : Witness) → SpellsWitness raw text w
    → SpellsWitness new text w
spelled_too raw new same text w h = record {
  start_is = h.start_is ∙ sym same.latches;
  widths = subst (λ (n : ℕ). HaveWidth n w.rows) (sym same.inputs) h.widths;
  some = h.some;
  digits = h.digits;
  position = h.position;
  text_is = h.text_is;
}

fault_too : (raw new : Raw) → AreAsLong raw new → (text : List ℕ) (f : WitnessFault) → HasWitnessFault raw text f
    → HasWitnessFault new text f
fault_too raw new same text fault.Text h = λ w k. h w (spelled_too new raw (turned raw new same) text w k)
fault_too raw new same text fault.Property (w, spells, le) =
    (w, spelled_too raw new same text w spells, omega (arith, same.bad))
fault_too raw new same text fault.Limit (w, spells, lt, over) =
    (w, spelled_too raw new same text w spells, omega (arith, same.bad), over)
fault_too raw new same text fault.Memory h = h

as_long : (raw : Raw) (order : List ℕ) → AreAsLong raw (renumbered raw order)
as_long raw order = record {
  inputs = length-map raw.inputs (renumbered_literal raw order);
  latches = length-map raw.latches (renumbered_latch raw order);
  bad = length-map raw.bad (renumbered_literal raw order);
}

pub same_witnesses : (raw : Raw) (order : List ℕ) → HaveSameWitnesses raw (renumbered raw order)
same_witnesses raw order =
    let new : Raw = renumbered raw order in
    let there = as_long raw order in
    let back = turned raw (renumbered raw order) there in
    record {
      spelled = λ text w. (spelled_too raw new there text w, spelled_too new raw back text w);
      admitted = λ w. (λ h. (omega (arith, there.bad, h), h.1), λ h. (omega (arith, there.bad, h), h.1));
      faults = λ text f. (fault_too raw new there text f, fault_too new raw back text f);
    }
