-- What two circuits have in common that show the same: traces, dumps, witnesses and verdicts.
-- Example: with `11/`, `examples/two_gates.aag` and its renumbered form both have the trace ` 11 1 /`.
use Rattle.std.specs.Prelude.{◌↔◌, ℕ, List}
use Rattle.aig_parts.specs.declared.raw.Raw.{Raw}
use Rattle.aig_parts.specs.declared.ternary.Tern.{Tern}
use Rattle.aig_sim.specs.declared.witness.verdict.Verdict.{Verdict}
use Rattle.aig_sim.specs.declared.witness.fault.WitnessFault.{WitnessFault}
use Rattle.aig_sim.specs.Dump.{IsDump}
use Rattle.aig_sim.specs.Verdict.{IsVerdict}
use Rattle.aig_sim.specs.WitnessText.{Witness, SpellsWitness, IsAdmitted, HasWitnessFault}
use Rattle.aig_values.specs.Trace.{IsTrace}

-- from this start and with these rows, both circuits have the same trace
abbrev pub HaveSameTraces : Raw → Raw → List Tern → List (List Tern) → Type 0
HaveSameTraces raw new start rows = (text : List ℕ) → IsTrace raw start rows text ↔ IsTrace new start rows text

-- and the same dump
abbrev pub HaveSameDumps : Raw → Raw → List Tern → List (List Tern) → Type 0
HaveSameDumps raw new start rows = (text : List ℕ) → IsDump raw start rows text ↔ IsDump new start rows text

-- each text spells the same witness for both circuits, or has the same fault
pub record HaveSameWitnesses (raw new : Raw) : Type 0 where
  pub spelled : (text : List ℕ) (w : Witness) → SpellsWitness raw text w ↔ SpellsWitness new text w
  pub admitted : (w : Witness) → IsAdmitted raw w ↔ IsAdmitted new w
  pub faults : (text : List ℕ) (fault : WitnessFault) → HasWitnessFault raw text fault ↔ HasWitnessFault new text fault

-- the witness has the same verdict for both circuits
abbrev pub HaveSameVerdicts : Raw → Raw → Witness → Type 0
HaveSameVerdicts raw new w = (verdict : Verdict) → IsVerdict raw w verdict ↔ IsVerdict new w verdict
