-- A session before and after a line.
use Rattle.std.proofs.Common.{◌≡◌, ℕ, ◌-◌, ◌^◌, ◌<◌, List, All, length, Some, IfSome, slice_get, sym}
use Rattle.std.proofs.Common.{ap, subst, ◌∙◌, arith, Result, Ok, Err, OnOk, OnErr}
use Rattle.std.proofs.lemmas.List.Elements.{AllZip-get_or}
use Rattle.std.proofs.lemmas.Option.{slice_get_within}
use Rattle.std.proofs.lemmas.Slice.Zip.{AllZip-long}
use Rattle.aig_parts.specs.declared.raw.Raw.{Raw}
use Rattle.aig_parts.specs.declared.ternary.Tern.{Tern}
use Rattle.aig_base.specs.Sections.{IsDefined}
use Rattle.aig_bench.specs.BenchState.{CircuitAndRows}
use Rattle.aig_bench.specs.Edit.{Edit}
use Rattle.aig_signals.specs.Signals.{signals_of}
use Rattle.aig_shell.specs.declared.session.Session.{Session}
use Rattle.aig_shell.specs.Edits.{ArePositions, MeansInputs, MeansLatches, AreFrames, IsValue, Does, IsImpossible}
use Rattle.aig_shell.specs.Latches.{AreAlike}
use Rattle.aig_shell.specs.Request.{set, start}
use Rattle.aig_shell.specs.State.{Leads}
use Rattle.aig_shell.proofs.editing.Kept.{leads_bad, leads_signals, leads_latches}
use Rattle.aig_shell.proofs.words.Meanings.{means_one, inputs_size}

-- what a session knows of its bench is true of this pair
pub record Fits (s : Session) (p : CircuitAndRows) : Type 0 where
  pub signals : s.signals.items ≡ signals_of p.circuit
  pub latches : AreAlike s.run.latches.items p.circuit.latches
  pub property : IfSome s.property (λ k. k < length p.circuit.bad)

-- edits keep it
pub still_fits : (s : Session) (edits : List Edit) (p : CircuitAndRows) → Leads s.run.bench.pair edits p → Fits s p
still_fits s edits p h = record {
  signals = s.has_signals ∙ sym (leads_signals edits s.run.bench.pair p h);
  latches = leads_latches s.run.latches.items edits s.run.bench.pair p s.has_latches h;
  property = subst (λ (ls : List ℕ). IfSome s.property (λ k. k < length ls)) (sym (leads_bad edits s.run.bench.pair p h)) s.has_property;
}

pub fits_same : (s : Session) (p : CircuitAndRows) → p ≡ s.run.bench.pair → Fits s p
fits_same s p e =
    subst (Fits s) (sym e) (record { signals = s.has_signals; latches = s.has_latches; property = s.has_property })

pub fits_either : {A E : Type 0} (s : Session) (edits : List Edit) (result : Result A E) (p : CircuitAndRows)
    → OnOk result (Leads s.run.bench.pair edits p) → OnErr result (p ≡ s.run.bench.pair) → Fits s p
fits_either s edits (Ok x) p done kept = still_fits s edits p done
fits_either s edits (Err e) p done kept = fits_same s p kept

-- the positions are those of inputs
pub positions_within : (raw : Raw) (literals positions : List ℕ) → ArePositions raw literals positions
    → All (λ p. p < length raw.inputs) positions
positions_within raw literals positions h k d lt =
    let R : ℕ → ℕ → Type 0 = λ l p. slice_get raw.inputs p ≡ Some l in
    let long : length positions ≡ length literals = AllZip-long R literals positions h in
    slice_get_within raw.inputs _ _ (AllZip-get_or R literals positions k 0 d h (omega (arith, long, lt)))

-- a line that sets inputs is impossible where a word is none of what it has to be
pub no_frames : (p : CircuitAndRows) (f n v : List ℕ) → ((a b : ℕ) → AreFrames f (length p.rows) a b → ⊥) → IsImpossible p (set f n v)
no_frames p f n v none q (edits, (a, b, positions, bits, frames, inputs, value, is), h) = none a b frames

pub no_inputs : (p : CircuitAndRows) (f n v : List ℕ) → ((ps : List ℕ) → MeansInputs p.circuit n ps → ⊥) → IsImpossible p (set f n v)
no_inputs p f n v none q (edits, (a, b, positions, bits, frames, inputs, value, is), h) = none positions inputs

pub no_bits : (p : CircuitAndRows) (f n v positions : List ℕ) → ((u : ℕ) → IsDefined p.circuit u → u < 2 ^ 32)
    → MeansInputs p.circuit n positions → ((bits : List Tern) → IsValue v (length positions) bits → ⊥) → IsImpossible p (set f n v)
no_bits p f n v positions small given none q (edits, (a, b, others, bits, frames, inputs, value, is), h) =
    none bits (subst (λ m. IsValue v m bits) (inputs_size p.circuit small n others positions inputs given) value)

pub no_latches : (p : CircuitAndRows) (n v : List ℕ) → ((ls : List ℕ) → MeansLatches p.circuit n ls → ⊥) → IsImpossible p (start n v)
no_latches p n v none q (edits, (latches, bits, means, value, is), h) = none latches means

pub no_start : (p : CircuitAndRows) (n v latches : List ℕ) → ((u : ℕ) → IsDefined p.circuit u → u < 2 ^ 32)
    → MeansLatches p.circuit n latches → ((bits : List Tern) → IsValue v (length latches) bits → ⊥) → IsImpossible p (start n v)
no_start p n v latches small given none q (edits, (others, bits, means, value, is), h) =
    none bits (subst (λ m. IsValue v m bits) (ap length (means_one p.circuit small n others latches means.0 given.0)) value)
