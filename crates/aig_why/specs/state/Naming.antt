-- A naming between two lines, and text that becomes longer.
use Rattle.std.specs.Prelude.{◌≡◌, ℕ, List, ◌++◌, map, Some, slice_get}
use Rattle.aig_parts.specs.declared.latch.Latch.{Latch}
use Rattle.aig_parts.specs.declared.raw.Raw.{Raw}
use Rattle.aig_parts.specs.declared.ternary.Tern.{Tern}
use Rattle.aig_bench.specs.BenchState.{CircuitAndRows, HasValue}
use Rattle.aig_causes.specs.Causes.{Moment, Sources}
use Rattle.aig_causes.specs.Explanation.{ExplanationState, IsOf}
use Rattle.aig_signals.specs.declared.text.Naming.{Naming}
use Rattle.aig_why.specs.Lines.{AreNamed, IsResetValue}
use Rattle.aig_why.specs.Named.{IsNamingOf, NamesNothing}
use Rattle.aig_why.specs.declared.lines.writer.Writer.{Writer}

-- these inputs and latches are named, with their values at m
pub record NamesValues (raw : Raw) (m : Moment) (sources : Sources) (n : Naming) : Type 0 where
  pub inputs : AreNamed raw m raw.inputs sources.inputs n.inputs.values
  pub latches : AreNamed raw m (map (λ x. x.lit) raw.latches) sources.latches n.latches.values

pub record HasSameSignals (old new : Naming) : Type 0 where
  pub inputs : new.inputs.signals ≡ old.inputs.signals
  pub latches : new.latches.signals ≡ old.latches.signals

-- a frame begins: the naming is for a circuit that the bench runs, and names nothing; no latch has been looked at
pub record BeginsFrame (p : CircuitAndRows) (n : Naming) (e : ExplanationState) : Type 0 where
  pub bench : IsOf p e
  pub end : e.end ≡ 0
  pub of : (raw : Raw) × IsNamingOf raw p n
  pub none : NamesNothing p.circuit n

-- frames were explained: the naming has its signals and names nothing, and the same is asked for
pub record KeepsAsked (p : CircuitAndRows) (old new : Writer) (before after : ExplanationState) : Type 0 where
  pub asked : after.asked ≡ before.asked
  pub bench : IsOf p after
  pub none : NamesNothing p.circuit new.naming
  pub signals : HasSameSignals old.naming new.naming

-- the new text is the old one and such a text
abbrev pub Adds : (List ℕ → Type 0) → List ℕ → List ℕ → Type 0
Adds Is old new = (added : List ℕ) × Is added × (new ≡ old ++ added)

-- a latch has the value of its reset among these at frame 0
abbrev pub StartsBy : CircuitAndRows → List Latch → ℕ → Type 0
StartsBy pair resets p =
    (x : Latch) × (l : ℕ) × (w : Tern) × (slice_get resets p ≡ Some x)
    × (slice_get (map (λ y. y.lit) pair.circuit.latches) p ≡ Some l) × HasValue pair 0 l w × IsResetValue x.reset w
