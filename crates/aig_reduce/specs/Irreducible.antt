-- What is known of a reduced witness: no more of its values can be x (our own choice).
-- Example: `x1x` covers `11x`, and is not confirmed.
use Rattle.std.specs.Prelude.{◌≡◌, ◌≢◌, ◌⊎◌, ◌<◌, [], length}
use Rattle.std.specs.List.{AllZip}
use Rattle.aig_parts.specs.declared.ternary.Tern.{Tern}
use Rattle.aig_parts.specs.declared.ternary.Tern.TheVariants.{X}
use Rattle.aig_parts.specs.declared.raw.Raw.{Raw}
use Rattle.aig_sim.specs.declared.witness.verdict.Verdict.TheVariants as verdict
use Rattle.aig_sim.specs.Verdict.{IsVerdict, IsConfirmed}
use Rattle.aig_sim.specs.WitnessText.{Witness}
use Rattle.aig_values.specs.InputRows.{HaveWidth}
use Rattle.aig_reduce.specs.Reduction.{values_of}

-- a witness of the circuit, of one frame or more, whose verdict is `Confirmed`
pub record IsConfirmedWitness (raw : Raw) (w : Witness) : Type 0 where
  pub latches : length w.start ≡ length raw.latches
  pub widths : HaveWidth (length raw.inputs) w.rows
  pub some : w.rows ≢ []
  pub property : w.property < length raw.bad
  pub verdict : IsVerdict raw w verdict.Confirmed

-- a is b, or x
abbrev pub IsSameOrX : Tern → Tern → Type 0
IsSameOrX a b = (a ≡ X) ⊎ (a ≡ b)

-- the same property and frames, where each value is that of the other witness or x
pub record Covers (v w : Witness) : Type 0 where
  pub property : v.property ≡ w.property
  pub values : AllZip (AllZip IsSameOrX) (values_of v) (values_of w)

-- no other witness that has its values or x is confirmed
abbrev pub IsIrreducible : Raw → Witness → Type 0
IsIrreducible raw w = (v : Witness) → Covers v w → IsVerdict raw v verdict.Confirmed → v ≡ w

-- A reduced witness is confirmed, and so reaches its bad state whatever its x turn out to be; each of its values is the
-- given one or x; no more of them can be x.
pub record HoldsReduced (raw : Raw) (given new : Witness) : Type 0 where
  pub confirmed : IsConfirmedWitness raw new
  pub completions : IsConfirmed raw new
  pub covers : Covers new given
  pub irreducible : IsIrreducible raw new
