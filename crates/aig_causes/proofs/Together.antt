-- Lines of one frame more: what is named there explains all.
use Rattle.std.proofs.Common.{◌≡◌, ℕ, zero, suc, [], length, Some, slice_get, refl, subst, arith}
use Rattle.aig_parts.specs.declared.latch.Latch.{Latch}
use Rattle.aig_parts.specs.declared.raw.Raw.{Raw}
use Rattle.aig_parts.specs.declared.ternary.Tern.{Tern}
use Rattle.aig_base.specs.Circuit.{IsCircuit}
use Rattle.aig_base.specs.Value as value
use Rattle.aig_base.proofs.circuits.Places.{latch}
use Rattle.aig_base.proofs.values.UniqueValue.{rests_at}
use Rattle.aig_causes.specs.Causes.{Explain, Has, IsMoment, Moment, Sources}
use Rattle.aig_causes.specs.Lines.{AgreeOnInputs, ExplainTogether, GoesDown, later, next}

-- a run that has a later frame has this one
later_fits : (raw : Raw) (k : ℕ) (n : Moment) → IsMoment raw (later n k) → IsMoment raw n
unfolding later
later_fits raw zero n h = h
later_fits raw (suc k) n h =
    let up = later_fits raw k (next n) h in record { fits = up.fits; frame = omega (arith, up.frame) }

-- what explains a literal at the last frame is all that is named there
pub at_last : (raw : Raw) (m : Moment) (sources : Sources) (l : ℕ) → Explain raw m sources l → ExplainTogether raw m sources [] l
unfolding later AgreeOnInputs
at_last raw m sources l h w known v n there agree inputs = h w known v n there agree

-- a latch at the next frame has the value of its next state
pub stepped : (raw : Raw) (circuit : IsCircuit raw) (m : Moment) (p : ℕ) (x : Latch) (w : Tern) → slice_get raw.latches p ≡ Some x
    → Has raw (next m) x.lit w → Has raw m x.next w
stepped raw circuit m p x w at v =
    let (y, here, below) = rests_at raw m.start m.rows circuit.sound (latch p) (x, at, refl) v in
    let same : y ≡ x = cc in subst (λ (z : Latch). Has raw m z.next w) same below

pub goes_down : (raw : Raw) → IsCircuit raw → GoesDown raw
unfolding later AgreeOnInputs
goes_down raw circuit m here after rest l explain all w known v n there agree inputs =
    all w known v (next n) there (record {
      inputs = λ p k u named at ku h. inputs.0.inputs p k u named at ku h;
      latches = λ p x u named at ku h.
          value.latch_next n.frame p x u at
          (explain p x named at u ku (stepped raw circuit m p x u at h) n
          (later_fits raw (suc (length rest)) n there) agree);
    }) inputs.1
