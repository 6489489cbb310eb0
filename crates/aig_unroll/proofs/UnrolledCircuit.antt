-- The unrolled parts are a circuit.
use Rattle.std.proofs.Common.{◌≡◌, ℕ, zero, suc, ◌+◌, ◌*◌, ◌<◌, ◌≤◌, Bool, true, false, if◌then◌else◌, List, length}
use Rattle.std.proofs.Common.{map, All, get_or, refl, sym, ◌∙◌, ap, subst, arith, zero-mul, length-append}
use Rattle.std.specs.List.{range_with_len}
use Rattle.std.proofs.Math.Nat.{mul-le-mul_right}
use Rattle.std.proofs.lemmas.List.{length-map}
use Rattle.std.proofs.lemmas.List.Elements.{All-nil, All-map, All-weaker}
use Rattle.std.proofs.lemmas.List.FromFn.{length-map-range_with_len}
use Rattle.aig_parts.specs.declared.gate.Gate.{Gate}
use Rattle.aig_parts.specs.declared.latch.Latch.{Latch}
use Rattle.aig_parts.specs.declared.raw.Raw.{Raw}
use Rattle.aig_base.specs.Circuit.{IsCircuit}
use Rattle.aig_parts.specs.Formed.{IsFormed, IsSymbolOf}
use Rattle.aig_base.specs.Order.{IsCanonicalOrder}
use Rattle.aig_base.specs.Sections.{uses}
use Rattle.aig_base.specs.Sound.{IsSound, IsInRange, IsReset}
use Rattle.aig_base.proofs.circuits.EachUse.{all_uses}
use Rattle.aig_base.proofs.lists.Evens.{length-evens_from}
use Rattle.aig_base.proofs.renumbered.RenumberedCircuit.{ready_sound, ready_circuit}
use Rattle.aig_unroll.specs.FrameLiteral.{frame_literal, frame_size, input_count, has_guards, guard_count}
use Rattle.aig_unroll.specs.Unrollable.{FitsLimits}
use Rattle.aig_unroll.specs.Unrolled.{unrolled, frames, frame_literals, frame_bad, guard_literal, kept_constraints}
use Rattle.aig_unroll.proofs.FrameBounds.{any_bound}
use Rattle.aig_unroll.proofs.Guarding.{guarded}
use Rattle.aig_unroll.proofs.UnrolledReady.{All-frames, All-range, IsReadyGate, gates_ready, length-gates}
use Rattle.aig_unroll.proofs.UnrolledReady.{unrolled_ready}

-- frames of one length, joined
pub length-frames : {A : Type 0} (f : ℕ → List A) (c n : ℕ) → ((t : ℕ) → length (f t) ≡ c) → length (frames f n) ≡ n * c
length-frames f c zero each = sym (zero-mul c)
length-frames f c (suc n) each =
    length-append (frames f n) (f n) ∙ (let e = length-frames f c n each in let g = each n in omega arith)

-- the bad literals of a frame with guards, and without
pub bad_on : (raw : Raw) (order : List ℕ) (k t : ℕ) → has_guards raw ≡ true
    → frame_bad raw order k t ≡ map (guard_literal raw k t) (range_with_len 0 (guard_count raw))
bad_on raw order k t e =
    ap (λ b. if b then map (guard_literal raw k t) (range_with_len 0 (guard_count raw))
    else frame_literals raw order k raw.bad t) e

pub bad_off : (raw : Raw) (order : List ℕ) (k t : ℕ) → has_guards raw ≡ false
    → frame_bad raw order k t ≡ frame_literals raw order k raw.bad t
bad_off raw order k t e =
    ap (λ b. if b then map (guard_literal raw k t) (range_with_len 0 (guard_count raw))
    else frame_literals raw order k raw.bad t) e

pub length-frame_bad : (raw : Raw) (order : List ℕ) (k t : ℕ) → length (frame_bad raw order k t) ≡ length raw.bad
length-frame_bad raw order k t = go (has_guards raw) refl
  where
    go : (b : Bool) → has_guards raw ≡ b → length (frame_bad raw order k t) ≡ length raw.bad
    go true e =
        let on = guarded raw e in
        ap length (bad_on raw order k t e)
        ∙ length-map-range_with_len (guard_literal raw k t) 0 (guard_count raw) ∙ on.guards
    go false e = ap length (bad_off raw order k t e) ∙ length-map raw.bad (frame_literal raw order k t)

module _ (raw : Raw) (circuit : IsCircuit raw) (order : List ℕ) (canonical : IsCanonicalOrder raw order) (k : ℕ) where
  P : ℕ → Type 0
  P = IsInRange (unrolled raw order k)

  room : (t : ℕ) → t < k → t * frame_size raw + frame_size raw ≤ k * frame_size raw
  room t lt = let up = mul-le-mul_right {m = suc t} {n = k} (frame_size raw) lt in omega arith

  in_range : (t l : ℕ) → t < k → P (frame_literal raw order k t l)
  unfolding P
  in_range t l lt =
      let b = any_bound raw circuit.sound order canonical k t l lt in let r = room t lt in omega arith

  literals_in : (ls : List ℕ) → All P (frames (frame_literals raw order k ls) k)
  literals_in ls = All-frames P (frame_literals raw order k ls) k
      (λ t lt. All-map P (frame_literal raw order k t) ls (λ i d below. in_range t (get_or ls i d) lt))

  bad_in : All P (frames (frame_bad raw order k) k)
  unfolding P
  bad_in = All-frames P (frame_bad raw order k) k (λ t lt. go t lt (has_guards raw) refl)
    where
      go : (t : ℕ) → t < k → (b : Bool) → has_guards raw ≡ b → All P (frame_bad raw order k t)
      go t lt true e =
          let r = room t lt in
          subst (All P) (sym (bad_on raw order k t e))
          (All-range P (guard_literal raw k t) (guard_count raw) (λ p below. omega arith))
      go t lt false e =
          subst (All P) (sym (bad_off raw order k t e))
          (All-map P (frame_literal raw order k t) raw.bad (λ i d below. in_range t (get_or raw.bad i d) lt))

  used : All (IsInRange (unrolled raw order k)) (uses (unrolled raw order k))
  unfolding P
  used = all_uses P (unrolled raw order k) (record {
    nexts = All-nil (λ (x : Latch). P x.next);
    outputs = literals_in raw.outputs;
    bad = bad_in;
    constraints = literals_in (kept_constraints raw);
    justice = All-nil (All P);
    fairness = All-nil P;
    sides = All-weaker (IsReadyGate (unrolled raw order k).max_var) (λ g. P g.rhs0 × P g.rhs1)
        (λ g h. side g h) (unrolled raw order k).gates (gates_ready raw circuit order canonical k);
  })
    where
      side : (g : Gate) → IsReadyGate (unrolled raw order k).max_var g → P g.rhs0 × P g.rhs1
      side g h = (omega (arith, h.first, h.within), omega (arith, h.first, h.second, h.within))

  pub unrolled_sound : IsSound (unrolled raw order k)
  unrolled_sound =
      ready_sound (unrolled raw order k) (unrolled_ready raw circuit order canonical k) used (All-nil IsReset)

  unrolled_formed : FitsLimits raw k → IsFormed (unrolled raw order k)
  unrolled_formed fits = record {
    counts = record {
      max_var = fits.max_var;
      inputs = rw (length-evens_from 1 (input_count raw k)) fits.inputs;
      latches = omega arith;
      outputs = rw (length-frames (frame_literals raw order k raw.outputs) (length raw.outputs) k
          (λ t. length-map raw.outputs (frame_literal raw order k t))) fits.outputs;
      bad = rw (length-frames (frame_bad raw order k) (length raw.bad) k (length-frame_bad raw order k)) fits.bad;
      constraints = rw (length-frames (frame_literals raw order k (kept_constraints raw))
          (length (kept_constraints raw)) k (λ t. length-map (kept_constraints raw) (frame_literal raw order k t)))
          fits.constraints;
      justice = omega arith;
      fairness = omega arith;
      gates = rw (length-gates raw circuit order canonical k) fits.gates;
      justice_literals = omega arith;
    };
    symbols = All-nil (IsSymbolOf (unrolled raw order k));
    names = λ i j d lt below. absurd (omega arith);
  }

  pub unrolled_circuit : FitsLimits raw k → IsCircuit (unrolled raw order k)
  unrolled_circuit fits =
      ready_circuit (unrolled raw order k) (unrolled_ready raw circuit order canonical k) used (unrolled_formed fits)
      (All-nil IsReset)
