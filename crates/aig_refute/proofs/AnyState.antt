-- Runs of the circuit that starts in any state have the values that they have in the circuit.
use Rattle.std.proofs.Common.{◌≡◌, inl, ℕ, zero, suc, List, [], ◌∷◌, map, Some, slice_get, refl, sym, ◌∙◌, ap, subst}
use Rattle.std.proofs.lemmas.List.{length-map}
use Rattle.aig_parts.specs.declared.latch.Latch.{Latch}
use Rattle.aig_parts.specs.declared.raw.Raw.{Raw}
use Rattle.aig_parts.specs.declared.ternary.Tern.{Tern}
use Rattle.aig_base.specs.Runs.{IsAllowed, ReachesBad}
use Rattle.aig_base.specs.Value as value
use Rattle.aig_base.specs.Value.{Value, Fits}
use Rattle.aig_cnf.specs.Query.{from_any_state, uninitialised_latch}
use Rattle.aig_cnf.proofs.AnyCircuit.{any_latch}

pub latch_from : (xs : List Latch) (p : ℕ) (y : Latch) → slice_get (map uninitialised_latch xs) p ≡ Some y
    → (x : Latch) × (slice_get xs p ≡ Some x) × (y ≡ uninitialised_latch x)
latch_from [] p y at = cc
latch_from (x ∷ xs) zero y at = (x, refl, let e : Some (uninitialised_latch x) ≡ Some y = at in let f : y ≡ uninitialised_latch x = cc in f)
latch_from (x ∷ xs) (suc p) y at = latch_from xs p y at

module _ (raw : Raw) where
  pub any_allowed : (start : List Tern) → IsAllowed (from_any_state raw) start
  any_allowed start p y w at is =
      let (x, here, same) = latch_from raw.latches p y at in
      inl (ap (λ (z : Latch). z.reset) same ∙ sym (ap (λ (z : Latch). z.lit) same))

  module _ (start : List Tern) (rows : List (List Tern)) where
    to_any : {t l : ℕ} {w : Tern} → Value raw start rows t l w → Value (from_any_state raw) start rows t l w
    to_any (value.constant_false t) = value.constant_false t
    to_any (value.constant_true t) = value.constant_true t
    to_any (value.input t p l w row at is cell) = value.input t p l w row at is cell
    to_any (value.latch_first p x w at is) = value.latch_first p (uninitialised_latch x) w (any_latch raw p x at) is
    to_any (value.latch_next t p x w at v) = value.latch_next t p (uninitialised_latch x) w (any_latch raw p x at) (to_any v)
    to_any (value.gate t q g a b at va vb) = value.gate t q g a b at (to_any va) (to_any vb)
    to_any (value.negated t l w over neg v) = value.negated t l w over neg (to_any v)

    from_any : {t l : ℕ} {w : Tern} → Value (from_any_state raw) start rows t l w → Value raw start rows t l w
    from_any (value.constant_false t) = value.constant_false t
    from_any (value.constant_true t) = value.constant_true t
    from_any (value.input t p l w row at is cell) = value.input t p l w row at is cell
    from_any (value.latch_first p y w at is) =
        let (x, here, same) = latch_from raw.latches p y at in
        subst (λ (z : Latch). Value raw start rows 0 z.lit w) (sym same) (value.latch_first p x w here is)
    from_any (value.latch_next t p y w at v) =
        let (x, here, same) = latch_from raw.latches p y at in
        let next : Value raw start rows t x.next w =
        subst (λ (z : Latch). Value raw start rows t z.next w) same (from_any v) in
        subst (λ (z : Latch). Value raw start rows (suc t) z.lit w) (sym same) (value.latch_next t p x w here next)
    from_any (value.gate t q g a b at va vb) = value.gate t q g a b at (from_any va) (from_any vb)
    from_any (value.negated t l w over neg v) = value.negated t l w over neg (from_any v)

    pub reaches_any : (t b : ℕ) → ReachesBad raw start rows t b → ReachesBad (from_any_state raw) start rows t b
    reaches_any t b (bad, all) = (to_any bad, λ s c le has. to_any (all s c le has))

    pub reaches_from_any : (t b : ℕ) → ReachesBad (from_any_state raw) start rows t b → ReachesBad raw start rows t b
    reaches_from_any t b (bad, all) = (from_any bad, λ s c le has. from_any (all s c le has))

    pub any_fits : Fits raw start rows → Fits (from_any_state raw) start rows
    any_fits f = record {
      latches = f.latches ∙ sym (length-map raw.latches uninitialised_latch);
      inputs = f.inputs;
    }

    pub fits_from_any : Fits (from_any_state raw) start rows → Fits raw start rows
    fits_from_any f = record {
      latches = f.latches ∙ length-map raw.latches uninitialised_latch;
      inputs = f.inputs;
    }
