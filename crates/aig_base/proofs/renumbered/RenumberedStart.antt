-- The start by resets of the renumbered circuit.
use Rattle.std.proofs.Common.{◌≡◌, ◌⊎◌, inl, inr, ℕ, zero, suc, ◌<◌, List, [], ◌∷◌, map, get_or, All, Some, slice_get}
use Rattle.std.proofs.Common.{refl, sym, ◌∙◌, ap, ap₂, arith}
use Rattle.std.proofs.lemmas.List.Elements.{All-head, All-tail}
use Rattle.std.proofs.lemmas.Option.{slice_get-get_or}
use Rattle.aig_parts.specs.declared.latch.Latch.{Latch}
use Rattle.aig_parts.specs.declared.raw.Raw.{Raw}
use Rattle.aig_parts.specs.declared.ternary.Tern.TheVariants.{X}
use Rattle.aig_base.specs.Circuit.{IsCircuit}
use Rattle.aig_base.specs.Order.{IsCanonicalOrder}
use Rattle.aig_base.specs.Renumbered.{renumbered, renumbered_latch, renumbered_literal}
use Rattle.aig_base.specs.Value.{reset_value, start_of}
use Rattle.aig_base.proofs.circuits.Places.{latch, IsDefinition-of_place}
use Rattle.aig_base.proofs.renumbered.RenumberedReady.{latch_literal}
use Rattle.aig_base.proofs.renumbered.RenumberedValueLemmas.{false_literal, true_literal}

unknown : (n : ℕ) → 1 < n → reset_value n ≡ X
unknown zero lt = absurd (omega arith)
unknown (suc zero) lt = absurd (omega arith)
unknown (suc (suc n)) lt = refl

same_starts : (raw : Raw) (order : List ℕ) (xs : List Latch)
    → All (λ x. reset_value (renumbered_literal raw order x.reset) ≡ reset_value x.reset) xs
    → map (λ x. reset_value x.reset) (map (renumbered_latch raw order) xs) ≡ map (λ x. reset_value x.reset) xs
same_starts raw order [] h = refl
same_starts raw order (x ∷ xs) h =
    ap₂ (λ y ys. y ∷ ys) (All-head (λ x. reset_value (renumbered_literal raw order x.reset)
    ≡ reset_value x.reset) x xs h)
    (same_starts raw order xs (All-tail (λ x. reset_value (renumbered_literal raw order x.reset)
    ≡ reset_value x.reset) x xs h))

-- the start by resets is the same
pub start_stays : (raw : Raw) → IsCircuit raw → (order : List ℕ) → IsCanonicalOrder raw order
    → start_of (renumbered raw order) ≡ start_of raw
start_stays raw circuit order canonical =
    same_starts raw order raw.latches
    (λ k d lt. each k (get_or raw.latches k d) (slice_get-get_or raw.latches k d lt) (circuit.sound.resets k d lt))
  where
    each : (p : ℕ) (x : Latch) → slice_get raw.latches p ≡ Some x
        → (x.reset ≡ 0) ⊎ ((x.reset ≡ 1) ⊎ (x.reset ≡ x.lit))
        → reset_value (renumbered_literal raw order x.reset) ≡ reset_value x.reset
    each p x at h = elim h [
      | inl e ↦ rw (e, false_literal raw circuit.sound order canonical) refl
      | inr o ↦ elim o [
        | inl e ↦ rw (e, true_literal raw circuit.sound order canonical) refl
        | inr e ↦
            let d = IsDefinition-of_place raw circuit.sound (latch p) x.lit tt (x, at, refl) in
            ap (λ r. reset_value (renumbered_literal raw order r)) e
            ∙ unknown (renumbered_literal raw order x.lit) (omega
            (arith, latch_literal raw circuit.sound order canonical p x at))
            ∙ sym (ap reset_value e ∙ unknown x.lit (omega (arith, d.0, d.1)))
      ]
    ]
