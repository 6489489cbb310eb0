-- A run that reaches a property of a circuit reaches it in the renumbered circuit too.
use Rattle.std.proofs.Common.{◌≡◌, ℕ, List, length, All, option_map, sym, ◌∙◌, ap, subst, arith}
use Rattle.std.proofs.lemmas.List.{length-map}
use Rattle.std.proofs.lemmas.Option.{slice_get-map}
use Rattle.aig_parts.specs.declared.raw.Raw.{Raw}
use Rattle.aig_parts.specs.declared.ternary.Tern.{Tern}
use Rattle.aig_parts.specs.declared.ternary.Tern.TheVariants.{One}
use Rattle.aig_base.specs.Circuit.{IsCircuit}
use Rattle.aig_base.specs.Order.{IsCanonicalOrder}
use Rattle.aig_base.specs.Renumbered.{renumbered, renumbered_latch, renumbered_literal}
use Rattle.aig_base.specs.Runs.{IsAllowed, ReachesProperty}
use Rattle.aig_base.specs.Value.{Value, Fits}
use Rattle.aig_base.proofs.lists.Positions.{Contains-from_slice_get, unmap}
use Rattle.aig_values.proofs.PropertyLines.{bad_defined, constraint_defined}
use Rattle.aig_refute.specs.Unreachable.{IsUnreachableWithin, IsUnreachable}
use Rattle.aig_refute.proofs.ConvertedTraces.{same_value}
use Rattle.aig_refute.proofs.ConvertedVerdicts.{wrong_same}
use Rattle.aig_refute.proofs.Reached.{allowed_where_none, none_wrong}

module _ (raw : Raw) (circuit : IsCircuit raw) (order : List ℕ) (canonical : IsCanonicalOrder raw order) where
  new_fits : (start : List Tern) (rows : List (List Tern)) → Fits raw start rows → Fits (renumbered raw order) start rows
  new_fits start rows f = record {
    latches = f.latches ∙ sym (length-map raw.latches (renumbered_latch raw order));
    inputs = subst (λ (n : ℕ). All (λ (row : List Tern). length row ≡ n) rows)
        (sym (length-map raw.inputs (renumbered_literal raw order))) f.inputs;
  }

  new_allowed : (start : List Tern) → IsAllowed raw start → IsAllowed (renumbered raw order) start
  new_allowed start allowed = allowed_where_none (renumbered raw order) start
      (λ p wrong. none_wrong raw start allowed p ((wrong_same raw circuit order canonical start p).1 wrong))

  pub new_reaches : (start : List Tern) (rows : List (List Tern)) (t p : ℕ) → ReachesProperty raw start rows t p
      → ReachesProperty (renumbered raw order) start rows t p
  new_reaches start rows t p (fits, allowed, lt, (b, at, (one, all))) = (
    new_fits start rows fits,
    new_allowed start allowed,
    lt,
    (
      renumbered_literal raw order b,
      slice_get-map (renumbered_literal raw order) raw.bad p ∙ ap (option_map (renumbered_literal raw order)) at,
      (
        (same_value raw circuit order canonical start rows fits t b One lt (bad_defined raw circuit.sound p b at)).0 one,
        λ s c le has.
            let (l, i, here, is) = unmap (renumbered_literal raw order) raw.constraints c has in
            subst (λ (n : ℕ). Value (renumbered raw order) start rows s n One) is
            ((same_value raw circuit order canonical start rows fits s l One (omega (arith, le, lt))
            (constraint_defined raw circuit.sound i l here)).0 (all s l le (Contains-from_slice_get raw.constraints i l here))),
      ),
    ),
  )

  pub unreachable_within : (k p : ℕ) → IsUnreachableWithin (renumbered raw order) k p → IsUnreachableWithin raw k p
  unreachable_within k p none start rows t lt reaches = none start rows t lt (new_reaches start rows t p reaches)

  pub unreachable : (p : ℕ) → IsUnreachable (renumbered raw order) p → IsUnreachable raw p
  unreachable p none start rows t reaches = none start rows t (new_reaches start rows t p reaches)
