-- Latches that do not start as their resets say.
use Rattle.std.proofs.Common.{◌≡◌, ◌≢◌, ℕ, ◌+◌, ◌≤◌, List, length, take, Some, slice_get, refl, sym, ap, ◌∙◌}
use Rattle.std.proofs.Common.{arith}
use Rattle.std.proofs.lemmas.List.{take_all, take_more_same}
use Rattle.std.proofs.lemmas.Option.{get_or_from_slice_get, same_Some, slice_get-map, slice_get_within}
use Rattle.std.proofs.lemmas.Slice.Zip.{AllZip-long}
use Rattle.aig_parts.specs.declared.latch.Latch.{Latch}
use Rattle.aig_parts.specs.declared.ternary.Tern.{Tern}
use Rattle.aig_parts.specs.declared.ternary.Tern.TheVariants.{Zero}
use Rattle.aig_base.specs.Runs.{Allows}
use Rattle.aig_base.specs.Value.{reset_value, start_of}
use Rattle.aig_base.specs.Resets.{IsSameLatch}
use Rattle.aig_base.proofs.values.Resets.{start_length}
use Rattle.aig_sim.specs.Verdict.{StartsWrong}
use Rattle.aig_sim.proofs.VerdictLemmas.{starts_right}
use Rattle.aig_shell.specs.declared.session.Session.{Session}
use Rattle.aig_shell.specs.Session.{own_circuit}

module _ (s : Session) (k : ℕ) (own now : Latch) (at : slice_get s.run.latches.items k ≡ Some own)
    (stands : slice_get s.run.bench.pair.circuit.latches k ≡ Some now) where
  pub start_is : slice_get (start_of s.run.bench.pair.circuit) k ≡ Some (reset_value now.reset)
  start_is = slice_get-map (λ (x : Latch). reset_value x.reset) s.run.bench.pair.circuit.latches k ∙ rw stands refl

  pub wrong_start : (Allows own (reset_value now.reset) → ⊥) → StartsWrong (own_circuit s) (start_of s.run.bench.pair.circuit) k
  wrong_start wrong = record { latch = own; value = reset_value now.reset; latch_is = at; value_is = start_is; wrong = wrong }

  pub right_start : Allows own (reset_value now.reset) → StartsWrong (own_circuit s) (start_of s.run.bench.pair.circuit) k → ⊥
  right_start allowed = starts_right (own_circuit s) (start_of s.run.bench.pair.circuit) k own (reset_value now.reset) at start_is allowed

  own_start_is : slice_get (start_of (own_circuit s)) k ≡ Some (reset_value own.reset)
  own_start_is = slice_get-map (λ (x : Latch). reset_value x.reset) s.run.latches.items k ∙ rw at refl

  pub same_start_more : reset_value now.reset ≡ reset_value own.reset
      → take k (start_of s.run.bench.pair.circuit) ≡ take k (start_of (own_circuit s))
      → take (k + 1) (start_of s.run.bench.pair.circuit) ≡ take (k + 1) (start_of (own_circuit s))
  same_start_more same before =
      take_more_same (start_of s.run.bench.pair.circuit) (start_of (own_circuit s)) k Zero
      (slice_get_within (start_of s.run.bench.pair.circuit) k (reset_value now.reset) start_is)
      (slice_get_within (start_of (own_circuit s)) k (reset_value own.reset) own_start_is) before
      (get_or_from_slice_get (start_of s.run.bench.pair.circuit) k (reset_value now.reset) Zero start_is ∙ same
      ∙ sym (get_or_from_slice_get (start_of (own_circuit s)) k (reset_value own.reset) Zero own_start_is))

  pub starts_differ : reset_value now.reset ≢ reset_value own.reset → start_of s.run.bench.pair.circuit ≢ start_of (own_circuit s)
  starts_differ other e =
      other (same_Some (reset_value now.reset) (reset_value own.reset)
      (sym start_is ∙ ap (λ (ss : List Tern). slice_get ss k) e ∙ own_start_is))

module _ (s : Session) where
  pub same_size : length s.run.bench.pair.circuit.latches ≡ length s.run.latches.items
  same_size = AllZip-long IsSameLatch s.run.latches.items s.run.bench.pair.circuit.latches s.has_latches

  pub starts_same : (n : ℕ) → length s.run.latches.items ≤ n
      → take n (start_of s.run.bench.pair.circuit) ≡ take n (start_of (own_circuit s))
      → start_of s.run.bench.pair.circuit ≡ start_of (own_circuit s)
  starts_same n le e =
      sym (take_all n (start_of s.run.bench.pair.circuit)
      (omega (arith, le, same_size, start_length s.run.bench.pair.circuit)))
      ∙ e ∙ take_all n (start_of (own_circuit s)) (omega (arith, le, start_length (own_circuit s)))
