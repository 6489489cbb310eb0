use Rattle.std.proofs.Common.{◌≡◌, ◌≢◌, ◌≤◌, ◌<◌, ℕ, take, get_or}
use Rattle.std.specs.Prelude.{min}
use Rattle.aig_sim.specs.WitnessText.{IsDecimal}
use Rattle.aig_sim.proofs.witness.text.position_of.Given as goal

abbrev pub invariant-loop-digit : goal.invariant-loop-digit
invariant-loop-digit l = record {
  bound : l.position ≤ 4194304;
  start : l.digit-index ≡ 0 → l.position ≡ 0;
  so_far : 0 < l.digit-index → (n : ℕ) × IsDecimal (take l.digit-index l.digits) n × (l.position ≡ min n 4194304)
      × (get_or l.digits 0 0 ≢ 48 → 0 < n);
}
