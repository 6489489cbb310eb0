use Rattle.std.proofs.Common.{ℕ}
use Rattle.aig_base.specs.Grounded.{Level}
use Rattle.aig_base.proofs.levels.GreatestLemmas.{AreLevelsWithin}
use Rattle.aig_base.proofs.level.greatest.greatest_level.Given as goal

abbrev pub invariant-loop-gate : goal.invariant-loop-gate
invariant-loop-gate l = record {
  reached : (v : ℕ) × Level l.circuit v l.greatest;
  within : AreLevelsWithin l.circuit l.levels l.gate-index l.greatest;
}
