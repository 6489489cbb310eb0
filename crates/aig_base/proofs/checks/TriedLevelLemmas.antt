-- Levels that are tried: the walk ends, and what passes the test are levels.
use Rattle.std.proofs.Common.{◌≡◌, ℕ, ◌+◌, ◌<◌, ◌==◌, max, List, length, count_by, get_or, slice_get, Some}
use Rattle.std.proofs.Common.{All, ◌∙◌, ap, arith}
use Rattle.std.proofs.lemmas.List.Elements.{All-contains}
use Rattle.std.proofs.lemmas.Option.{slice_get-get_or, get_or_from_slice_get}
use Rattle.aig_parts.specs.declared.raw.Raw.{Raw}
use Rattle.aig_base.specs.declared.check.tried_levels.Node.{Node}
use Rattle.aig_base.specs.Grounded as by
use Rattle.aig_base.specs.Grounded.{IsSource, Level}
use Rattle.aig_base.specs.Levels.{AreLevels}
use Rattle.aig_parts.specs.Literal.{variable}
use Rattle.aig_base.specs.Sections.{uses, IsDefined}
use Rattle.aig_base.specs.Sound.{IsSound}
use Rattle.aig_base.specs.state.LeastFaulty.{IsGroundedGate}
use Rattle.aig_base.specs.state.TriedLevels.{AreStepped, IsStep}
use Rattle.aig_base.proofs.checks.Ascending.{all_grounded}
use Rattle.aig_base.proofs.circuits.Gates.{level_in_range}
use Rattle.aig_base.proofs.lists.Positions.{Contains-from_slice_get}

-- how many variables were not met
abbrev pub unmet : List Node → ℕ
unmet nodes = count_by (λ a. a.level == 4294967295) nodes

module _ (raw : Raw) (levels : List ℕ) (fits : AreStepped raw levels) where
  source_level : (v : ℕ) → IsSource raw v → get_or levels v 0 ≡ 0
  source_level v by.IsSource.constant = get_or_from_slice_get levels 0 0 0 fits.constant
  source_level v (by.IsSource.input p l at) =
      get_or_from_slice_get levels (variable l) 0 0
      (All-contains (λ l. slice_get levels (variable l) ≡ Some 0) raw.inputs l fits.inputs
      (Contains-from_slice_get raw.inputs p l at))
  source_level v (by.IsSource.latch p x at) =
      get_or_from_slice_get levels (variable x.lit) 0 0
      (All-contains (λ x. slice_get levels (variable x.lit) ≡ Some 0) raw.latches x fits.latches
      (Contains-from_slice_get raw.latches p x at))

  level_tried : {v n : ℕ} → Level raw v n → get_or levels v 0 ≡ n
  level_tried (by.Level.source v s) = source_level v s
  level_tried (by.Level.gate q g a b at l0 l1) =
      let step : IsStep levels g = All-contains (IsStep levels) raw.gates g fits.gates
      (Contains-from_slice_get raw.gates q g at) in
      let first = level_tried l0 in
      let second = level_tried l1 in
      step ∙ ap (λ k. max k (get_or levels (variable g.rhs1) 0) + 1) first ∙ ap (λ k. max a k + 1) second

  -- of sound parts they are the levels
  pub tried_are_levels : IsSound raw → AreLevels raw levels
  tried_are_levels sound = record {
    size = fits.size;
    each = λ v n known.
        let within : v < length levels = let most = level_in_range raw sound known in omega (arith, fits.size) in
        slice_get-get_or levels v 0 within ∙ ap Some (level_tried known);
  }

  -- there is no cycle
  pub tried_grounded : All (λ l. IsDefined raw (variable l)) (uses raw) → All (IsGroundedGate raw) raw.gates
  tried_grounded defined =
      all_grounded raw defined (λ v. get_or levels v 0)
      (λ k d lt. let step : IsStep levels (get_or raw.gates k d) = fits.gates k d lt in (omega arith, omega arith))
