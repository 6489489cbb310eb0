-- What can be unrolled. Where the standard is silent, this is our own choice.
-- Example: 64 inputs fit for 65,535 frames.
use Rattle.std.specs.Prelude.{ℕ, ◌+◌, ◌*◌, ◌<◌, ◌≤◌, ◌⊎◌, length}
use Rattle.aig_parts.specs.declared.raw.Raw.{Raw}
use Rattle.aig_parts.specs.Formed.{limit}
use Rattle.aig_parts.specs.Limits.{frame_limit}
use Rattle.aig_unroll.specs.FrameLiteral.{frame_size, input_count}
use Rattle.aig_unroll.specs.Unrolled.{kept_constraints}

-- there are justice properties or fairness constraints
abbrev pub HasLiveness : Raw → Type 0
HasLiveness raw = (0 < length raw.justice) ⊎ (0 < length raw.fairness)

-- neither the number of frames, nor the greatest variable of the unrolled circuit, nor one of its sections is over its
-- limit
pub record FitsLimits (raw : Raw) (k : ℕ) : Type 0 where
  pub frames : k ≤ frame_limit
  pub max_var : input_count raw k + k * frame_size raw ≤ limit
  pub inputs : input_count raw k ≤ limit
  pub outputs : k * length raw.outputs ≤ limit
  pub bad : k * length raw.bad ≤ limit
  pub constraints : k * length (kept_constraints raw) ≤ limit
  pub gates : k * frame_size raw ≤ limit
