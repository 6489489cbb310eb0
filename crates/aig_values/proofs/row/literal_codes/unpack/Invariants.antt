use Rattle.std.proofs.Common.{◌≡◌, ℕ, ◌*◌, ◌<◌, get_or}
use Rattle.aig_parts.specs.declared.ternary.Tern.TheVariants.{X}
use Rattle.aig_values.specs.Cells.{literal_value}
use Rattle.aig_values.specs.state.Words.{spelled}
use Rattle.aig_values.proofs.row.literal_codes.unpack.Given as goal

abbrev pub invariant-loop-place : goal.invariant-loop-place
invariant-loop-place l = (k : ℕ) → k < 64 * l.place → get_or l.codes k X ≡ literal_value (spelled l.words) k
