use Rattle.std.proofs.Common.{◌/◌}
use Rattle.aig_values.specs.state.LiteralCodes.{signed_value, WritesCodes}
use Rattle.aig_values.specs.state.Words.{group_value}
use Rattle.aig_values.proofs.row.literal_codes.unpack_group.Given as goal

abbrev pub invariant-loop-place : goal.invariant-loop-place
invariant-loop-place l = WritesCodes l.from l.place (λ k. signed_value (group_value l.group (k / 2)) k) l.fn.codes l.codes
