use Rattle.std.proofs.Common.{◌≡◌, ℕ, ◌+◌, ◌*◌, ◌/◌, ◌^◌, ◌<◌, get_or}
use Rattle.aig_parts.specs.declared.ternary.Tern.TheVariants.{X}
use Rattle.aig_values.specs.state.LiteralCodes.{signed_value}
use Rattle.aig_values.specs.state.Words.{value_in}
use Rattle.aig_values.proofs.row.literal_codes.unpack_known.Given as goal

abbrev pub invariant-loop-group : goal.invariant-loop-group
invariant-loop-group l = record {
  rest : l.rest ≡ l.bits / 2 ^ (4 * l.group);
  there : (k : ℕ) → k < 8 * l.group → get_or l.codes (l.from + k) X ≡ signed_value (value_in l.bits (k / 2)) k;
  before : (k : ℕ) → k < l.from → get_or l.codes k X ≡ get_or l.fn.codes k X;
}
