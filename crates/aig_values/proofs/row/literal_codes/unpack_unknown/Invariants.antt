use Rattle.aig_parts.specs.declared.ternary.Tern.TheVariants.{X}
use Rattle.aig_values.specs.state.LiteralCodes.{WritesCodes}
use Rattle.aig_values.proofs.row.literal_codes.unpack_unknown.Given as goal

abbrev pub invariant-loop-place : goal.invariant-loop-place
invariant-loop-place l = WritesCodes l.from l.place (λ k. X) l.fn.codes l.codes
