use Rattle.std.proofs.Common.{◌≡◌, option_copied}
use Rattle.aig_certificate.specs.Mapping.{from_mapping, lines}
use Rattle.aig_certificate.specs.state.Lines.{left, lines_of}
use Rattle.aig_certificate.proofs.mapping.mapping_of.Given as goal

abbrev pub invariant-loop-rest : goal.invariant-loop-rest
invariant-loop-rest l = from_mapping (lines_of (option_copied l.rest)) ≡ from_mapping (lines l.comment)

abbrev pub decreases-loop-rest : goal.decreases-loop-rest
decreases-loop-rest l = left (option_copied l.rest)
