use Rattle.std.proofs.Common.{◌≡◌, ◌++◌, length, map, All, option_copied}
use Rattle.aig_certificate.specs.Mapping.{IsPair, pair_line}
use Rattle.aig_certificate.specs.state.Lines.{lines_of}
use Rattle.aig_certificate.proofs.mapping.pairs_of.Given as goal

abbrev pub invariant-loop-pair : goal.invariant-loop-pair
invariant-loop-pair l = record {
  lines : lines_of (option_copied l.fn.lines) ≡ map pair_line l.pairs ++ lines_of (option_copied l.rest);
  count : length l.pairs ≡ l._pair;
  each : All (IsPair l.model l.certificate) l.pairs;
}
