use Rattle.std.proofs.Common.{◌≡◌, ◌<◌, ◌≤◌, ◌++◌, take}
use Rattle.std.specs.Fmt.{decimal}
use Rattle.aig_sat.proofs.model.number.longer_number.Given as goal

abbrev pub invariant-loop-digit : goal.invariant-loop-digit
invariant-loop-digit l = record {
  some : 0 < l.number;
  most : l.number ≤ l.most;
  spelled : decimal l.first ++ take l.digit-index l.digits ≡ decimal l.number;
}
