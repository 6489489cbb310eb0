use Rattle.std.proofs.Common.{◌≡◌, ◌+◌, ◌-◌, length}
use Rattle.aig_sat.specs.model.state.Reading.{ReadUpTo}
use Rattle.aig_sat.proofs.model.reader.read_model.Given as goal

abbrev pub invariant-loop-at : goal.invariant-loop-at
invariant-loop-at l = record {
  read : ReadUpTo l.reader l.text l.at;
  count : l.reader.variables ≡ l.variables;
}

abbrev pub decreases-loop-at : goal.decreases-loop-at
decreases-loop-at l = length l.text + 1 - l.at
