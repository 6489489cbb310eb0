use Rattle.std.proofs.Common.{◌≡◌, ◌++◌}
use Rattle.aig_names.specs.Header.{closings}
use Rattle.aig_names.proofs.paths.push_closings.Given as goal

abbrev pub invariant-loop-closed : goal.invariant-loop-closed
invariant-loop-closed l = l.text.items ≡ l.fn.text.items ++ closings l._closed
