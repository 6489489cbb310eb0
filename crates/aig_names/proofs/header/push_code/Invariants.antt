use Rattle.std.proofs.Common.{◌≡◌, ◌++◌}
use Rattle.aig_names.specs.Names.{identifier_code}
use Rattle.aig_names.proofs.header.push_code.Given as goal

abbrev pub invariant-loop-rest : goal.invariant-loop-rest
invariant-loop-rest l = l.text.items ++ identifier_code l.rest ≡ l.fn.text.items ++ identifier_code l.signal

abbrev pub decreases-loop-rest : goal.decreases-loop-rest
decreases-loop-rest l = l.rest
