use Rattle.std.proofs.Common.{◌≡◌, ◌++◌, replicate, None}
use Rattle.aig_certificate.proofs.translation.all_meanings.Given as goal

abbrev pub invariant-loop-gate : goal.invariant-loop-gate
invariant-loop-gate l = l.meanings.items ≡ l.shared.inputs ++ l.shared.latches ++ replicate l._gate None
