use Rattle.std.proofs.Common.{◌≡◌, ◌++◌, map, take}
use Rattle.aig_base.specs.Renumbered.{relabelled_latch}
use Rattle.aig_certificate.specs.state.Table.{literal_by}
use Rattle.aig_certificate.proofs.parts.push_latches.Given as goal

abbrev pub invariant-loop-latch : goal.invariant-loop-latch
invariant-loop-latch l =
    l.to ≡ l.initial.to ++ map (relabelled_latch (literal_by l.translation.table)) (take l.latch-index l.latches)
