use Rattle.std.proofs.Common.{◌++◌, map, take}
use Rattle.aig_base.specs.state.Entries.{AreEntries}
use Rattle.aig_base.specs.state.LeastFaulty.{latch_variable}
use Rattle.aig_parts.specs.Literal.{variable}
use Rattle.aig_base.proofs.check.entries.Entries.enter_latches.Given as goal

abbrev pub invariant-loop-position : goal.invariant-loop-position
invariant-loop-position l = AreEntries l.raw.max_var (map variable l.raw.inputs ++ map latch_variable
    (take l.position l.raw.latches)) l.self.table.items l.self.again
