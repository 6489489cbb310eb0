use Rattle.std.proofs.Common.{arith}
use Rattle.aig_base.proofs.fan_outs.SlotTables.{slots_length}
use Rattle.aig_base.proofs.readers.slot_table.SlotTable.reserve.Goals as goal

pub returns-clause-fitting : goal.returns-clause-fitting
returns-clause-fitting c =
    rw (c.in_ok-reserve.ensures.items, c.in_ok-reserve-2.ensures.items)
    (omega (
      arith,
      slots_length c.self.inside.counts.items c.self.inside.gates.items c.self.invariant,
      c.self.invariant,
      c.self.inside.counts.ok.0,
      c.self.inside.gates.ok.0,
      c.in_ok-reserve.ensures.len,
      c.in_ok-reserve.ensures.ok,
      c.in_ok-reserve-2.ensures.len,
      c.in_ok-reserve-2.ensures.ok,
    ))
