use Rattle.std.proofs.Common.{arith}
use Rattle.aig_base.proofs.fan_outs.SlotTables.{slot_count, slots_length}
use Rattle.aig_base.proofs.readers.slot_table.SlotTable.count.Goals as goal

pub index-requires : goal.index-requires
index-requires c =
    let lt = rw (← c.self.view_is) at c.requires in
    omega (arith, lt, slots_length c.self.inside.counts.items c.self.inside.gates.items c.self.invariant)

pub returns : goal.returns
returns c s at =
    let there = rw (← c.self.view_is) at at in
    slot_count c.self.inside.counts.items c.self.inside.gates.items c.args.variable c.index.result.now s there c.index.ensures
