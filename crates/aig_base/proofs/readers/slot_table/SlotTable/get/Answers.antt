use Rattle.std.proofs.Common.{arith}
use Rattle.aig_base.proofs.fan_outs.SlotTables.{slot_read, slots_length}
use Rattle.aig_base.proofs.readers.slot_table.SlotTable.get.Goals as goal

pub index-requires : goal.index-requires
index-requires c =
    let lt = rw (← c.self.view_is) at c.requires in
    omega (arith, lt, slots_length c.self.inside.counts.items c.self.inside.gates.items c.self.invariant)

pub index-requires-2 : goal.index-requires-2
index-requires-2 c =
    let lt = rw (← c.self.view_is) at c.requires in
    omega (arith, lt, slots_length c.self.inside.counts.items c.self.inside.gates.items c.self.invariant, c.self.invariant)

pub returns : goal.returns
returns c =
    let lt = rw (← c.self.view_is) at c.requires in
    let size = slots_length c.self.inside.counts.items c.self.inside.gates.items c.self.invariant in
    rw (← c.self.view_is)
    (slot_read c.self.inside.counts.items c.self.inside.gates.items c.args.variable c.index.result.now c.index-2.result.now _
    c.self.invariant (omega (arith, lt, size)) c.index.ensures c.index-2.ensures)
