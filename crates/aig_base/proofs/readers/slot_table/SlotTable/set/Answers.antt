use Rattle.std.proofs.Common.{◌∙◌, ap, set, length-set, arith}
use Rattle.aig_base.specs.state.GateLists.{Slots}
use Rattle.aig_base.proofs.fan_outs.SlotTables.{slots_length, slots_set}
use Rattle.aig_base.proofs.readers.slot_table.SlotTable.set.Goals as goal

pub index_mut-requires : goal.index_mut-requires
index_mut-requires c =
    let lt = rw (← c.self.view_is) at c.requires in
    omega (arith, lt, slots_length c.self.inside.counts.items c.self.inside.gates.items c.self.invariant)

pub index_mut-requires-2 : goal.index_mut-requires-2
index_mut-requires-2 c =
    let lt = rw (← c.self.view_is) at c.requires in
    omega (arith, lt, slots_length c.self.inside.counts.items c.self.inside.gates.items c.self.invariant, c.self.invariant)

pub invariant_of-self : goal.invariant_of-self
invariant_of-self c =
    let counts = length-set c.self.inside.counts.items c.args.variable c.args.slot.count in
    let gates = length-set c.self.inside.gates.items c.args.variable c.args.slot.gates in
    omega (arith, c.self.invariant)

pub returns-clause-slots : goal.returns-clause-slots
returns-clause-slots c =
    slots_set c.self.inside.counts.items c.self.inside.gates.items c.args.variable c.args.slot.count c.args.slot.gates
    ∙ ap (λ (t : Slots). set t.slots c.args.variable c.args.slot) c.self.view_is
