use Rattle.std.proofs.Common.{◌∙◌, ap, length, sym}
use Rattle.aig_base.specs.state.GateLists.{Slots}
use Rattle.aig_base.proofs.fan_outs.SlotTables.{slots_length}
use Rattle.aig_base.proofs.readers.slot_table.SlotTable.len.Goals as goal

pub returns : goal.returns
returns c =
    c.len.ensures ∙ c.self.inside.counts.ok.0 ∙ sym (slots_length c.self.inside.counts.items c.self.inside.gates.items c.self.invariant)
    ∙ ap (λ (t : Slots). length t.slots) c.self.view_is
