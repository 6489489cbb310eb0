use Rattle.std.proofs.Common.{◌∙◌, ap, take, sym, arith}
use Rattle.std.proofs.lemmas.Option.{same_Some, slice_get_within}
use Rattle.aig_base.proofs.fan_outs.SlotTables.{slot_gates, slots_length}
use Rattle.aig_base.specs.declared.readers.slot_table.Slot.{Slot}
use Rattle.aig_base.specs.state.GateLists.{slots_of}
use Rattle.aig_base.proofs.readers.slot_table.SlotTable.near.Goals as goal

pub index-gates-requires : goal.index-gates-requires
index-gates-requires c =
    let (s, at, is) = rw (← c.self.view_is) at c.requires.slot in
    omega (
      arith,
      slice_get_within (slots_of c.self.inside.counts.items c.self.inside.gates.items) c.args.variable s at,
      slots_length c.self.inside.counts.items c.self.inside.gates.items c.self.invariant,
      c.self.invariant,
    )

pub returns : goal.returns
returns c t here =
    let (s, at, is) = c.requires.slot in
    let same = same_Some s t (sym at ∙ here) in
    let there = rw (← c.self.view_is) at here in
    let gates = slot_gates c.self.inside.counts.items c.self.inside.gates.items c.args.variable c.index-gates.result.now t there c.index-gates.ensures in
    ap (take c.args.count) gates ∙ ap (λ n. take n t.gates) (sym is ∙ ap (λ (x : Slot). x.count) same)
