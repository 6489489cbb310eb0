use Rattle.std.proofs.Common.{◌<◌, ◌++◌, ◌∷◌, ◌∙◌, [], ap, length, set, subst, sym, take, arith}
use Rattle.std.proofs.lemmas.Option.{same_Some, slice_get_within}
use Rattle.aig_base.specs.declared.readers.slot_table.Slot.{Slot}
use Rattle.aig_base.specs.state.GateLists.{Slots, slots_of}
use Rattle.aig_base.proofs.fan_outs.SlotTables.{slot, slot_gates, slots_length, slots_set}
use Rattle.aig_base.proofs.readers.slot_table.SlotTable.push_near.Goals as goal

pub index_mut-requires : goal.index_mut-requires
index_mut-requires c =
    let (s, at, is, room) = rw (← c.self.view_is) at c.requires.slot in
    omega (
      arith,
      slice_get_within (slots_of c.self.inside.counts.items c.self.inside.gates.items) c.args.variable s at,
      slots_length c.self.inside.counts.items c.self.inside.gates.items c.self.invariant,
      c.self.invariant,
    )

pub index_mut-requires-2 : goal.index_mut-requires-2
index_mut-requires-2 c =
    let (s, at, is, room) = rw (← c.self.view_is) at c.requires.slot in
    omega (
      arith,
      slice_get_within (slots_of c.self.inside.counts.items c.self.inside.gates.items) c.args.variable s at,
      slots_length c.self.inside.counts.items c.self.inside.gates.items c.self.invariant,
      c.self.invariant,
    )

pub put_near-more-requires : goal.put_near-more-requires
put_near-more-requires c =
    let (s, at, is, room) = c.requires.slot in
    let there = rw (← c.self.view_is) at at in
    let gates = slot_gates c.self.inside.counts.items c.self.inside.gates.items c.args.variable c.index_mut.result.now s there c.index_mut.ensures.value in
    rw (gates, ← is) room

pub returns-clause-slots : goal.returns-clause-slots
returns-clause-slots c s here =
    let (t, at, is, room) = c.requires.slot in
    let same = same_Some t s (sym at ∙ here) in
    let there = rw (← c.self.view_is) at here in
    let gates = slot_gates c.self.inside.counts.items c.self.inside.gates.items c.args.variable c.index_mut.result.now s there c.index_mut.ensures.value in
    let count = sym is ∙ ap (λ (x : Slot). x.count) same in
    let new = slot c.put_near-more.result c.put_near-more.new.gates in (
      new,
      slots_set c.self.inside.counts.items c.self.inside.gates.items c.args.variable c.put_near-more.result c.put_near-more.new.gates
          ∙ ap (λ (z : Slots). set z.slots c.args.variable new) c.self.view_is,
      omega (arith, c.put_near-more.ensures.count.0, c.put_near-more.ensures.count.1),
      c.put_near-more.ensures.items ∙ ap (λ g. take c.args.count g ++ c.args.gate ∷ []) gates
          ∙ ap (λ n. take n s.gates ++ c.args.gate ∷ []) count,
    )
