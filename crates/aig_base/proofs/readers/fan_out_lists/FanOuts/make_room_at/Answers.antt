use Rattle.std.proofs.Common.{◌<◌, length, ap, arith}
use Rattle.aig_base.specs.state.FanOuts.{FanOutLists}
use Rattle.aig_base.proofs.fan_outs.ListPlaceLemmas.{kept_more, kept_roomy}
use Rattle.aig_base.proofs.fan_outs.ReaderLists.{gets_keeps}
use Rattle.aig_base.proofs.fan_outs.TidyLists.{roomy}
use Rattle.aig_base.proofs.readers.fan_out_lists.FanOuts.make_room_at.Goals as goal

pub invariant_of-self : goal.invariant_of-self
invariant_of-self c = record {
  tidy = c.self.invariant.tidy;
  kept = kept_more c.self.inside.lists.slots c.self.inside.places.items c.cover_for_list.new.places.items
      c.cover_for_list.ensures.extends c.self.invariant.kept;
}

pub invariant_of-self-2 : goal.invariant_of-self-2
invariant_of-self-2 c =
    let slots = c.self.inside.lists.slots in
    let new = c.make_room.new.self.slots in
    let v = c.args.variable in
    let gets = c.make_room.ensures.gets in
    let within : v < length slots = omega (arith, ap (λ (f : FanOutLists). length f.slots) c.self.view_is) in
    let len = ap length c.list-len.ensures in
    let covers = c.in_ok-cover_for_list.ensures.covers in
    roomy slots new _ (gets_keeps slots new v within gets) c.self.invariant.tidy
    (kept_roomy slots new v c.self.inside.places.items c.cover_for_list.new.places.items within gets
    c.cover_for_list.ensures.extends
    (λ lt. (let all = covers (omega arith) in omega (arith, c.len.ensures))) c.self.invariant.kept)

pub returns-clause-keeps : goal.returns-clause-keeps
returns-clause-keeps c =
    let slots = c.self.inside.lists.slots in
    let within : c.args.variable < length slots =
    omega (arith, ap (λ (f : FanOutLists). length f.slots) c.self.view_is) in
    rw (← c.self.view_is) (gets_keeps slots c.make_room.new.self.slots c.args.variable within c.make_room.ensures.gets)
