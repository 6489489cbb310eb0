use Rattle.std.proofs.Common.{◌∙◌, ◌≡◌, ◌<◌, ℕ, length, subst, sym, ap, arith}
use Rattle.std.proofs.lemmas.List.{with_items_is}
use Rattle.aig_base.specs.state.FanOuts.{AreFanOuts, FanOutLists}
use Rattle.aig_base.specs.state.ReaderSlots.{FitsOneReader, tally}
use Rattle.aig_base.proofs.fan_outs.ListPlaceLemmas.{place_covered}
use Rattle.aig_base.proofs.fan_outs.TidyLists.{added, narrow_tidy}
use Rattle.aig_base.proofs.readers.fan_out_lists.FanOuts.add_to_both.Goals as goal

pub add_to_lists-new-requires-clause-room0 : goal.add_to_lists-new-requires-clause-room0
add_to_lists-new-requires-clause-room0 c =
    subst (λ (f : FanOutLists). FitsOneReader f.slots c.args.first) (sym c.self.view_is) c.requires.room0

pub add_to_lists-new-requires-clause-room1 : goal.add_to_lists-new-requires-clause-room1
add_to_lists-new-requires-clause-room1 c =
    subst (λ (f : FanOutLists). FitsOneReader f.slots c.args.second) (sym c.self.view_is) c.requires.room1

pub add_to_lists-new-requires-clause-narrow : goal.add_to_lists-new-requires-clause-narrow
add_to_lists-new-requires-clause-narrow c =
    narrow_tidy c.self.inside.lists.slots c.self.invariant.tidy

pub write_places-requires-clause-first : goal.write_places-requires-clause-first
write_places-requires-clause-first c =
    let slots = c.self.inside.lists.slots in
    let room = subst (λ (f : FanOutLists). FitsOneReader f.slots c.args.first) (sym c.self.view_is) c.requires.room0 in
    let gate : c.args.gate < length slots = omega (arith, ap (λ (f : FanOutLists). length f.slots) c.self.view_is) in
    let stands = c.add_to_lists-new.ensures.stands in
    rw c.deref_mut.ensures.value
    (place_covered slots c.self.inside.places.items c.args.first c.add_to_lists-new.result.first c.args.gate
    c.self.invariant.kept room stands.first gate)

pub write_places-requires-clause-second : goal.write_places-requires-clause-second
write_places-requires-clause-second c =
    let slots = c.self.inside.lists.slots in
    let room = subst (λ (f : FanOutLists). FitsOneReader f.slots c.args.second) (sym c.self.view_is) c.requires.room1 in
    let gate : c.args.gate < length slots = omega (arith, ap (λ (f : FanOutLists). length f.slots) c.self.view_is) in
    let stands = c.add_to_lists-new.ensures.stands in
    rw c.deref_mut.ensures.value
    (place_covered slots c.self.inside.places.items c.args.second c.add_to_lists-new.result.second c.args.gate
    c.self.invariant.kept room stands.second gate)

pub invariant_of-self : goal.invariant_of-self
invariant_of-self c =
    let slots = c.self.inside.lists.slots in
    let new = c.add_to_lists-new.new.lists.slots in
    let after = c.write_places.new.places in
    let gate : c.args.gate < length slots = omega (arith, ap (λ (f : FanOutLists). length f.slots) c.self.view_is) in
    let places = with_items_is c.self.inside.places after (c.write_places.ensures.size ∙ c.deref_mut.ensures.len) in
    let absent = subst (λ (f : FanOutLists). (v : ℕ) → tally f.slots v c.args.gate ≡ 0) (sym c.self.view_is)
    c.requires.absent in
    subst (λ ps. AreFanOuts new ps) (sym places)
    (added c.args.first c.args.second c.args.gate c.add_to_lists-new.result slots new c.self.inside.places.items after
    c.add_to_lists-new.ensures.adds c.add_to_lists-new.ensures.stands
    (rw c.deref_mut.ensures.value at c.write_places.ensures) gate absent c.self.invariant)

pub returns : goal.returns
returns c = rw (← c.self.view_is) c.add_to_lists-new.ensures.adds
