use Rattle.std.proofs.Common.{◌≡◌, ◌≢◌, ◌∙◌, ℕ, List, Some, slice_get, swap_remove, subst, ap}
use Rattle.std.proofs.lemmas.Option.{slice_get_within}
use Rattle.aig_base.specs.Readers.{GateList}
use Rattle.aig_base.specs.state.ReaderSlots.{items_at}
use Rattle.aig_base.proofs.fan_outs.ListPlaceLemmas.{count_none, follows_removed, length_removed, moved_within}
use Rattle.aig_base.proofs.fan_outs.ListPlaceLemmas.{takes_none}
use Rattle.aig_base.proofs.fan_outs.ReaderLists.{items_with, loses_at}
use Rattle.aig_base.proofs.readers.fan_out_lists.take_out_of.Goals as goal

pub place_of-requires : goal.place_of-requires
place_of-requires c = rw c.list.ensures (λ i. c.requires.kept i c.args.gate)

pub swap_remove-requires : goal.swap_remove-requires
swap_remove-requires c = slice_get_within (items_at c.args.lists.now.slots c.args.variable) c.in-Some.place c.args.gate
    (subst (λ (xs : List ℕ). slice_get xs c.in-Some.place ≡ Some c.args.gate) c.list.ensures c.in-Some.ensures.found)

pub renew_moved-requires-clause-within : goal.renew_moved-requires-clause-within
renew_moved-requires-clause-within c =
    let slots = c.args.lists.now.slots in
    let items = items_at slots c.args.variable in
    let at : slice_get items c.in-Some.place ≡ Some c.args.gate =
    subst (λ (xs : List ℕ). slice_get xs c.in-Some.place ≡ Some c.args.gate) c.list.ensures c.in-Some.ensures.found in
    let within = slice_get_within items c.in-Some.place c.args.gate at in
    let left = swap_remove items c.in-Some.place 0 in
    let now : c.list-in-Some.result.now ≡ left =
    c.list-in-Some.ensures ∙ ap (λ (ls : List GateList). items_at ls c.args.variable) c.swap_remove.ensures.slots
    ∙ items_with slots c.args.variable left c.requires.within in
    rw now (moved_within items c.args.places.now c.in-Some.place 0 c.requires.kept within
    (length_removed items c.in-Some.place 0 within))

pub returns-in-Some-clause-takes : goal.returns-in-Some-clause-takes
returns-in-Some-clause-takes c =
    let slots = c.args.lists.now.slots in
    let items = items_at slots c.args.variable in
    let at : slice_get items c.in-Some.place ≡ Some c.args.gate =
    subst (λ (xs : List ℕ). slice_get xs c.in-Some.place ≡ Some c.args.gate) c.list.ensures c.in-Some.ensures.found in
    let within = slice_get_within items c.in-Some.place c.args.gate at in
    let left = swap_remove items c.in-Some.place 0 in
    let long = length_removed items c.in-Some.place 0 within in
    let now : c.list-in-Some.result.now ≡ left =
    c.list-in-Some.ensures ∙ ap (λ (ls : List GateList). items_at ls c.args.variable) c.swap_remove.ensures.slots
    ∙ items_with slots c.args.variable left c.requires.within in
    let renewed = rw now at c.renew_moved.ensures in
    record {
      left = left;
      list = c.swap_remove.ensures.slots;
      loses = loses_at c.args.gate c.in-Some.place 0 items at long;
      follows = follows_removed items c.args.places.now c.renew_moved.new.places c.in-Some.place 0 within long
          renewed.moved renewed.first renewed.last;
    }

pub returns-in_default-clause-takes : goal.returns-in_default-clause-takes
returns-in_default-clause-takes c =
    takes_none c.args.lists.now.slots c.args.variable c.args.gate c.args.places.now
    (count_none c.args.gate (items_at c.args.lists.now.slots c.args.variable)
    (subst (λ (xs : List ℕ). (i : ℕ) → slice_get xs i ≢ Some c.args.gate) c.list.ensures c.in_default.ensures.none))
