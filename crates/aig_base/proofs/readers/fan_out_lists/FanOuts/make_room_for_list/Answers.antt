use Rattle.std.proofs.Common.{length, subst, sym, arith}
use Rattle.std.proofs.lemmas.Result.{on_ok_weaker}
use Rattle.aig_base.specs.state.FanOuts.{FanOutLists}
use Rattle.aig_base.specs.state.ReaderSlots.{FitsOneReader, KeepsLists}
use Rattle.aig_base.proofs.fan_outs.ListPlaceLemmas.{kept_more}
use Rattle.aig_base.proofs.fan_outs.TidyLists.{fits_one_more}
use Rattle.aig_base.proofs.readers.fan_out_lists.FanOuts.make_room_for_list.Goals as goal

pub invariant_of-self-2 : goal.invariant_of-self-2
invariant_of-self-2 c = rw c.make_room_for_list.ensures.slots (record {
  tidy = c.self.invariant.tidy;
  kept = kept_more c.self.inside.lists.slots c.self.inside.places.items c.cover_more.new.places.items
      c.cover_more.ensures.extends c.self.invariant.kept;
})

pub returns-clause-keeps : goal.returns-clause-keeps
returns-clause-keeps c =
    rw c.make_room_for_list.ensures.slots
    (subst (λ (f : FanOutLists). KeepsLists c.args.self.now.slots f.slots) (sym c.self.view_is)
    c.make_room_at_both.ensures.keeps)

pub returns-clause-list : goal.returns-clause-list
returns-clause-list c =
    on_ok_weaker c.cover_more.result (λ covers.
    fits_one_more (c.make_room_for_list.new.self.fitting) (length c.cover_more.new.places.items)
    (length c.make_room_for_list.new.self.slots) (omega (arith, c.in_ok-make_room_for_list.ensures.fitting))
    (λ some. (let all = covers some in omega (arith, c.len.ensures))))
    c.cover_more.ensures.covers

pub returns-clause-room : goal.returns-clause-room
returns-clause-room c =
    on_ok_weaker c.cover_more.result (λ covers.
    rw c.make_room_for_list.ensures.slots
    (subst (λ (f : FanOutLists). FitsOneReader f.slots c.args.first × FitsOneReader f.slots c.args.second) (sym c.self.view_is)
    c.in_ok-make_room_at_both.ensures.ok)) c.cover_more.ensures.covers
