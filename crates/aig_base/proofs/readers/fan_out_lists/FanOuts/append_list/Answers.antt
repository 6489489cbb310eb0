use Rattle.std.proofs.Common.{◌∙◌, ◌<◌, ◌≤◌, [], length, refl, subst, sym, ap, arith}
use Rattle.aig_parts.specs.Literal.{variable}
use Rattle.aig_base.specs.Readers.{GateList}
use Rattle.aig_base.specs.state.FanOuts.{FanOutLists}
use Rattle.aig_base.specs.state.ReaderSlots.{FitsOneReader}
use Rattle.aig_base.proofs.fan_outs.ReaderLists.{fits_pushed, push_same}
use Rattle.aig_base.proofs.fan_outs.TidyLists.{absent_over, fitting_capacity, pushed}
use Rattle.aig_base.proofs.readers.fan_out_lists.FanOuts.append_list.Goals as goal

abbrev none : GateList
none = record { items = []; capacity = 4 }

pub push_list-requires : goal.push_list-requires
push_list-requires c =
    let fits = subst (λ (f : FanOutLists). length f.slots < f.fitting) (sym c.self.view_is) c.requires.list in
    let lt = fitting_capacity (c.self.inside.lists.fitting) (length c.self.inside.places.items)
    (length c.self.inside.lists.slots) fits in
    omega arith

pub invariant_of-self : goal.invariant_of-self
invariant_of-self c =
    let slots = c.self.inside.lists.slots in
    let fits = subst (λ (f : FanOutLists). length f.slots < f.fitting) (sym c.self.view_is) c.requires.list in
    rw c.push_list.ensures.slots
    (pushed slots none c.self.inside.places.items (c.self.inside.lists.fitting) refl
    (omega arith) fits
    (omega (arith, ap (λ (f : FanOutLists). length f.slots) c.self.view_is)) c.self.invariant)

pub add_to_both-requires-clause-room0 : goal.add_to_both-requires-clause-room0
add_to_both-requires-clause-room0 c =
    rw (c.push_list.ensures.slots, c.var.ensures)
    (fits_pushed c.self.inside.lists.slots none _
    (subst (λ (f : FanOutLists). FitsOneReader f.slots (variable c.args.gate.now.rhs0)) (sym c.self.view_is) c.requires.room0))

pub add_to_both-requires-clause-room1 : goal.add_to_both-requires-clause-room1
add_to_both-requires-clause-room1 c =
    rw (c.push_list.ensures.slots, c.var-2.ensures)
    (fits_pushed c.self.inside.lists.slots none _
    (subst (λ (f : FanOutLists). FitsOneReader f.slots (variable c.args.gate.now.rhs1)) (sym c.self.view_is) c.requires.room1))

pub add_to_both-requires-clause-absent : goal.add_to_both-requires-clause-absent
add_to_both-requires-clause-absent c =
    let slots = c.self.inside.lists.slots in
    let over : length slots ≤ c.var-3.result =
    omega (arith, c.var-3.ensures, ap (λ (f : FanOutLists). length f.slots) c.self.view_is) in
    rw c.push_list.ensures.slots (λ v.
    push_same slots none refl v c.var-3.result ∙ absent_over slots c.self.invariant.tidy c.var-3.result over v)
