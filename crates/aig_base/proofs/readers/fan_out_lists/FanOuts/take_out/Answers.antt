use Rattle.std.proofs.Common.{◌∙◌, ◌<◌, length, subst, sym, ap, arith}
use Rattle.std.proofs.lemmas.List.{with_items_is}
use Rattle.aig_base.specs.state.FanOuts.{AreFanOuts, FanOutLists}
use Rattle.aig_base.proofs.fan_outs.ListPlaceLemmas.{follows_size, taken_out}
use Rattle.aig_base.proofs.fan_outs.ReaderLists.{takes_out}
use Rattle.aig_base.proofs.fan_outs.TidyLists.{narrow_tidy}
use Rattle.aig_base.proofs.readers.fan_out_lists.FanOuts.take_out.Goals as goal

pub take_out_of-requires-clause-narrow : goal.take_out_of-requires-clause-narrow
take_out_of-requires-clause-narrow c = narrow_tidy c.self.inside.lists.slots c.self.invariant.tidy c.args.variable

pub take_out_of-requires-clause-kept : goal.take_out_of-requires-clause-kept
take_out_of-requires-clause-kept c = rw c.deref_mut.ensures.value (c.self.invariant.kept.one c.args.variable)

pub invariant_of-self : goal.invariant_of-self
invariant_of-self c =
    let slots = c.self.inside.lists.slots in
    let new = c.take_out_of.new.lists.slots in
    let after = c.take_out_of.new.places in
    let takes = rw c.deref_mut.ensures.value at c.take_out_of.ensures.takes in
    let within : c.args.variable < length slots =
    omega (arith, ap (λ (f : FanOutLists). length f.slots) c.self.view_is) in
    let same = with_items_is c.self.inside.places after
    (follows_size _ _ _ _ c.take_out_of.ensures.takes.follows ∙ c.deref_mut.ensures.len) in
    subst (λ ps. AreFanOuts new ps) (sym same)
    (taken_out slots new c.args.variable c.args.gate c.self.inside.places.items after within c.self.invariant takes)

pub returns : goal.returns
returns c =
    let slots = c.self.inside.lists.slots in
    let within : c.args.variable < length slots =
    omega (arith, ap (λ (f : FanOutLists). length f.slots) c.self.view_is) in
    rw (← c.self.view_is)
    (takes_out slots c.take_out_of.new.lists.slots c.args.variable c.args.gate _ _ within
    (c.self.invariant.tidy.once c.args.variable c.args.gate) c.take_out_of.ensures.takes)
