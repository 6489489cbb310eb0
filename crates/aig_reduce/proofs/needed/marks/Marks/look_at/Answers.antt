use Rattle.std.proofs.Common.{suc, Bool, Global, Vec, sym, ap, ◌∙◌, subst}
use Rattle.aig_reduce.specs.state.Needed.{AreNeeded}
use Rattle.aig_reduce.proofs.needed.marks.Marks.look_at.Goals as goal

pub returns : goal.returns
returns g c = λ needed.
    let p = c.args.bench.now.pair in
    let property = c.args.property in
    let t = c.args.frame in
    let ahead : AreNeeded p property (suc t) c.deref.result.now =
    subst (AreNeeded p property (suc t)) (sym (c.deref.ensures.value ∙ ap (λ (v : Vec Bool Global). v.items) c.swap.ensures.y_after))
    needed in
    c.mark_gates.ensures property
    (c.mark_latches.ensures property t ahead
    (c.mark_bad.ensures
    (c.mark_constraints.ensures property t c.requires.frame (λ v m. absurd (c.unmark.ensures v m)))))
