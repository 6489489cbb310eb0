use Rattle.std.proofs.Common.{◌≡◌, Bool, true, false, sym, ◌∙◌, ◌*◌}
use Rattle.std.proofs.lemmas.Result.{IfOk-weaker, on_ok_weaker}
use Rattle.aig_cut.specs.state.Marks.{marked}
use Rattle.aig_cut.proofs.Walks.{free_front, free_more, free_next, own_front, own_more, own_next}
use Rattle.aig_cut.proofs.parts.next_of.Goals as goal

pub returns-then-is_free-clause-literal : goal.returns-then-is_free-clause-literal
returns-then-is_free-clause-literal c =
    let b = (marked c.args.marks.now).free c.args.latch.now.lit in
    IfOk-weaker c.add.result _ _
    (λ l e. e ∙ sym (free_next b c.args.inputs.now.next c.args.latch.now (sym c.is_free.ensures ∙ c.if-is_free.true)))
    c.add.ensures.literal

pub returns-then-is_free-clause-added : goal.returns-then-is_free-clause-added
returns-then-is_free-clause-added c =
    let b = (marked c.args.marks.now).free c.args.latch.now.lit in
    on_ok_weaker c.add.result
    (λ e. e ∙ sym (free_front b (2 * c.args.inputs.now.next) c.args.inputs.now.literals (sym c.is_free.ensures ∙ c.if-is_free.true)))
    c.add.ensures.added

pub returns-then-is_free-clause-next : goal.returns-then-is_free-clause-next
returns-then-is_free-clause-next c =
    let b = (marked c.args.marks.now).free c.args.latch.now.lit in
    on_ok_weaker c.add.result
    (λ e. e ∙ sym (free_more b c.args.inputs.now.next (sym c.is_free.ensures ∙ c.if-is_free.true)))
    c.add.ensures.next

pub returns-else-is_free-clause-literal : goal.returns-else-is_free-clause-literal
returns-else-is_free-clause-literal c =
    sym (own_next ((marked c.args.marks.now).free c.args.latch.now.lit) c.args.inputs.now.next c.args.latch.now
    (sym c.is_free.ensures ∙ c.if-is_free.false))

pub returns-else-is_free-clause-added : goal.returns-else-is_free-clause-added
returns-else-is_free-clause-added c =
    sym (own_front ((marked c.args.marks.now).free c.args.latch.now.lit) (2 * c.args.inputs.now.next) c.args.inputs.now.literals
    (sym c.is_free.ensures ∙ c.if-is_free.false))

pub returns-else-is_free-clause-next : goal.returns-else-is_free-clause-next
returns-else-is_free-clause-next c =
    sym (own_more ((marked c.args.marks.now).free c.args.latch.now.lit) c.args.inputs.now.next
    (sym c.is_free.ensures ∙ c.if-is_free.false))
