use Rattle.std.proofs.Common.{◌*◌, sym, ◌∙◌}
use Rattle.aig_cut.specs.state.Marks.{marked}
use Rattle.aig_cut.proofs.Walks.{free_front, free_gate, free_more, own_front, own_gate, own_more}
use Rattle.aig_cut.proofs.parts.cut_gate.Goals as goal

pub returns-then-not-is_free-clause-gate : goal.returns-then-not-is_free-clause-gate
returns-then-not-is_free-clause-gate c =
    sym (own_gate ((marked c.args.marks.now).free c.args.gate.lhs) c.args.inputs.now.next c.args.gate
    (sym c.is_free.ensures ∙ c.if-not-is_free.true))

pub returns-then-not-is_free-clause-added : goal.returns-then-not-is_free-clause-added
returns-then-not-is_free-clause-added c =
    sym (own_front ((marked c.args.marks.now).free c.args.gate.lhs) (2 * c.args.inputs.now.next) c.args.inputs.now.literals
    (sym c.is_free.ensures ∙ c.if-not-is_free.true))

pub returns-then-not-is_free-clause-next : goal.returns-then-not-is_free-clause-next
returns-then-not-is_free-clause-next c =
    sym (own_more ((marked c.args.marks.now).free c.args.gate.lhs) c.args.inputs.now.next
    (sym c.is_free.ensures ∙ c.if-not-is_free.true))

pub returns-clause-gate : goal.returns-clause-gate
returns-clause-gate c =
    free_gate ((marked c.args.marks.now).free c.args.gate.lhs) c.args.inputs.now.next c.args.gate c.in_ok-input.input
    c.new-one.result (sym c.is_free.ensures ∙ c.if-not-is_free.false) c.in_ok-input.ensures.literal c.new-one.ensures

pub returns-clause-added : goal.returns-clause-added
returns-clause-added c =
    c.in_ok-input.ensures.added
    ∙ sym (free_front ((marked c.args.marks.now).free c.args.gate.lhs) (2 * c.args.inputs.now.next) c.args.inputs.now.literals
    (sym c.is_free.ensures ∙ c.if-not-is_free.false))

pub returns-clause-next : goal.returns-clause-next
returns-clause-next c =
    c.in_ok-input.ensures.next
    ∙ sym (free_more ((marked c.args.marks.now).free c.args.gate.lhs) c.args.inputs.now.next
    (sym c.is_free.ensures ∙ c.if-not-is_free.false))
