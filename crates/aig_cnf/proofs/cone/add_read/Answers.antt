use Rattle.std.proofs.Common.{Bool, List, true, false, slice_index_or, slice_set, ap, ◌∷◌, ◌∙◌, sym}
use Rattle.aig_parts.specs.Literal.{variable}
use Rattle.aig_cnf.proofs.ConeLemmas.{cone_same, gate_left_out, gate_taken}
use Rattle.aig_cnf.proofs.cone.add_read.Goals as goal

pub returns-in_ok-push : goal.returns-in_ok-push
returns-in_ok-push c = λ n literals gates h.
    cone_same n literals (c.args.gate ∷ gates)
    (gate_taken n literals c.args.gate gates c.args.marks.now c.args.found.now.items c.requires h
    (ap (λ v. slice_index_or c.args.marks.now v false) (sym c.var.ensures) ∙ c.if-marks-var.true))
    (c.mark-then-marks-var.ensures
    ∙ ap (λ (ms : List Bool). slice_set ms (variable c.args.gate.rhs1) true) c.mark.ensures)
    c.in_ok-push.ensures.items

pub returns-else-marks-var : goal.returns-else-marks-var
returns-else-marks-var c = λ n literals gates h.
    gate_left_out n literals c.args.gate gates c.args.marks.now c.args.found.now.items c.requires h
    (ap (λ v. slice_index_or c.args.marks.now v false) (sym c.var.ensures) ∙ c.if-marks-var.false)
