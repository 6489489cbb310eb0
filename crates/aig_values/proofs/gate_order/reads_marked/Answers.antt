use Rattle.std.proofs.Common.{◌<◌, ◌∙◌, length, sym, subst, arith}
use Rattle.std.proofs.lemmas.Bool.{false≢true}
use Rattle.aig_values.proofs.GateOrders.{is_marked}
use Rattle.aig_values.proofs.gate_order.reads_marked.Goals as goal
use Rattle.aig_base.specs.state.Marks.{IsMarked}

pub returns-then-marks-var : goal.returns-then-marks-var
returns-then-marks-var c =
    let marks = c.args.marks.now in
    let below0 : c.var.result < length marks = omega (arith, c.var.ensures, c.requires.rhs0) in
    let below1 : c.var-then-marks-var.result < length marks =
    omega (arith, c.var-then-marks-var.ensures, c.requires.rhs1) in
    let side0 = subst (IsMarked marks) c.var.ensures ((is_marked marks c.var.result below0).0 c.if-marks-var.true) in
    let side1 = is_marked marks c.var-then-marks-var.result below1 in (
      λ h. (side0, subst (IsMarked marks) c.var-then-marks-var.ensures (side1.0 h)),
      λ both. side1.1 (subst (IsMarked marks) (sym c.var-then-marks-var.ensures) both.1),
    )

pub returns-else-marks-var : goal.returns-else-marks-var
returns-else-marks-var c =
    let marks = c.args.marks.now in
    let below0 : c.var.result < length marks = omega (arith, c.var.ensures, c.requires.rhs0) in
    let side0 = is_marked marks c.var.result below0 in (
      λ h. absurd (false≢true (sym c.if-marks-var.false ∙ h)),
      λ both. side0.1 (subst (IsMarked marks) (sym c.var.ensures) both.0),
    )
