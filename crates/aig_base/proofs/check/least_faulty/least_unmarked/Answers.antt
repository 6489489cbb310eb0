use Rattle.std.proofs.Common.{◌≡◌, ◌<◌, Some, false, true, length, get_or, slice_get, sym, ap, subst, arith, ◌∙◌}
use Rattle.std.proofs.Common.{true≢false}
use Rattle.std.proofs.lemmas.Option.{slice_get-get_or, same_Some}
use Rattle.aig_parts.specs.declared.gate.Gate.{Gate}
use Rattle.aig_base.specs.state.LeastFaulty.{IsMarkedGate, gate_variable}
use Rattle.aig_base.proofs.lists.LeastAmong.{least_more, least_kept, bad_one}
use Rattle.aig_base.proofs.check.least_faulty.least_unmarked.Goals as goal
use Rattle.aig_base.proofs.check.least_faulty.least_unmarked.Goals.{then-not-marks-variable, else-not-marks-variable}

pub loop-gate-preserved : goal.loop-gate-preserved
loop-gate-preserved c =
    let g = c.gate-item.result in
    let marks = c.args.marks.now in
    let v = c.var-variable.result in
    let here : gate_variable g < length marks =
    subst (λ (x : Gate). gate_variable x < length marks) (sym c.gate-item.is)
    (c.requires c.loop-gate.gate-index g c.loop-gate-test.true) in
    let within : v < length marks = omega arith in
    let mark : slice_get marks (gate_variable g) ≡ Some (get_or marks v false) =
    ap (slice_get marks) (sym c.var-variable.ensures) ∙ slice_get-get_or marks v false within in
    elim c.if-not-marks-variable.branch [
      | then-not-marks-variable w ↦
          rw (w.least-is, w.lesser-least.ensures)
          (least_more (IsMarkedGate marks) gate_variable c.args.gates.now c.loop-gate.gate-index g c.loop-gate.least
          (Some v)
          c.loop-gate-test.true c.gate-item.is c.loop-gate.invariant
          (bad_one (IsMarkedGate marks) gate_variable g v c.var-variable.ensures
          (λ good. true≢false (same_Some true (get_or marks v false) (sym good ∙ mark)
          ∙ w.if-not-marks-variable.true))))
      | else-not-marks-variable w ↦
          rw w.least-is
          (least_kept (IsMarkedGate marks) gate_variable c.args.gates.now c.loop-gate.gate-index g c.loop-gate.least
          c.loop-gate-test.true c.gate-item.is c.loop-gate.invariant (mark ∙ ap Some w.if-not-marks-variable.false))
    ]
