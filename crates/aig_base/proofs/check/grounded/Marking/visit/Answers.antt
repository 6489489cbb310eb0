use Rattle.std.proofs.Common.{◌≡◌, ℕ, ◌+◌, ◌%◌, ap, subst, sym, ◌∙◌, true≢false}
use Rattle.aig_base.specs.state.Descent.{level_above}
use Rattle.aig_base.specs.state.Marks.{IsMarked, AddsMark}
use Rattle.aig_base.proofs.checks.Marking.{moves_from_mark, visit_none, visit_both}
use Rattle.aig_base.proofs.check.grounded.Marking.visit.Goals as goal
use Rattle.aig_base.proofs.check.grounded.Marking.visit.Goals.{else-is_marked-via-then-is_marked+else-is_marked-2}
use Rattle.aig_base.proofs.check.grounded.Marking.visit.Goals.{else-is_marked-via-else-is_marked}

pub returns-in_ok-mark-clause-moves : goal.returns-in_ok-mark-clause-moves
returns-in_ok-mark-clause-moves c = moves_from_mark c.in_ok-mark.ensures

pub returns-in_ok-mark-clause-marking : goal.returns-in_ok-mark-clause-marking
returns-in_ok-mark-clause-marking c = λ raw next p link at on i.
    let marks = c.args.self.now.walk.met.items in
    let pending = c.args.self.now.walk.pending.items in
    let marks' = c.mark.new.self.walk.met.items in
    let pending' = c.mark.new.self.walk.pending.items in
    let m0 = subst (λ (v : ℕ). IsMarked marks v) c.var.ensures (c.is_marked.ensures.0 c.if-is_marked.true) in
    let m1 = subst (λ (v : ℕ). IsMarked marks v) c.var-then-is_marked.ensures
    (c.is_marked-then-is_marked.ensures.0 c.if-is_marked-2.true) in
    let adds = subst (λ (v : ℕ). AddsMark v marks pending marks' pending') c.var-then-is_marked-2-4.ensures
    c.in_ok-mark.ensures in
    let levels = c.args.levels.now in
    let is : (c.max.result + 1) % 4294967296 ≡ level_above levels c.args.gate % 4294967296 =
    ap (λ n. (n + 1) % 4294967296)
    (rw (c.var-then-is_marked-2.ensures, c.var-then-is_marked-2-2.ensures) at c.max.ensures) in
    rw c.var-then-is_marked-2-3.ensures
    (visit_both raw next p link c.args.gate at on marks pending marks' pending' levels _ is m0 m1 adds i)

pub returns-else-is_marked-clause-marking : goal.returns-else-is_marked-clause-marking
returns-else-is_marked-clause-marking c = λ raw next p link at on i.
    let marks = c.args.self.now.walk.met.items in
    visit_none raw next p link c.args.gate at on marks c.args.self.now.walk.pending.items c.args.levels.now
    (λ a b. elim c.else-is_marked.branch [
      | else-is_marked-via-then-is_marked+else-is_marked-2 w ↦
          let m = subst (λ (v : ℕ). IsMarked marks v) (sym w.var-then-is_marked.ensures) b in
          true≢false (sym (w.is_marked-then-is_marked.ensures.1 m) ∙ w.if-is_marked-2.false)
      | else-is_marked-via-else-is_marked w ↦
          let m = subst (λ (v : ℕ). IsMarked marks v) (sym c.var.ensures) a in
          true≢false (sym (c.is_marked.ensures.1 m) ∙ w.if-is_marked.false)
    ])
    i
