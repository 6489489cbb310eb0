use Rattle.std.proofs.Common.{get_or, refl, sym, subst, ◌+◌, ◌∙◌, arith}
use Rattle.std.proofs.lemmas.Bool.{false≢true}
use Rattle.aig_sat.specs.declared.checker.known.Left.{Left}
use Rattle.aig_sat.proofs.checking.LeftLemmas.{IsLeft, Leaves, leaves_false, leaves_one, left_later}
use Rattle.aig_sat.proofs.checker.known.Known.left.Goals as goal
use Rattle.aig_sat.proofs.checker.known.Known.left.Goals.{then-not-is_false+in-Nothing, else-not-is_false}

pub loop-literal-preserved : goal.loop-literal-preserved
loop-literal-preserved c =
    let truths = c.args.self.now.truths.items in
    let literals = c.args.literals.now in
    let n = c.loop-literal.literal-index in
    elim c.if-not-is_false.branch [
      | then-not-is_false+in-Nothing w ↦ record {
        leaves = subst (λ (x : Left). Leaves truths literals (n + 1) x) (sym w.left-is)
            (leaves_one truths literals n (get_or literals n 0)
            (subst (λ (x : Left). Leaves truths literals n x) w.in-Nothing.is c.loop-literal.invariant.leaves) refl);
        one = subst (λ (x : Left). IsLeft truths literals (n + 1) x) (sym w.left-is)
            (n, omega arith, refl, λ h. false≢true (sym (sym c.is_false.ensures ∙ w.if-not-is_false.true) ∙ h));
      }
      | else-not-is_false w ↦ record {
        leaves = subst (λ (x : Left). Leaves truths literals (n + 1) x) (sym w.left-is)
            (leaves_false truths literals n c.loop-literal.left c.loop-literal.invariant.leaves
            (sym c.is_false.ensures ∙ w.if-not-is_false.false));
        one = subst (λ (x : Left). IsLeft truths literals (n + 1) x) (sym w.left-is)
            (left_later truths literals n c.loop-literal.left c.loop-literal.invariant.one);
      }
    ]
