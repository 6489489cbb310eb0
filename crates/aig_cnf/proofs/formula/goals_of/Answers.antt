use Rattle.std.proofs.Common.{ℕ, List, ◌∷◌, [], ◌++◌, ◌+◌, ◌*◌, slice_index, ap, ◌∙◌}
use Rattle.aig_cnf.specs.Formula.{goals}
use Rattle.aig_cnf.proofs.FormulaText.{frames_more}
use Rattle.aig_cnf.proofs.GoalLemmas.{is_goal}
use Rattle.aig_cnf.proofs.formula.goals_of.Goals as goal

pub goal_at-requires : goal.goal_at-requires
goal_at-requires c =
    is_goal c.args.circuit.now.bad c.args.bads c.loop-frame.frame c.args.frames c.args.property c.loop-frame-test.true
    c.requires.property c.requires.bad

pub loop-frame-preserved : goal.loop-frame-preserved
loop-frame-preserved c =
    let new = c.args.circuit.now in
    c.in_ok-push.ensures.items ∙ ap (λ (xs : List ℕ). xs ++ c.goal_at.result ∷ []) c.loop-frame.invariant
    ∙ ap (λ n. goals new c.args.bads c.loop-frame.frame c.args.property ++ n ∷ []) c.goal_at.ensures
    ∙ frames_more (λ t. slice_index new.bad (t * c.args.bads + c.args.property) ∷ []) c.loop-frame.frame
