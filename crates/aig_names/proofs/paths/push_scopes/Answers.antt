use Rattle.aig_names.proofs.PathLemmas.{scopes_more}
use Rattle.aig_names.proofs.paths.push_scopes.Goals as goal

pub loop-scope-preserved : goal.loop-scope-preserved
loop-scope-preserved c =
    scopes_more (λ b. b.now) c.args.scopes.now c.loop-scope.scope-index _ c.loop-scope-test.true c.loop-scope.text.items c.push_scope.new.text.items _
    c.in_ok-push_scope.ensures c.loop-scope.invariant
