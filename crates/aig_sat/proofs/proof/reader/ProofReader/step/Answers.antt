use Rattle.std.proofs.Common.{ℕ, List, Some, subst}
use Rattle.aig_sat.specs.proof.Steps.{AreRenamed}
use Rattle.aig_sat.specs.proof.state.Taking.{Begins}
use Rattle.aig_sat.proofs.reading.TakingLemmas.{step_taken}
use Rattle.aig_sat.proofs.proof.reader.ProofReader.step.Goals as goal

pub returns-clause-step : goal.returns-clause-step
returns-clause-step g c =
    let s = c.args.spelling in
    let f = c.args.is_first in
    let a = c.self.inside.bytes in
    let b = c.next_kind.new.bytes in
    let new = c.read_clause.new.bytes in
    let left = g.R.Read.left in
    let l = left c.args.reader.now in
    let m = left c.next_kind.new.reader in
    let n = left c.read_clause.new.reader in
    let begins : Begins s a b l m (Some c.in-Some.kind) = subst (Begins s a b l m) c.in-Some.is c.in_ok-kind.ensures.kind in
    let formula = c.self.inside.names.formula in
    let meant : AreRenamed formula c.read_clause.new.clause.items c.rename.new.clause.items =
    subst (λ (xs : List ℕ). AreRenamed formula xs c.rename.new.clause.items) c.deref.ensures.value c.in_ok-rename.ensures.renamed in
    rw (← c.self.view_is) (step_taken s f a b new l m n c.in-Some.kind formula
    c.read_clause.new.clause.items c.rename.new.clause.items begins c.in_ok-read_clause.ensures.spelled meant)
