use Rattle.std.proofs.Common.{◌≡◌, ◌<◌, ◌++◌, ◌∷◌, [], ℕ, Option, Some, sym, subst, rules, arith}
use Rattle.std.specs.Prelude.{IfSome}
use Rattle.std.proofs.lemmas.List.Elements.{All-push}
use Rattle.aig_bytes.proofs.Results.{has_none}
use Rattle.aig_parts.specs.Literal.{variable}
use Rattle.aig_sat.specs.proof.Steps.{AreLiterals}
use Rattle.aig_sat.specs.proof.state.Taking.{HasClause, LeadsAll, LeadsBy}
use Rattle.aig_sat.proofs.reading.TakingLemmas.{leads_end, leads_more}
use Rattle.aig_sat.proofs.proof.either.read_clause.Goals as goal

pub loop-literal-preserved : goal.loop-literal-preserved
loop-literal-preserved g c =
    let i = c.loop-literal.invariant in
    let a = c.args.bytes.now in
    let b = c.loop-literal.bytes in
    let new = c.next_literal.new.bytes in
    let left = g.R.Read.left in
    let l = c.args.reader.now in
    let m = c.loop-literal.reader in
    let n = c.next_literal.new.reader in
    let s = c.args.spelling in
    let f = c.args.is_first in
    let lits = c.loop-literal.clause.items in
    let x = c.in-Some.literal in
    let items : c.push.new.self.items ≡ lits ++ x ∷ [] = search rules in
    let below : variable x < 2147483647 = subst (λ (o : Option ℕ). IfSome o (λ y. variable y < 2147483647)) c.in-Some.is
    c.in_ok-literal.ensures.variable in
    let by : LeadsBy s f b new (left m) (left n) (Some x) = subst (LeadsBy s f b new (left m) (left n)) c.in-Some.is
    c.in_ok-literal.ensures.literal in
    record {
      count = omega (arith, i.count, c.in_ok-literal.ensures.refused.count);
      never_more = omega (arith, i.never_more, c.in_ok-literal.ensures.refused.lowers);
      literals = subst (AreLiterals 2147483647) (sym items)
          (All-push (λ (y : ℕ). variable y < 2147483647) lits x i.literals below);
      goes_on = λ h. subst (λ (o : Option ℕ). IfSome o (λ y. HasClause s f b (left m) → HasClause s f new (left n))) c.in-Some.is
          c.in_ok-literal.ensures.goes_on (i.goes_on h);
      spelled = subst (LeadsAll s f a new (left l) (left n)) (sym items) (leads_more s f a b new (left l) (left m) (left n) lits x i.spelled by);
    }

pub returns-clause-spelled : goal.returns-clause-spelled
returns-clause-spelled g c =
    let a = c.args.bytes.now in
    let b = c.loop-literal.bytes in
    let new = c.next_literal.new.bytes in
    let left = g.R.Read.left in
    let l = c.args.reader.now in
    let m = c.loop-literal.reader in
    let n = c.next_literal.new.reader in
    let s = c.args.spelling in
    let f = c.args.is_first in
    leads_end s f a b new (left l) (left m) (left n) c.loop-literal.clause.items c.loop-literal.invariant.spelled
    (subst (LeadsBy s f b new (left m) (left n)) (has_none c.in_ok-literal.field-0 c.in_default.not-Some) c.in_ok-literal.ensures.literal)
