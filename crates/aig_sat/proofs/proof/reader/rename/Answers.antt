use Rattle.std.proofs.Common.{◌≡◌, ℕ, List, ◌+◌, ◌<◌, ◌++◌, ◌∷◌, [], take, sym, ap, ◌∙◌, subst, arith}
use Rattle.std.proofs.lemmas.List.{take_more}
use Rattle.std.proofs.lemmas.List.Elements.{All-push}
use Rattle.aig_parts.specs.Literal.{variable}
use Rattle.aig_sat.specs.proof.Steps.{AreLiterals, AreRenamed, IsRenamed}
use Rattle.aig_sat.proofs.reading.RenamingLemmas.{literals_more, renamed_push}
use Rattle.aig_sat.proofs.proof.reader.rename.Goals as goal

pub loop-literal-preserved : goal.loop-literal-preserved
loop-literal-preserved c =
    let i = c.loop-literal.invariant in
    let k = c.loop-literal.literal-index in
    let all = c.args.spelled.now in
    let lits = c.loop-literal.clause.items in
    let x = c.in_ok-literal.field-0 in
    let old = c.loop-literal.names in
    let new = c.literal.new.self in
    let formula = c.args.names.now.formula in
    let items : c.push.new.self.items ≡ lits ++ x ∷ [] = c.in_ok-push.ensures.items in
    let s = c.literal-item.result in
    let is : IsRenamed formula s x = subst (λ (v : ℕ). IsRenamed v s x) i.formula c.in_ok-literal.ensures.renamed in
    let more : take (k + 1) all ≡ take k all ++ s ∷ [] = take_more all k s c.loop-literal-test.true
    ∙ ap (λ (v : ℕ). take k all ++ v ∷ []) (sym c.literal-item.is) in
    record {
      formula = omega (arith, i.formula, c.literal.ensures.formula);
      never_fewer = omega (arith, i.never_fewer, c.literal.ensures.never_fewer);
      literals = subst (AreLiterals (new.formula + new.own)) (sym items)
          (All-push (λ (y : ℕ). variable y < new.formula + new.own) lits x
          (literals_more (old.formula + old.own) (new.formula + new.own) lits
          (omega (arith, c.literal.ensures.formula, c.literal.ensures.never_fewer)) i.literals) c.in_ok-literal.ensures.below);
      renamed = subst (AreRenamed formula (take (k + 1) all)) (sym items)
          (subst (λ (ys : List ℕ). AreRenamed formula ys (lits ++ x ∷ [])) (sym more)
          (renamed_push formula (take k all) lits s x i.renamed is));
    }
