use Rattle.std.proofs.Common.{refl, ◌∙◌, arith}
use Rattle.aig_sat.proofs.checking.NumberLemmas.{others_kept}
use Rattle.aig_sat.proofs.checker.checker.Checker.delete_named.Goals as goal

pub returns-clause-others : goal.returns-clause-others
returns-clause-others c = record {
  hinted = refl;
  variables = omega arith;
  refuted = λ conflict. conflict;
  others = λ number clause ne h.
      others_kept _ _ _ _ c.id_of-number.result c.forget-place.result number clause c.args.self.now.propagator.clauses.laid_out
      c.remove_named.new.self.laid_out (λ is. ne (is ∙ c.id_of-number.ensures)) c.forget-place.ensures
      c.remove_named.ensures.named h;
}
