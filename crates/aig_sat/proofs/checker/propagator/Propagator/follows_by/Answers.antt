use Rattle.std.proofs.Common.{inl, ℕ, ◌/◌, ap, rules, sym, subst, ◌∙◌}
use Rattle.aig_sat.specs.checker.Hints.{IsShown}
use Rattle.aig_sat.specs.checker.Numbers.{numbered, variables}
use Rattle.aig_sat.proofs.checker.propagator.Propagator.follows_by.Goals as goal

pub returns-clause-implied : goal.returns-clause-implied
returns-clause-implied c =
    let before = c.args.self.now.known.truths.items in
    let tried = c.try_hints-follows.ensures.implied in
    record {
      narrows = record {
        same = tried.assumes.same;
        fewer = c.undo.ensures.forgotten before (tried.assumes.found before (λ m known. inl known));
      };
      implied = search rules;
    }

pub returns-clause-stays : goal.returns-clause-stays
returns-clause-stays c =
    let walks = c.try_hints-follows.ensures.walks in
    record {
      clauses = walks.clauses;
      ids = walks.ids;
      variables = ap (λ n. n / 2) (c.undo.ensures.len ∙ walks.variables);
    }

pub returns-clause-shown : goal.returns-clause-shown
returns-clause-shown c = λ shown.
    c.try_hints-follows.ensures.shown
    (subst (λ (x : ℕ). IsShown (numbered c.args.self.now) (variables c.args.self.now) x c.args.clause.now c.args.hints.now)
    (sym c.limit-self.ensures) shown)
