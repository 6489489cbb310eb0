use Rattle.std.proofs.Common.{inr, refl, rules}
use Rattle.aig_sat.proofs.checking.HintLemmas.{left_more, left_one, walks_by}
use Rattle.aig_sat.proofs.checking.PropagationLemmas.{by_taking, unit_true}
use Rattle.aig_sat.proofs.checker.propagator.Propagator.look_at.Goals as goal

pub returns-in_err-take-in-One-clause-conflict : goal.returns-in_err-take-in-One-clause-conflict
returns-in_err-take-in-One-clause-conflict c = record {
  propagates = by_taking _ c.args.self.now _ refl c.take.ensures.takes
      (unit_true c.args.self.now c.args.place _ _ c.in-Some.ensures.some (c.left-left.ensures.one _ c.in-One.is));
  contradicts = search rules;
}

pub returns-in_err-take-in-One-clause-walks : goal.returns-in_err-take-in-One-clause-walks
returns-in_err-take-in-One-clause-walks c = walks_by _ c.args.self.now _ refl refl c.take.ensures.takes

pub returns-in_ok-take-in-One-clause-conflict : goal.returns-in_ok-take-in-One-clause-conflict
returns-in_ok-take-in-One-clause-conflict c = record {
  propagates = by_taking _ c.args.self.now _ refl c.take.ensures.takes
      (unit_true c.args.self.now c.args.place _ _ c.in-Some.ensures.some (c.left-left.ensures.one _ c.in-One.is));
  contradicts = search rules;
}

pub returns-in_ok-take-in-One-clause-walks : goal.returns-in_ok-take-in-One-clause-walks
returns-in_ok-take-in-One-clause-walks c = walks_by _ c.args.self.now _ refl refl c.take.ensures.takes

pub returns-in_ok-take-in-One-clause-left : goal.returns-in_ok-take-in-One-clause-left
returns-in_ok-take-in-One-clause-left c = λ k stands but.
    inr (left_one c.args.self.now.clauses.words.items c.args.self.now.known.truths.items _ c.args.place _ c.left-left.result _
    c.in-Some.ensures.some c.left-left.ensures.but c.in-One.is c.in_ok-take-in-One.ensures.known k but)

pub returns-in-More-clause-left : goal.returns-in-More-clause-left
returns-in-More-clause-left c = λ k stands but.
    absurd (left_more c.args.self.now.clauses.words.items c.args.self.now.known.truths.items c.args.place _ c.left-left.result
    c.in-Some.ensures.some c.left-left.ensures.but c.in-More.is k but)
