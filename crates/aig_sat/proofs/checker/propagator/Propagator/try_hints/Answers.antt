use Rattle.aig_sat.proofs.checking.HintLemmas.{tried, walks_then}
use Rattle.aig_sat.proofs.checking.PropagationLemmas.{assumed_then, pulled_clause}
use Rattle.aig_sat.proofs.checker.propagator.Propagator.try_hints.Goals as goal

pub returns-clause-implied : goal.returns-clause-implied
returns-clause-implied c =
    let assumed = c.assume.ensures.implied.assumes in
    record {
      assumes = assumed_then c.args.clause.now c.args.self.now c.assume.new.self _ assumed c.walk.ensures.conflict.propagates;
      implied = pulled_clause c.walk.result c.args.clause.now c.args.self.now c.assume.new.self assumed
          c.walk.ensures.conflict.contradicts;
    }

pub returns-clause-walks : goal.returns-clause-walks
returns-clause-walks c = walks_then _ _ _ c.assume.ensures.walks c.walk.ensures.walks

pub returns-clause-shown : goal.returns-clause-shown
returns-clause-shown c = λ shown.
    tried c.args.self.now c.assume.new.self _ c.args.clause.now c.args.hints.now c.walk.result c.assume.ensures.walks
    c.assume.ensures.looks c.in_ok-assume.ensures.known c.if-branch.false c.walk.ensures.shown shown
