use Rattle.aig_sat.proofs.checking.PropagationLemmas.{assumed_then, pulled_clause}
use Rattle.aig_sat.proofs.checker.propagator.Propagator.try_clause.Goals as goal

pub returns : goal.returns
returns c =
    let assumed = c.assume.ensures.implied.assumes in
    record {
      implied = record {
        assumes = assumed_then c.args.clause.now c.args.self.now c.assume.new.self _ assumed
            c.deduce.ensures.conflict.propagates;
        implied = pulled_clause c.deduce.result c.args.clause.now c.args.self.now c.assume.new.self assumed
            c.deduce.ensures.conflict.contradicts;
      };
    }
