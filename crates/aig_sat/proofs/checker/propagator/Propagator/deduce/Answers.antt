use Rattle.aig_sat.proofs.checking.PropagationLemmas.{agrees_then, pulled, steps}
use Rattle.aig_sat.proofs.checker.propagator.Propagator.deduce.Goals as goal

pub returns-then-branch : goal.returns-then-branch
returns-then-branch c =
    let first = c.in_ok-walk-in-Named.ensures.conflict in
    record {
      conflict = record {
        propagates = first.propagates;
        contradicts = λ _. first.contradicts c.if-branch.true;
      };
    }

pub returns-else-branch : goal.returns-else-branch
returns-else-branch c =
    let first = c.walk.ensures.conflict.propagates in
    let second = c.walk-in-Named.ensures.conflict in
    record {
      conflict = record {
        propagates = steps _ _ _ first second.propagates;
        contradicts = pulled c.walk-in-Named.result c.args.self.now c.walk.new.self
            (λ v a. agrees_then _ _ first v a) second.contradicts;
      };
    }
