use Rattle.std.proofs.Common.{sym, subst}
use Rattle.aig_sat.specs.declared.checker.known.Known.{Known}
use Rattle.aig_sat.specs.checker.Knowledge.{MakesTrue}
use Rattle.aig_sat.proofs.checking.WordLemmas.{met_then}
use Rattle.aig_sat.proofs.checker.checker.Checker.store_watched.Goals as goal

pub returns-in_err-place : goal.returns-in_err-place
returns-in_err-place c = c.store.ensures

pub returns : goal.returns
returns c = λ v h m.
    let s = c.store.ensures v h m in
    record {
      open_still = s.open_still;
      agrees = record {
        met = met_then _ _ c.watch.ensures.clauses v s.agrees.met;
        known = subst (λ (x : Known). MakesTrue v x.truths.items) (sym c.watch.ensures.known) s.agrees.known;
      };
    }
