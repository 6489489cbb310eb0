use Rattle.aig_sat.proofs.checking.ListingLemmas.{finds_listed}
use Rattle.aig_sat.proofs.checker.clauses.Clauses.find.Goals as goal

pub returns-then-self-gt0-clause-all : goal.returns-then-self-gt0-clause-all
returns-then-self-gt0-clause-all c =
    finds_listed _ _ _ c.args.literal _ c.list_all.new.self.laid_out c.in_ok-list_all.ensures.all c.in_ok-find.ensures
