use Rattle.std.proofs.Common.{◌+◌, arith}
use Rattle.std.proofs.lemmas.List.{length-set}
use Rattle.aig_sat.proofs.checking.ListingLemmas.{lists_stand}
use Rattle.aig_sat.proofs.checking.PutLemmas.{stand_laid_out}
use Rattle.aig_sat.proofs.checking.StartLemmas.{stand_begins}
use Rattle.aig_sat.proofs.checker.clauses.Clauses.stand.Goals as goal

pub invariant_of-self : goal.invariant_of-self
invariant_of-self c = record {
  laid_out = stand_laid_out _ _ _ c.args.self.now.laid_out c.requires.last;
  begins = stand_begins _ _ _ _ _ c.requires.last c.args.self.now.begins c.requires.begun c.requires.named;
  lists = lists_stand _ _ _ _ _ _ c.requires.last c.requires.unlisted c.args.self.now.lists;
  within = omega (arith, c.args.self.now.within, length-set c.args.self.now.words.items c.args.place (0x8000_0000 + c.args.size));
}
