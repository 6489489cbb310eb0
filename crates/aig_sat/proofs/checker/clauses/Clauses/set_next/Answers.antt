use Rattle.std.proofs.Common.{arith}
use Rattle.aig_sat.proofs.checking.WordLemmas.{met_then, write_shrinks}
use Rattle.aig_sat.proofs.checker.clauses.Clauses.set_next.Goals as goal

pub returns-then-word-ge-HEAD : goal.returns-then-word-ge-HEAD
returns-then-word-ge-HEAD c =
    met_then _ _ (write_shrinks c.args.self.now.words.items c.args.place _ _ c.args.self.now.laid_out
    (omega (arith, c.word.ensures, c.if-word-ge-HEAD.true)) (omega arith) (omega arith) (omega arith))
