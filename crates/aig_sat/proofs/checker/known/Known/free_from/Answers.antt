use Rattle.std.proofs.Common.{arith}
use Rattle.aig_sat.proofs.checking.SearchLemmas.{none_in_both}
use Rattle.aig_sat.proofs.checker.known.Known.free_from.Goals as goal

pub returns-clause-none : goal.returns-clause-none
returns-clause-none c =
    none_in_both c.free-2.result c.args.self.now.truths.items c.args.literals.now c.split_at.result.0.now
    c.split_at.result.1.now c.min-from.result (omega (arith, c.min-from.ensures)) c.split_at.ensures.front
    c.split_at.ensures.back c.in_default.ensures.none c.free-2.ensures.none
