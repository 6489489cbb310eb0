use Rattle.std.proofs.Common.{refl}
use Rattle.aig_base.proofs.rewires.VisitLemmas.{is_off, missing, visited_more}
use Rattle.aig_base.proofs.level.visits.Visits.visit.Goals as goal

pub returns-then-not-index-clause-among : goal.returns-then-not-index-clause-among
returns-then-not-index-clause-among c =
    visited_more c.args.variable c.args.self.now _ c.requires.within
    (is_off c.args.self.now.met.items c.args.variable c.index.result.now c.index.ensures c.if-not-index.true) refl
    c.push_reserved.ensures.items
    c.push_reserved.ensures.capacity

pub returns-then-not-index-clause-fewer : goal.returns-then-not-index-clause-fewer
returns-then-not-index-clause-fewer c = λ never.
    missing c.args.self.now.met.items c.args.variable c.requires.within
    (is_off c.args.self.now.met.items c.args.variable c.index.result.now c.index.ensures c.if-not-index.true)
