use Rattle.std.proofs.Common.{◌∙◌, refl, sym}
use Rattle.aig_sat.proofs.checking.PropagationLemmas.{by_taking, none_true, unit_true}
use Rattle.aig_sat.proofs.checking.SearchLemmas.{false_beside}
use Rattle.aig_sat.proofs.checker.propagator.Propagator.visit.Goals as goal

pub returns-then-is_false-clause-conflict : goal.returns-then-is_false-clause-conflict
returns-then-is_false-clause-conflict c =
    none_true c.args.self.now c.args.watch.clause _ _ c.in-Some.ensures.some
    (false_beside c.args.self.now.known.truths.items c.in-Some.clause.literals.now c.split_at.result.1.now
    c.place_of-lost.result c.place_of-lost.ensures (sym c.is_false.ensures ∙ c.if-not-is_false.false)
    c.split_at.ensures.back c.in_default-free_from.ensures.none)
    (sym c.is_false-2.ensures ∙ c.if-is_false.true)

pub returns-in_err-take-clause-propagates : goal.returns-in_err-take-clause-propagates
returns-in_err-take-clause-propagates c =
    by_taking _ c.args.self.now _ refl c.take.ensures.takes
    (unit_true c.args.self.now c.args.watch.clause _ _ c.in-Some.ensures.some
    (false_beside c.args.self.now.known.truths.items c.in-Some.clause.literals.now c.split_at.result.1.now
    c.place_of-lost.result c.place_of-lost.ensures (sym c.is_false.ensures ∙ c.if-not-is_false.false)
    c.split_at.ensures.back c.in_default-free_from.ensures.none))

pub returns : goal.returns
returns c = record {
  propagates = by_taking _ c.args.self.now _ refl c.take.ensures.takes
      (unit_true c.args.self.now c.args.watch.clause _ _ c.in-Some.ensures.some
      (false_beside c.args.self.now.known.truths.items c.in-Some.clause.literals.now c.split_at.result.1.now
      c.place_of-lost.result c.place_of-lost.ensures (sym c.is_false.ensures ∙ c.if-not-is_false.false)
      c.split_at.ensures.back c.in_default-free_from.ensures.none));
  conflict = tt;
}
