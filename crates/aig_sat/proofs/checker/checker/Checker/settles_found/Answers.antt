use Rattle.std.proofs.Common.{◌≡◌, ℕ, ◌-◌, ◌<◌, List, length, get_or, sym, ap, subst, ◌∙◌, arith, rules}
use Rattle.std.proofs.lemmas.List.{get_or_read}
use Rattle.aig_sat.specs.checker.First.{IsSettled}
use Rattle.aig_sat.specs.checker.Listing.{FindsAll}
use Rattle.aig_sat.proofs.checking.ListingLemmas.{finds_shrunk, settled_next, settled_there}
use Rattle.aig_sat.proofs.checking.PropagationLemmas.{narrows_then}
use Rattle.aig_sat.proofs.checker.checker.Checker.settles_found.Goals as goal

pub loop-tried-preserved : goal.loop-tried-preserved
loop-tried-preserved c =
    let before = c.loop-tried.invariant in
    let now = c.in_ok-settles.ensures in
    let places = c.loop-tried.self.candidates.items in
    let at = c.len-count.result - 1 - c.loop-tried.tried in
    let inside : at < length places = omega (arith, before.count) in
    let is : c.index-place.result.now ≡ get_or places at 0 = get_or_read places at _ inside c.index-place.ensures 0 in
    record {
      same = c.settles.ensures.settled.same ∙ before.same;
      narrows = narrows_then _ _ _ before.narrows c.settles.ensures.settled.narrows;
      count = before.count ∙ sym (ap length c.settles.ensures.candidates);
      finds = subst (λ (xs : List ℕ). FindsAll c.settles.new.self.propagator.clauses.words.items c.args.lie xs)
          (sym c.settles.ensures.candidates) (finds_shrunk _ _ _ _ c.settles.ensures.settled.narrows.same before.finds);
      settled = settled_next c.args.self.now.propagator c.loop-tried.self.propagator c.settles.new.self.propagator
          c.args.clause.now c.args.lie c.len-count.result c.loop-tried.tried places c.settles.new.self.candidates.items
          c.settles.ensures.candidates before.narrows c.settles.ensures.settled.narrows before.settled
          (subst (λ (p : ℕ). IsSettled c.loop-tried.self.propagator c.settles.new.self.propagator c.args.clause.now c.args.lie p)
          is (now.settled.holds c.if-not-branch.false));
    }

pub returns-in_err-settles : goal.returns-in_err-settles
returns-in_err-settles c = record {
  settled = record {
    same = c.settles.ensures.settled.same ∙ c.loop-tried.invariant.same;
    narrows = narrows_then _ _ _ c.loop-tried.invariant.narrows c.settles.ensures.settled.narrows;
    holds = search rules;
  };
}

pub returns-then-not-branch : goal.returns-then-not-branch
returns-then-not-branch c = record {
  settled = record {
    same = c.settles.ensures.settled.same ∙ c.loop-tried.invariant.same;
    narrows = narrows_then _ _ _ c.loop-tried.invariant.narrows c.settles.ensures.settled.narrows;
    holds = search rules;
  };
}

pub returns : goal.returns
returns c =
    let all = c.loop-tried.invariant in
    record {
      settled = record {
        same = all.same;
        narrows = all.narrows;
        holds = λ _ p.
            settled_there c.args.self.now.propagator c.loop-tried.self.propagator c.args.clause.now c.args.lie
            c.len-count.result c.loop-tried.tried c.loop-tried.self.candidates.items p all.narrows all.finds all.count
            (omega (arith, c.loop-tried-test.false)) all.settled;
      };
    }
