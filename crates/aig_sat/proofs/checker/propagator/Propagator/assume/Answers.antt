use Rattle.std.proofs.Common.{◌≡◌, ℕ, ◌<◌, length, get_or, refl, ap, subst, ◌+◌, ◌∙◌, arith, rules}
use Rattle.std.proofs.lemmas.Grind.{get_or_default_zero}
use Rattle.aig_sat.specs.checker.Knowledge.{Takes}
use Rattle.aig_parts.specs.Literal.{negation}
use Rattle.aig_sat.proofs.checking.HintLemmas.{all_assumed, assumed_more, walks_by, walks_then}
use Rattle.aig_sat.proofs.checking.PropagationLemmas.{assume_more}
use Rattle.aig_sat.proofs.checker.propagator.Propagator.assume.Goals as goal

pub returns-in_err-take-clause-implied : goal.returns-in_err-take-clause-implied
returns-in_err-take-clause-implied c =
    let k = c.loop-literal.literal-index in
    let inside : k < length c.args.clause.now = omega (arith, c.loop-literal-test.true) in
    let is : c.value-in-loop-literal.result ≡ get_or c.args.clause.now k 0 =
    c.value-in-loop-literal.ensures ∙ c.literal-item.is ∙ get_or_default_zero _ _ _ inside in
    record {
      assumes = assume_more c.args.clause.now k c.value-in-loop-literal.result c.args.self.now c.loop-literal.self _ inside is
          c.loop-literal.invariant.assumes refl
          (subst (λ (n : ℕ). Takes n c.loop-literal.self.known c.take.new.self) c.negated.ensures c.take.ensures.takes);
      implied = search rules;
    }

pub loop-literal-preserved : goal.loop-literal-preserved
loop-literal-preserved c =
    let k = c.loop-literal.literal-index in
    let inside : k < length c.args.clause.now = omega (arith, c.loop-literal-test.true) in
    let is : c.value-in-loop-literal.result ≡ get_or c.args.clause.now k 0 =
    c.value-in-loop-literal.ensures ∙ c.literal-item.is ∙ get_or_default_zero _ _ _ inside in
    record {
      assumes = assume_more c.args.clause.now k c.value-in-loop-literal.result c.args.self.now c.loop-literal.self _ inside is
          c.loop-literal.invariant.assumes refl
          (subst (λ (n : ℕ). Takes n c.loop-literal.self.known c.take.new.self) c.negated.ensures c.take.ensures.takes);
      walks = walks_then _ _ _ c.loop-literal.invariant.walks
          (walks_by c.negated.result c.loop-literal.self _ refl refl c.take.ensures.takes);
      looks = c.loop-literal.invariant.looks;
      known = assumed_more c.args.self.now c.loop-literal.self c.take.new.self c.args.clause.now k c.negated.result inside
          (c.negated.ensures ∙ ap negation is) c.loop-literal.invariant.walks c.take.ensures.takes
          c.loop-literal.invariant.known c.in_ok-take.ensures.known;
    }

pub returns-clause-known : goal.returns-clause-known
returns-clause-known c = λ named none.
    all_assumed c.args.self.now c.loop-literal.self.known.truths.items c.args.clause.now c.loop-literal.literal-index
    (omega arith) c.loop-literal.invariant.known named
