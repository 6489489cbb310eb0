use Rattle.std.proofs.Common.{inl, inr, ◌<◌, ℕ, List, Contains, length, sym, ap, ◌∙◌, subst, arith, refl}
use Rattle.aig_parts.specs.declared.raw.Raw.{Raw}
use Rattle.aig_base.proofs.lists.Gets.{All-by_get, Contains-from_get}
use Rattle.aig_causes.specs.Explanation.{ExplanationState}
use Rattle.aig_causes.proofs.Explanations.{begins}
use Rattle.aig_causes.proofs.explanation.Explanation.new.Goals as goal

pub ask-requires-clause-range : goal.ask-requires-clause-range
ask-requires-clause-range g c = c.requires.range

pub ask-requires-clause-defined : goal.ask-requires-clause-defined
ask-requires-clause-defined g c = c.requires.defined

pub add_all-requires : goal.add_all-requires
add_all-requires g c =
    let latches = ap length c.latches-latches.ensures ∙ ap (λ (r : Raw). length r.latches) c.circuit.ensures in
    let size = c.in_ok-named.ensures.size ∙ latches in
    All-by_get (λ p. p < length c.in_ok-named.named.flags.items) c.latches.result.now (λ k p at.
    let has = subst (λ (xs : List ℕ). Contains xs p) c.latches.ensures (Contains-from_get c.latches.result.now k p at) in
    let lt = c.in_ok-asked.ensures.asked.there.latches p has in
    omega (arith, lt, size))

pub returns-clause-bench : goal.returns-clause-bench
returns-clause-bench g c =
    let latches = ap length c.latches-latches.ensures ∙ ap (λ (r : Raw). length r.latches) c.circuit.ensures in
    record {
      variables = c.in_ok-asked.ensures.size ∙ c.in_ok-explainer.ensures;
      frame = c.requires.frame;
      named = c.add_all.ensures.size ∙ c.in_ok-named.ensures.size ∙ latches;
      below = c.in_ok-below.ensures.size ∙ latches;
      end = omega arith;
    }

pub returns-clause-come : goal.returns-clause-come
returns-clause-come g c =
    let e : ExplanationState = record {
      variables = c.ask.new.explainer;
      asked = c.in_ok-asked.asked;
      latches_alone = c.in_ok-asked.latches_alone;
      frame = c.args.frame;
      named = c.add_all.new.self.flags.items;
      end = 0;
      below = c.in_ok-below.below.flags.items;
    } in
    begins c.args.bench.now.pair c.args.literals.now e c.in_ok-asked.ensures.asked
    (λ q.
    let added = c.add_all.ensures.added q in (
      λ has. subst (λ (xs : List ℕ). Contains xs q) c.latches.ensures
          (elim (added.0 has) [ inl before ↦ absurd (c.in_ok-named.ensures.none q before) | inr now ↦ now ]),
      λ has. added.1 (inr (subst (λ (xs : List ℕ). Contains xs q) (sym c.latches.ensures) has)),
    )) refl c.in_ok-below.ensures.none
