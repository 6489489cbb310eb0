use Rattle.std.proofs.Common.{Global, Vec, ◌≡◌, ◌-◌, ◌∷◌, ◌++◌, [], inl, inr, ℕ, List, Contains, Some, slice_get}
use Rattle.std.proofs.Common.{length, refl, sym, ap, ◌∙◌, subst, arith}
use Rattle.std.proofs.lemmas.Bool.{cases_eq}
use Rattle.std.proofs.lemmas.List.Elements.{Contains-append_left, Contains-push, Contains-push_cases}
use Rattle.std.proofs.lemmas.Option.{slice_get_within}
use Rattle.aig_parts.specs.Literal.{variable}
use Rattle.aig_base.proofs.lists.Gets.{Contains-from_get, get_from_Contains}
use Rattle.aig_base.proofs.lists.Items.{item_at}
use Rattle.aig_causes.specs.declared.visited.Visited.{Visited}
use Rattle.aig_causes.specs.state.Walk.{AreEarlier, IsVisited}
use Rattle.aig_causes.proofs.Walkers.{walker_more}
use Rattle.aig_causes.proofs.walker.Walker.begin.Goals as goal

pub literals-init : goal.literals-init
literals-init c = record {
  left = omega arith;
  visited = refl;
  found = refl;
  weights = refl;
  order = refl;
  queued = λ i k le at. let lt = slice_get_within c.args.literals.now i k at in absurd (omega (arith, lt, le));
  only = λ v h.
      let none : Contains [] v = subst (λ (xs : List ℕ). Contains xs v) c.clear.ensures.items h in
      absurd (omega (arith, none.1));
}

pub literals-preserved : goal.literals-preserved
literals-preserved c =
    let inv = c.literals.invariant in
    let all = c.args.literals.now in
    let place = c.literals.left - 1 in
    let lit = c.index-literals-left.result in
    let at : slice_get all place ≡ Some lit =
    item_at _ _ place lit refl (omega (arith, inv.left, c.literals-test.true)) c.index-literals-left.is in
    let old = c.literals.self.todo.items in
    let items = c.in_ok-push.ensures.items in
    record {
      left = omega (arith, inv.left);
      visited = inv.visited;
      found = inv.found;
      weights = inv.weights;
      order = inv.order;
      queued = λ i k le here. elim (cases_eq i place) [
        | inl e ↦
            let there : slice_get all place ≡ Some k = subst (λ (j : ℕ). slice_get all j ≡ Some k) e here in
            let same : lit ≡ k = cc in
            subst (λ (xs : List ℕ). Contains xs (variable k)) (sym items)
            (subst (λ (v : ℕ). Contains (old ++ c.var.result ∷ []) v) (c.var.ensures ∙ ap variable same)
            (Contains-push old c.var.result))
        | inr other ↦
            subst (λ (xs : List ℕ). Contains xs (variable k)) (sym items)
            (Contains-append_left old (c.var.result ∷ []) (variable k)
            (inv.queued i k (omega (arith, le, other, c.literals-test.true)) here))
      ];
      only = λ v h.
          elim (Contains-push_cases old c.var.result v (subst (λ (xs : List ℕ). Contains xs v) items h)) [
            | inl k ↦ inv.only v k
            | inr e ↦ (lit, Contains-from_get all place lit at, sym c.var.ensures ∙ e)
          ];
    }

pub returns-clause-walker : goal.returns-clause-walker
returns-clause-walker c =
    let inv = c.literals.invariant in
    walker_more c.args.self.now c.literals.self c.requires
    (subst (λ (v : Visited). AreEarlier v.number v.marks.items) (sym inv.visited) c.begin.ensures.earlier)
    (ap (λ (v : Visited). length v.marks.items) inv.visited ∙ c.begin.ensures.size)
    (ap (λ (v : Vec ℕ Global). length v.items) inv.weights) inv.order

pub returns-clause-begins : goal.returns-clause-begins
returns-clause-begins c =
    let inv = c.literals.invariant in
    record {
      none = λ v h.
          c.begin.ensures.none v (subst (λ (z : Visited). IsVisited z.marks.items z.number v) inv.visited h);
      queued = λ l h.
          let (i, at) = get_from_Contains c.args.literals.now l h in
          inv.queued i l (omega (arith, c.literals-test.false)) at;
      only = inv.only;
      found = inv.found ∙ c.none.ensures;
    }
