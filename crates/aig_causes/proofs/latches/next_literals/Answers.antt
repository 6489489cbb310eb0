use Rattle.std.proofs.Common.{◌≡◌, ◌≤◌, ◌∷◌, ◌++◌, [], inl, inr, ℕ, List, All, Contains, Some, get_or, slice_get, sym}
use Rattle.std.proofs.Common.{subst, arith}
use Rattle.std.proofs.lemmas.Bool.{cases_eq}
use Rattle.std.proofs.lemmas.List.Elements.{All-push, Contains-append_left, Contains-push}
use Rattle.std.proofs.lemmas.Option.{slice_get-get_or, slice_get_within}
use Rattle.aig_parts.specs.Literal.{variable}
use Rattle.aig_base.specs.Sections.{IsDefined}
use Rattle.aig_base.proofs.circuits.Circuits.{next_defined, next_in_range}
use Rattle.aig_base.proofs.lists.Gets.{get_from_Contains, same_element}
use Rattle.aig_causes.proofs.latches.next_literals.Goals as goal

pub loop-position-preserved : goal.loop-position-preserved
loop-position-preserved c =
    let raw = c.args.circuit.now in
    let place = c.loop-position.position-index in
    let latches = c.args.latches.now in
    let q = get_or latches place 0 in
    let latch = c.latch_at.result in
    let next = latch.next in
    let here : slice_get latches place ≡ Some q = slice_get-get_or latches place 0 c.loop-position-test.true in
    let is = c.latch_at.ensures in
    let inv = c.loop-position.invariant in
    let old = c.loop-position.nexts.items in
    let items : c.push.new.self.items ≡ old ++ next ∷ [] = c.in_ok-push.ensures.items in
    record {
      nexts = λ k p x lt at there. elim (cases_eq k place) [
        | inl e ↦
            let position : q ≡ p =
            same_element latches place q p here (subst (λ (j : ℕ). slice_get latches j ≡ Some p) e at) in
            let one : latch ≡ x =
            same_element raw.latches p latch x (subst (λ (j : ℕ). slice_get raw.latches j ≡ Some latch) position is) there in
            let is_next : next ≡ x.next = cc in
            subst (λ (xs : List ℕ). Contains xs x.next) (sym items)
            (subst (λ (l : ℕ). Contains (old ++ next ∷ []) l) is_next (Contains-push old next))
        | inr other ↦
            subst (λ (xs : List ℕ). Contains xs x.next) (sym items)
            (Contains-append_left old (next ∷ []) x.next (inv.nexts k p x (omega (arith, lt, other)) at there))
      ];
      range = subst (All (λ l. variable l ≤ raw.max_var)) (sym items)
          (All-push (λ l. variable l ≤ raw.max_var) old next inv.range
          (next_in_range raw c.facts.ensures.sound q latch is));
      defined = subst (All (λ l. IsDefined raw (variable l))) (sym items)
          (All-push (λ l. IsDefined raw (variable l)) old next inv.defined
          (next_defined raw c.facts.ensures.sound q latch is));
    }

pub returns-clause-nexts : goal.returns-clause-nexts
returns-clause-nexts c = λ p x has at.
    let (k, here) = get_from_Contains c.args.latches.now p has in
    let lt = slice_get_within c.args.latches.now k p here in
    c.loop-position.invariant.nexts k p x (omega (arith, lt, c.loop-position-test.false)) here at
