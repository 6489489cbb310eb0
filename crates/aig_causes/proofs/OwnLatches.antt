-- Latches that are asked for explain themselves.
use Rattle.std.proofs.Common.{◌≡◌, ◌↔◌, [], ℕ, List, All, Contains, map, sym, ap, ◌∙◌, subst, arith}
use Rattle.std.proofs.lemmas.Option.{slice_get-map, slice_get_within}
use Rattle.std.specs.Option.{option_map}
use Rattle.std.specs.List.Sorted.{IsStrictlyIncreasing}
use Rattle.aig_parts.specs.declared.latch.Latch.{Latch}
use Rattle.aig_parts.specs.declared.raw.Raw.{Raw}
use Rattle.aig_parts.specs.declared.ternary.Tern.TheVariants.{X}
use Rattle.aig_base.specs.Sections.{IsLatchLiteral}
use Rattle.aig_base.proofs.lists.Gets.{All-by_get, Contains-from_get}
use Rattle.aig_causes.specs.Causes.{Explain, ExplainUnknown, Has, Moment, Sources}
use Rattle.aig_causes.specs.Explanation.{ExplainThemselves, IsAsked}
use Rattle.aig_causes.specs.state.Asked.{AreLatchesOf}

module _ (raw : Raw) (literals latches : List ℕ) (h : AreLatchesOf raw literals latches) (asked : Sources)
    (inputs : asked.inputs ≡ []) (same : (p : ℕ) → Contains asked.latches p ↔ Contains latches p)
    (order : IsStrictlyIncreasing asked.latches) where
  no_input : (p : ℕ) → Contains asked.inputs p → ⊥
  no_input p k =
      let none : Contains [] p = subst (λ (xs : List ℕ). Contains xs p) inputs k in omega (arith, none.1)

  pub own_latches : (m : Moment) → IsAsked raw m literals asked
  own_latches m = record {
    known = All-by_get (Explain raw m asked) literals (λ k l at w known v n there agree.
        let (p, has, is) = h.each l (Contains-from_get literals k l at) in
        let (x, here, same_literal) = is in
        subst (λ (j : ℕ). Has raw n j w) same_literal
        (agree.latches p x w ((same p).1 has) here known (subst (λ (j : ℕ). Has raw m j w) (sym same_literal) v)));
    unknown = All-by_get (ExplainUnknown raw m asked) literals (λ k l at v n there settled u vn.
        let (p, has, is) = h.each l (Contains-from_get literals k l at) in
        let (x, here, same_literal) = is in
        (settled.latches p x X u here (subst (λ (j : ℕ). Has raw m j X) (sym same_literal) v)
        (subst (λ (j : ℕ). Has raw n j u) (sym same_literal) vn)).1 ((same p).1 has));
    there = record {
      inputs = λ p k. absurd (no_input p k);
      latches = λ p k. let (x, here, has) = h.only p ((same p).0 k) in slice_get_within raw.latches p x here;
    };
    order = record {
      inputs = subst IsStrictlyIncreasing (sym inputs) (λ k lt. absurd (omega (arith, lt)));
      latches = order;
    };
  }

  pub all_latches : All (IsLatchLiteral raw) literals
  all_latches =
      All-by_get (IsLatchLiteral raw) literals (λ k l at.
      let (p, has, is) = h.each l (Contains-from_get literals k l at) in
      let (x, here, same_literal) = is in
      subst (IsLatchLiteral raw) same_literal
      (Contains-from_get (map (λ (y : Latch). y.lit) raw.latches) p x.lit
      (slice_get-map (λ (y : Latch). y.lit) raw.latches p ∙ ap (option_map (λ (y : Latch). y.lit)) here)))

  pub themselves : ExplainThemselves raw literals asked
  themselves = record { inputs = inputs; latches = λ p k. h.only p ((same p).0 k) }
