use Rattle.std.proofs.Common.{◌≡◌, ◌⊎◌, ◌↔◌, ◌-◌, ◌<◌, ◌≤◌, ℕ, List, Contains, length, vec_len, sym, ap, ◌∙◌, subst}
use Rattle.std.proofs.Common.{arith, rules}
use Rattle.std.proofs.lemmas.Bool.{eqb-true}
use Rattle.aig_base.proofs.lists.Gets.{All-by_get, Contains-from_get}
use Rattle.aig_causes.specs.Causes.{Sources, moment}
use Rattle.aig_causes.specs.Explanation.{AreNamedBetween, ExplanationState, HasCome, IsLine, IsNamed, IsOf}
use Rattle.aig_causes.proofs.Explanations.{goes_on, goes_on_by, none_between}
use Rattle.aig_causes.proofs.explanation.Explanation.line.Goals as goal

pub between-requires-clause-order : goal.between-requires-clause-order
between-requires-clause-order g c =
    subst (λ (s : ExplanationState). s.end ≤ c.args.end) (sym c.self.view_is) c.requires.order

pub between-requires-clause-end : goal.between-requires-clause-end
between-requires-clause-end g c =
    let size = subst (λ (s : ExplanationState). length s.named ≡ length c.args.bench.now.pair.circuit.latches)
    (sym c.self.view_is) c.requires.bench.named in
    omega (arith, size, c.requires.end)

pub line_of-requires-clause-size : goal.line_of-requires-clause-size
line_of-requires-clause-size g c = ap (λ (s : ExplanationState). s.variables) c.self.view_is ∙ c.requires.bench.variables

pub line_of-requires-clause-frame : goal.line_of-requires-clause-frame
line_of-requires-clause-frame g c =
    let frame = ap (λ (s : ExplanationState). s.frame) c.self.view_is in omega (arith, frame, c.requires.bench.frame)

pub line_of-requires-clause-latches : goal.line_of-requires-clause-latches
line_of-requires-clause-latches g c =
    let latches = c.in_ok-latches.latches.items in
    All-by_get (λ p. p < length c.args.bench.now.pair.circuit.latches) latches (λ k p at.
    let found = c.in_ok-latches.ensures.only p (Contains-from_get latches k p at) in
    omega (arith, found.1, c.requires.end))

pub add_all-requires : goal.add_all-requires
add_all-requires g c =
    let size = ap (λ (s : ExplanationState). length s.below) c.self.view_is ∙ c.requires.bench.below in
    let named = c.latches.ensures ∙ ap (λ (z : Sources). z.latches) c.causes.ensures in
    All-by_get (λ p. p < length c.self.inside.below.flags.items) c.latches.result.now (λ k p at.
    let has = subst (λ (xs : List ℕ). Contains xs p) named (Contains-from_get c.latches.result.now k p at) in
    let lt = c.in_ok-line.ensures.line.there.latches p has in
    omega (arith, lt, size))

pub returns-clause-line : goal.returns-clause-line
returns-clause-line g c =
    subst (λ (s : ExplanationState).
    IsLine c.args.bench.now.pair.circuit (moment c.args.bench.now.pair (s.frame - 1)) c.in_ok-line.line)
    c.self.view_is c.in_ok-line.ensures.line

pub returns-clause-latches : goal.returns-clause-latches
returns-clause-latches g c =
    subst (λ (s : ExplanationState). AreNamedBetween s.named s.end c.args.end c.in_ok-line.line.latches) c.self.view_is
    (subst (AreNamedBetween c.self.inside.named.flags.items c.self.inside.end c.args.end) (sym c.in_ok-line.ensures.latches)
    c.in_ok-latches.ensures)

pub returns-clause-come : goal.returns-clause-come
returns-clause-come g c = λ literals frames lines h.
    let p = c.args.bench.now.pair in
    let line = c.in_ok-line.line in
    let was = sym c.self.view_is in
    let e : ExplanationState = record {
      variables = c.self.inside.explainer;
      asked = c.self.inside.asked;
      latches_alone = c.self.inside.latches_alone;
      frame = c.self.inside.frame;
      named = c.self.inside.named.flags.items;
      end = c.self.inside.end;
      below = c.self.inside.below.flags.items;
    } in
    let named = c.latches.ensures ∙ ap (λ (z : Sources). z.latches) c.causes.ensures in
    goes_on_by p literals e frames lines (subst (λ (s : ExplanationState). HasCome p literals s frames lines) was h)
    c.line_of.new.explainer c.args.end c.add_all.new.self.flags.items line
    (subst (λ (s : ExplanationState). s.end ≤ c.args.end) was c.requires.order)
    (subst (AreNamedBetween e.named e.end c.args.end) (sym c.in_ok-line.ensures.latches) c.in_ok-latches.ensures)
    c.in_ok-line.ensures.line
    (subst (λ (xs : List ℕ). (q : ℕ) → IsNamed c.add_all.new.self.flags.items q ↔ (IsNamed e.below q ⊎ Contains xs q)) named
    c.add_all.ensures.added)

pub returns-clause-bench : goal.returns-clause-bench
returns-clause-bench g c =
    let was = sym c.self.view_is in
    let of = subst (λ (s : ExplanationState). IsOf c.args.bench.now.pair s) was c.requires.bench in
    record {
      variables = c.in_ok-line.ensures.size ∙ of.variables;
      frame = of.frame;
      named = of.named;
      below = c.add_all.ensures.size ∙ of.below;
      end = c.requires.end;
    }

pub returns-then-is_empty-clause-none : goal.returns-then-is_empty-clause-none
returns-then-is_empty-clause-none g c =
    let latches = c.in_ok-latches.latches in
    let empty = eqb-true (vec_len latches) 0 (sym c.is_empty.ensures ∙ c.if-is_empty.true) in
    subst (λ (s : ExplanationState). (p : ℕ) → s.end ≤ p → p < c.args.end → IsNamed s.named p → ⊥) c.self.view_is
    (none_between c.self.inside.named.flags.items c.self.inside.end c.args.end latches.items c.in_ok-latches.ensures
    (omega (arith, empty)))

pub returns-then-is_empty-clause-come : goal.returns-then-is_empty-clause-come
returns-then-is_empty-clause-come g c = λ literals frames lines h.
    let p = c.args.bench.now.pair in
    let was = sym c.self.view_is in
    let latches = c.in_ok-latches.latches in
    let empty = eqb-true (vec_len latches) 0 (sym c.is_empty.ensures ∙ c.if-is_empty.true) in
    let e : ExplanationState = record {
      variables = c.self.inside.explainer;
      asked = c.self.inside.asked;
      latches_alone = c.self.inside.latches_alone;
      frame = c.self.inside.frame;
      named = c.self.inside.named.flags.items;
      end = c.self.inside.end;
      below = c.self.inside.below.flags.items;
    } in
    goes_on p literals e frames lines (subst (λ (s : ExplanationState). HasCome p literals s frames lines) was h) c.args.end
    (subst (λ (s : ExplanationState). s.end ≤ c.args.end) was c.requires.order)
    (none_between e.named e.end c.args.end latches.items c.in_ok-latches.ensures (omega (arith, empty)))

pub returns-then-is_empty-clause-bench : goal.returns-then-is_empty-clause-bench
returns-then-is_empty-clause-bench g c =
    let of = subst (λ (s : ExplanationState). IsOf c.args.bench.now.pair s) (sym c.self.view_is) c.requires.bench in
    record { variables = of.variables; frame = of.frame; named = of.named; below = of.below; end = c.requires.end }

pub returns-in_err-latches-clause-come : goal.returns-in_err-latches-clause-come
returns-in_err-latches-clause-come g c = λ literals frames lines h. search rules

pub returns-in_err-line-clause-come : goal.returns-in_err-line-clause-come
returns-in_err-line-clause-come g c = λ literals frames lines h. search rules
