use Rattle.std.proofs.Common.{◌≡◌, ◌↔◌, ℕ, List, All, Contains, IsTrue, Some, slice_get, sym, subst}
use Rattle.aig_parts.specs.Literal.{variable}
use Rattle.aig_parts.specs.declared.latch.Latch.{Latch}
use Rattle.aig_parts.specs.declared.raw.Raw.{Raw}
use Rattle.aig_base.specs.Sections.{IsDefined}
use Rattle.aig_causes.specs.Causes.{Explain, ExplainUnknown, moment}
use Rattle.aig_causes.specs.Explanation.{AreKept, IsLine}
use Rattle.aig_causes.proofs.Explanations.{is_line}
use Rattle.aig_causes.proofs.line.line_of.Goals as goal

pub causes-requires-clause-defined : goal.causes-requires-clause-defined
causes-requires-clause-defined g c =
    subst (All (λ l. IsDefined c.args.bench.now.pair.circuit (variable l))) (sym c.deref-2.ensures.value)
    (subst (λ (r : Raw). All (λ l. IsDefined r (variable l)) c.in_ok-nexts.nexts.items) c.circuit.ensures
    c.in_ok-nexts.ensures.defined)

pub returns-clause-line : goal.returns-clause-line
returns-clause-line g c =
    let raw = c.args.bench.now.pair.circuit in
    let m = moment c.args.bench.now.pair c.args.frame in
    let latches = c.args.latches.items in
    let nexts = c.in_ok-nexts.nexts.items in
    let causes = c.in_ok-causes.causes in
    let kept = c.are_kept-kept.result in
    let are : (p : ℕ) (x : Latch) → Contains latches p → slice_get raw.latches p ≡ Some x → Contains nexts x.next =
    λ p x has at.
    c.in_ok-nexts.ensures.nexts p x (subst (λ (xs : List ℕ). Contains xs p) (sym c.deref.ensures.value) has)
    (subst (λ (r : Raw). slice_get r.latches p ≡ Some x) (sym c.circuit.ensures) at) in
    subst (IsLine raw m) (sym c.new.ensures)
    (is_line raw m latches nexts causes kept are
    (subst (All (Explain raw m causes)) c.deref-2.ensures.value c.in_ok-causes.ensures.known)
    (subst (All (ExplainUnknown raw m causes)) c.deref-2.ensures.value c.in_ok-causes.ensures.unknown)
    c.in_ok-causes.ensures.there c.in_ok-causes.ensures.order
    (subst (λ (xs : List ℕ). IsTrue kept ↔ AreKept raw m xs causes) c.deref-3.ensures.value c.are_kept-kept.ensures))
