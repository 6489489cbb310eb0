use Rattle.std.proofs.Common.{◌≡◌, ℕ, List, [], Some, None, Option, length, get_or, replicate, ap, subst, sym, ◌∙◌}
use Rattle.std.proofs.Common.{arith}
use Rattle.std.specs.Prelude.{slice_get}
use Rattle.std.proofs.lemmas.List.{nil_from_length, with_items_is}
use Rattle.aig_parts.specs.declared.ternary.Tern.{Tern}
use Rattle.aig_signals.specs.declared.signal.Signal.{Signal}
use Rattle.aig_signals.specs.Naming.{SectionNamed}
use Rattle.aig_signals.specs.state.Naming.{AreNeighbours}
use Rattle.aig_signals.proofs.NamingLemmas.{EachIsNamed, all_cleared, all_front, cleared_naming, each_front, each_more}
use Rattle.aig_signals.proofs.NamingLemmas.{numbers_within, signal_within}
use Rattle.aig_signals.proofs.naming.SectionNaming.clear.Goals as goal

pub loop-number-init : goal.loop-number-init
loop-number-init c = record {
  signals = ap (λ (n : SectionNamed). n.signals) c.self.view_is;
  size = ap (λ (n : SectionNamed). length n.values) c.self.view_is;
  near = c.self.invariant.neighbours;
  there = numbers_within c.self.inside.signals.items c.self.inside.values.items c.self.inside.named.items c.self.invariant.neighbours c.self.invariant.numbers;
  each = c.self.invariant.numbers.each;
}

pub forget-requires : goal.forget-requires
forget-requires c =
    let here = subst (λ (ss : List Signal). slice_get ss c.in-Some.number ≡ Some c.signal_at.result.now) c.deref.ensures.value c.signal_at.ensures in
    omega (
      arith,
      (signal_within c.loop-number.self-inside.signals.items c.loop-number.self-inside.values.items c.in-Some.number
          c.signal_at.result.now c.loop-number.invariant.near here).1,
      ap length c.deref_mut.ensures.value,
    )

pub loop-number-preserved : goal.loop-number-preserved
loop-number-preserved c =
    let signals = c.loop-number.self-inside.signals.items in
    let values = c.loop-number.self-inside.values.items in
    let new = c.forget.new.values in
    let rest = c.pop.new.self.items in
    let same = with_items_is c.loop-number.self-inside.values new (omega (arith, c.forget.ensures.size, c.deref_mut.ensures.len)) in
    let here = subst (λ (ss : List Signal). slice_get ss c.in-Some.number ≡ Some c.signal_at.result.now) c.deref.ensures.value c.signal_at.ensures in
    let size : length new ≡ length values = c.forget.ensures.size ∙ ap length c.deref_mut.ensures.value in
    record {
      signals = c.loop-number.invariant.signals;
      size = ap length same ∙ size ∙ c.loop-number.invariant.size;
      near = subst (AreNeighbours 0 signals) (sym (ap length same ∙ size)) c.loop-number.invariant.near;
      there = all_front (length signals) rest c.in-Some.number c.loop-number.self-inside.named.items c.in-Some.ensures.items c.loop-number.invariant.there;
      each = subst (λ (xs : List (Option Tern)). EachIsNamed signals xs rest) (sym same)
          (each_more signals values new c.in-Some.number c.signal_at.result.now here size c.forget.ensures.gone
          (λ p none. c.forget.ensures.kept p (ap (λ (xs : List (Option Tern)). get_or xs p None) c.deref_mut.ensures.value ∙ none))
          c.loop-number.self-inside.named.items rest c.in-Some.ensures.items c.loop-number.invariant.each);
    }

pub invariant_of-self : goal.invariant_of-self
invariant_of-self c =
    let none = nil_from_length c.pop.new.self.items (omega (arith, c.in_default.ensures.cases.1)) in
    cleared_naming c.loop-number.self-inside.signals.items c.loop-number.self-inside.values.items c.pop.new.self.items
    c.loop-number.invariant.near none
    (each_front c.loop-number.self-inside.signals.items c.loop-number.self-inside.values.items c.loop-number.self-inside.named.items
    c.pop.new.self.items c.in_default.ensures.items c.loop-number.invariant.each)

pub returns : goal.returns
returns c =
    let none = nil_from_length c.pop.new.self.items (omega (arith, c.in_default.ensures.cases.1)) in
    let each =
    each_front c.loop-number.self-inside.signals.items c.loop-number.self-inside.values.items c.loop-number.self-inside.named.items
    c.pop.new.self.items c.in_default.ensures.items c.loop-number.invariant.each in
    let cleared =
    all_cleared c.loop-number.self-inside.signals.items c.loop-number.self-inside.values.items c.pop.new.self.items
    c.loop-number.invariant.near none each
    ∙ ap (λ (n : ℕ). replicate {A = Option Tern} n None) c.loop-number.invariant.size in
    λ i. record { signals = c.loop-number.invariant.signals i; values = cleared i }
