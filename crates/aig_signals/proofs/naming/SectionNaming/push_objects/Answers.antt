use Rattle.aig_signals.proofs.NamingLemmas.{sorted_naming}
use Rattle.aig_signals.proofs.naming.SectionNaming.push_objects.Goals as goal

pub push_objects_of-requires-clause-named : goal.push_objects_of-requires-clause-named
push_objects_of-requires-clause-named c =
    let kept =
    sorted_naming c.self.inside.signals.items c.self.inside.values.items c.self.inside.named.items _ c.self.invariant
    c.sort_unstable.ensures.permutation in
    rw (c.deref.ensures.value, c.deref-2.ensures.value, c.deref-3.ensures.value) kept.numbers

pub invariant_of-self : goal.invariant_of-self
invariant_of-self c =
    sorted_naming c.self.inside.signals.items c.self.inside.values.items c.self.inside.named.items _ c.self.invariant
    c.sort_unstable.ensures.permutation
