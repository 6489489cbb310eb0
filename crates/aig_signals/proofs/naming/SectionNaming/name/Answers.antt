use Rattle.std.proofs.Common.{List, length, ap, subst, arith}
use Rattle.aig_signals.specs.declared.signal.Signal.{Signal}
use Rattle.aig_signals.specs.Naming.{SectionNamed}
use Rattle.aig_signals.specs.state.Naming.{IsEntryOf}
use Rattle.aig_signals.proofs.NamingLemmas.{named_naming}
use Rattle.aig_signals.proofs.naming.SectionNaming.name.Goals as goal

pub invariant_of-self-2 : goal.invariant_of-self-2
invariant_of-self-2 c =
    named_naming c.self.inside.signals.items c.self.inside.values.items c.self.inside.named.items _ c.args.position _ c.args.value
    c.self.invariant
    (subst (λ (ss : List Signal). IsEntryOf ss c.number_of.result c.args.position) c.deref.ensures.value c.number_of.ensures)
    (omega (arith, c.requires, ap (λ (n : SectionNamed). length n.values) c.self.view_is)) c.in_ok-push.ensures.items
