use Rattle.std.proofs.Common.{List, arith, length, ap, subst}
use Rattle.std.specs.Prelude.{slice_get}
use Rattle.std.proofs.Common.{◌≡◌, Some}
use Rattle.aig_signals.specs.declared.signal.Signal.{Signal}
use Rattle.aig_signals.proofs.NamingLemmas.{signal_within}
use Rattle.aig_signals.proofs.naming.SectionNaming.push_object.Goals as goal

pub bits_of-requires-clause-order : goal.bits_of-requires-clause-order
bits_of-requires-clause-order c =
    let here = subst (λ (ss : List Signal). slice_get ss c.args.number ≡ Some c.signal_at-signal.result.now) c.deref.ensures.value c.signal_at-signal.ensures in
    (signal_within c.self.inside.signals.items c.self.inside.values.items c.args.number c.signal_at-signal.result.now c.self.invariant.neighbours here).0

pub bits_of-requires-clause-end : goal.bits_of-requires-clause-end
bits_of-requires-clause-end c =
    let here = subst (λ (ss : List Signal). slice_get ss c.args.number ≡ Some c.signal_at-signal.result.now) c.deref.ensures.value c.signal_at-signal.ensures in
    omega (
      arith,
      (signal_within c.self.inside.signals.items c.self.inside.values.items c.args.number c.signal_at-signal.result.now c.self.invariant.neighbours here).1,
      c.deref-2.ensures.len,
      ap length c.deref-2.ensures.value,
    )
