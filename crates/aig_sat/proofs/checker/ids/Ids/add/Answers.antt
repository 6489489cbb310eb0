use Rattle.std.proofs.Common.{arith}
use Rattle.aig_sat.proofs.checking.IdLemmas.{entries_pushed}
use Rattle.aig_sat.proofs.checker.ids.Ids.add.Goals as goal

pub invariant_of-self : goal.invariant_of-self
invariant_of-self c = record {
  ascends = entries_pushed _ c.args.self.now.entries.items _ _ c.args.self.now.ascends
      (λ k inside. omega (arith, c.last.ensures k inside, c.if-id-last.false)) c.push.ensures.items;
}
