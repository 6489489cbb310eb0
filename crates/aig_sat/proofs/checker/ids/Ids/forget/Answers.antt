use Rattle.std.proofs.Common.{inl, inr, refl, sym, arith}
use Rattle.aig_sat.proofs.checking.IdLemmas.{entries_set}
use Rattle.aig_sat.proofs.checker.ids.Ids.forget.Goals as goal

pub invariant_of-self : goal.invariant_of-self
invariant_of-self c = record {
  ascends = entries_set c.args.self.now.entries.items c.index_of-index.result c.index.result.now _ (sym c.if-index-id.true)
      c.index.ensures c.args.self.now.ascends;
}

pub returns-then-index-id : goal.returns-then-index-id
returns-then-index-id c =
    inr (c.index_of-index.result, c.index.result.now, _, omega (arith, c.if-index-len.true, c.len.ensures, c.args.self.now.entries.ok.0), c.index.ensures, c.if-index-id.true, refl)
