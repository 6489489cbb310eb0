use Rattle.std.proofs.Common.{refl}
use Rattle.aig_parts.specs.state.SymbolRanks.{number_of}
use Rattle.aig_parts.proofs.symbols.ranks.SymbolRanks.number.Goals as goal

pub returns : goal.returns
unfolding number_of
returns c =
    rw (
      ← c.self.view_is,
      c.number_at.ensures,
      c.word_at.ensures,
      c.number_at-start.ensures,
      c.page_of.ensures.page,
      c.deref.ensures.value,
      c.deref-2.ensures.value,
      c.deref-3.ensures.value,
    ) refl
