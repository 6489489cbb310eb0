use Rattle.std.proofs.Common.{ap, length}
use Rattle.std.proofs.iter.runs.Sources.{from_front}
use Rattle.std.specs.Map.Iter.{TakesFirst, deref_pair}
use Rattle.aig_parts.proofs.SymbolLemmas.{keys_in}
use Rattle.aig_parts.proofs.symbols.Symbols.iter.Goals as goal

pub returns-clause-runs : goal.returns-clause-runs
returns-clause-runs c = from_front (TakesFirst deref_pair) deref_pair (λ s. s) (λ s t h. ap length h.0) (λ s x t h. h)

pub returns-clause-distinct : goal.returns-clause-distinct
returns-clause-distinct c =
    rw (← c.self.view_is, keys_in c.self.inside.text.items c.self.inside.places.entries) c.iter.ensures.distinct
