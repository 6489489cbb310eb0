use Rattle.std.proofs.Common.{sym}
use Rattle.aig_sim.proofs.VerdictLemmas.{property_same}
use Rattle.aig_sim.proofs.witness.reader.witness_property.Goals as goal

pub returns-clause-property : goal.returns-clause-property
returns-clause-property c =
    let (w, spells, parts, admitted) = c.in_ok-parts.ensures.parts in (
      w,
      spells,
      admitted,
      sym (property_same c.facts.ensures parts admitted),
    )
