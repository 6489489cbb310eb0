use Rattle.aig_refute.proofs.Parts.{exactly_parts}
use Rattle.aig_refute.proofs.laws.law_of_parts.Goals as goal

pub returns : goal.returns
returns c = λ raw certificate x p bad t start rows circuit is at fits lt.
    exactly_parts raw certificate x p circuit is start rows fits t lt bad at
