use Rattle.std.proofs.Common.{ℕ, Ok, refl}
use Rattle.std.specs.Vec.Iter.{into_iter_items}
use Rattle.std.proofs.lemmas.Iterator.{items_from_collect}
use Rattle.std.proofs.lemmas.Iterator.Adapters.{YieldsList-from_vec}
use Rattle.aig_program.proofs.arguments.collected.Goals as goal

pub returns-in-Ok-clause-words : goal.returns-in-Ok-clause-words
returns-in-Ok-clause-words c =
    items_from_collect {E = ℕ} (Ok c.in-Ok.list) c.in-Ok.ensures.ran
    (YieldsList-from_vec (into_iter_items c.args.args) refl c.args.args.rest.ok.0)
