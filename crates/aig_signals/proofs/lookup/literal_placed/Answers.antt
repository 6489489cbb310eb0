use Rattle.std.proofs.Common.{◌∙◌, ℕ, Option, ap}
use Rattle.std.specs.Prelude.{option_map}
use Rattle.std.proofs.lemmas.Result.{IfOk-weaker}
use Rattle.aig_signals.specs.Lookup.{alone}
use Rattle.aig_signals.proofs.lookup.literal_placed.Goals as goal

pub returns : goal.returns
returns c =
    IfOk-weaker c.list_of.result _ _ (λ found e. e ∙ ap (λ (o : Option ℕ). option_map alone o) c.in_ok-found.ensures) c.list_of.ensures
