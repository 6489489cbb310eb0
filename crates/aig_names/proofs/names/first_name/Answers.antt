use Rattle.std.proofs.Common.{◌≡◌, ℕ, List, ◌∷◌, map, sym, ap, ◌∙◌, arith}
use Rattle.std.specs.Prelude.{decimal}
use Rattle.aig_parts.specs.Letters.{letter}
use Rattle.aig_names.specs.Names.{as_name}
use Rattle.aig_names.specs.state.Naming.{names_left, names_size}
use Rattle.aig_names.proofs.Words.{words_none}
use Rattle.aig_names.proofs.names.first_name.Goals as goal

pub returns-in-Position : goal.returns-in-Position
returns-in-Position c =
    let own : List ℕ = letter c.in-Position.kind ∷ decimal c.in-Position.position in
    let size : names_size c.args.names ≡ 1 = ap names_size c.in-Position.is in
    (ap names_left c.in-Position.is ∙ ap (λ (ws : List (List ℕ)). own ∷ map as_name ws) (sym words_none), omega (arith, size))
