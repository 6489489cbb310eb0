use Rattle.std.proofs.Common.{◌≡◌, ℕ, List, Some, inr, sym, ap, subst, ◌∙◌}
use Rattle.aig_base.specs.declared.select.PropertySection.TheVariants.{Bad}
use Rattle.aig_command.specs.Position.{IsPositionIn}
use Rattle.aig_program.proofs.chosen.properties.open_circuit_for.Goals as goal

pub returns-clause-named : goal.returns-clause-named
returns-clause-named g c =
    let file = c.bytes.result.now in
    let position = subst (λ (text : List ℕ). IsPositionIn file Bad text c.in_ok-position.position) c.as_bytes-text.ensures.value
    c.in_ok-position.ensures.position in
    inr (file, c.into_source.ensures.left ∙ ap (λ (bytes : List ℕ). Some bytes) (sym c.bytes.ensures.bytes), position)
