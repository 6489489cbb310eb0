use Rattle.std.proofs.Common.{◌≡◌, ℕ, ◌+◌, ◌-◌, length, map, take, drop, ap, ◌∙◌, arith}
use Rattle.aig_values.specs.Characters.{character}
use Rattle.aig_values.proofs.ContiguousLemmas.{contiguous_fit, contiguous_spelled}
use Rattle.aig_values.proofs.code.spell_in.Goals as goal

pub returns-in-Some : goal.returns-in-Some
returns-in-Some c =
    let cells = c.args.cells.now in
    let literals = c.args.literals.now in
    let first = c.in-Some.first in
    let are = c.in-Some.ensures.contiguous in
    let size : first + length literals - first ≡ length literals = omega arith in
    c.spell_codes.ensures ∙ ap (λ (n : ℕ). map character (take n (drop first cells))) size
    ∙ contiguous_spelled cells first literals are
    (contiguous_fit first (length cells) literals are c.in-Some.ensures.some c.requires.cells)
