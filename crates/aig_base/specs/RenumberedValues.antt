-- Values of a circuit and of its renumbered form, from the same start and the same rows.
-- Example: literal 8 of `examples/two_gates.aag` and its counterpart, which is 8 too.
use Rattle.std.specs.Prelude.{ℕ, ◌<◌, List, length}
use Rattle.aig_parts.specs.declared.raw.Raw.{Raw}
use Rattle.aig_parts.specs.declared.ternary.Tern.{Tern}
use Rattle.aig_parts.specs.Literal.{variable}
use Rattle.aig_base.specs.Renumbered.{renumbered, renumbered_literal}
use Rattle.aig_base.specs.Sections.{IsDefined}
use Rattle.aig_base.specs.Value.{Value}

-- the literal that stands for another has its value
abbrev pub RenumberingKeepsValues : Raw → List ℕ → List Tern → List (List Tern) → Type 0
RenumberingKeepsValues raw order start rows =
    (t l : ℕ) (w : Tern) → Value raw start rows t l w
    → Value (renumbered raw order) start rows t (renumbered_literal raw order l) w

-- the literal that stands for a defined one has no other value, at each frame that has a row
abbrev pub RenumberingAddsNoValues : Raw → List ℕ → List Tern → List (List Tern) → Type 0
RenumberingAddsNoValues raw order start rows =
    (t l : ℕ) (w : Tern) → t < length rows → IsDefined raw (variable l)
    → Value (renumbered raw order) start rows t (renumbered_literal raw order l) w → Value raw start rows t l w
