-- A completion of a start and rows: others of the same lengths, without x, equal to them wherever they are not x
-- (our own choice).
-- Example: `x1` is completed by `01` and `11`.
use Rattle.std.specs.Prelude.{◌≡◌, ◌≢◌, List}
use Rattle.std.specs.List.{AllZip}
use Rattle.aig_parts.specs.declared.ternary.Tern.{Tern}
use Rattle.aig_parts.specs.declared.ternary.Tern.TheVariants.{X}

-- b is a where a is not x, and is not x
abbrev pub Completes : Tern → Tern → Type 0
Completes a b = (b ≢ X) × (a ≢ X → b ≡ a)

abbrev pub IsCompletion : List Tern → List (List Tern) → List Tern → List (List Tern) → Type 0
IsCompletion start rows start' rows' = AllZip Completes start start' × AllZip (AllZip Completes) rows rows'
