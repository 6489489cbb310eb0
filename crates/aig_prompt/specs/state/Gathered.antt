-- Bits that are gathered from bit 0 up: for the proofs.
use Rattle.std.specs.Prelude.{◌≡◌, List, All, true, false, take, drop}
use Rattle.aig_parts.specs.declared.ternary.Tern.{Tern}
use Rattle.aig_parts.specs.declared.ternary.Tern.TheVariants.{Zero}
use Rattle.aig_prompt.specs.declared.value.Bits.{Bits}

-- the first of all bits are kept, and it is known whether one of the others is 1
pub record Gathers (all : List Tern) (b : Bits) : Type 0 where
  pub values : b.values.items ≡ take b.width all
  pub under : b.is_over ≡ false → All (λ w. w ≡ Zero) (drop b.width all)
  pub over : b.is_over ≡ true → All (λ w. w ≡ Zero) (drop b.width all) → ⊥
