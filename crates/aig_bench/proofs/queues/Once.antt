-- In a list where no element stands twice each stands once.
use Rattle.std.proofs.Common.{ℕ, suc, List, [], ◌∷◌, refl, arith}
use Rattle.aig_base.specs.Sound.{StandsTwice}
use Rattle.aig_base.proofs.lists.Positions.{position_of}
use Rattle.aig_bench.specs.Touched.{IsOnce}

pub never_once : (xs : List ℕ) → ((x : ℕ) → StandsTwice xs x → ⊥) → IsOnce xs
never_once [] never = tt
never_once (y ∷ ys) never = (
  λ k. let (i, at) = position_of ys y k in never y (0, suc i, omega arith, refl, at),
  never_once ys (λ x (i, j, lt, a, b). never x (suc i, suc j, omega arith, a, b)),
)
