-- What a visit to a clause says.
use Rattle.aig_sat.specs.declared.checker.propagator.Visit.{Visit}
use Rattle.aig_sat.specs.declared.checker.propagator.Visit.TheVariants.{Stays, Leaves, Conflict}

-- the fact holds where all literals of the clause are false
abbrev pub OnConflict : Type 0 → Visit → Type 0
OnConflict P (Stays _) = Unit {0}
OnConflict P Leaves = Unit {0}
OnConflict P Conflict = P
