-- What values of variables say of a circuit where some are unknown: whether they make a formula true, and which run
-- they name. Which values those are of a solver's model is our own choice.
-- Example: with one input and two frames, of the values `0`, `1`, `x` the rows are `1`, `x`.
use Rattle.std.specs.Prelude.{◌≡◌, ◌≢◌, ℕ, ◌%◌, nat_eq, Bool, true, false, IsTrue, if◌then◌else◌, List, take, drop}
use Rattle.std.specs.Prelude.{slice_index_or}
use Rattle.std.specs.List.{list_all, list_any}
use Rattle.aig_parts.specs.Literal.{variable}
use Rattle.aig_parts.specs.Ternary.{kleene_not}
use Rattle.aig_parts.specs.declared.raw.Raw.{Raw}
use Rattle.aig_parts.specs.declared.ternary.Tern.{Tern}
use Rattle.aig_parts.specs.declared.ternary.Tern.TheVariants.{Zero, One, X}
use Rattle.aig_refute.specs.Models.{tern_of}
use Rattle.aig_refute.specs.UnrolledWitness.{rows_in, start_in}
use Rattle.aig_sim.specs.Reached.{Reaches}
use Rattle.aig_unroll.specs.FrameLiteral.{input_count}

abbrev pub is_one : Tern → Bool
is_one Zero = false
is_one One = true
is_one X = false

-- the value of a variable; one that is not in the list is unknown
abbrev pub value_in : List Tern → ℕ → Tern
value_in values v = slice_index_or values v X

-- the value of a literal
abbrev pub literal_in : List Tern → ℕ → Tern
literal_in values l =
    if nat_eq (l % 2) 0 then value_in values (variable l) else kleene_not (value_in values (variable l))

-- one of the clause's literals is 1
abbrev pub has_one : List Tern → List ℕ → Bool
has_one values clause = list_any (λ l. is_one (literal_in values l)) clause

-- each clause has one
abbrev pub SatisfiesInPart : List Tern → List (List ℕ) → Type 0
SatisfiesInPart values clauses = IsTrue (list_all (has_one values) clauses)

-- an assignment that gives each variable the value that it has, and the unknown ones any
abbrev pub IsFilling : List Tern → (ℕ → Bool) → Type 0
IsFilling values whole = (v : ℕ) → value_in values v ≢ X → value_in values v ≡ tern_of (whole v)

-- the values of the inputs of the circuit unrolled for k frames: its variables 1, 2, ..
abbrev pub inputs_in : Raw → ℕ → List Tern → List Tern
inputs_in raw k values = take (input_count raw k) (drop 1 values)

-- the start that they name, and the rows of the k frames
abbrev pub named_start : Raw → ℕ → List Tern → List Tern
named_start raw k values = start_in raw k (inputs_in raw k values)

abbrev pub named_rows : Raw → ℕ → List Tern → List (List Tern)
named_rows raw k values = rows_in raw k (inputs_in raw k values)

-- their run reaches property p
abbrev pub NamesRun : Raw → ℕ → ℕ → List Tern → Type 0
NamesRun raw k p values = (t : ℕ) × Reaches raw (named_start raw k values) (named_rows raw k values) t p
