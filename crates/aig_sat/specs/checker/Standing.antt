-- The formula that a refutation's state stands for.
-- Example: with literal 2 known and no clause: `2`.
use Rattle.std.specs.Prelude.{ℕ, zero, suc, Bool, false, nat_le, if◌then◌else◌, List, [], ◌∷◌, ◌++◌, length}
use Rattle.std.specs.Prelude.{slice_index, slice_index_or}
use Rattle.aig_sat.specs.declared.checker.propagator.Propagator.{Propagator}
use Rattle.aig_sat.specs.checker.Words.{literal_at, size_at}

-- the first n literals of the clause at p
abbrev pub literals_at : List ℕ → ℕ → ℕ → List ℕ
literals_at words p zero = []
literals_at words p (suc n) = literal_at words p n ∷ literals_at words p n

-- the clause at p, if one stands there
abbrev pub clause_at : List ℕ → ℕ → List (List ℕ)
clause_at words p = if nat_le 0x8000_0000 (slice_index words p) then literals_at words p (size_at words p) ∷ [] else []

-- the clauses that stand at one of the first n places
abbrev pub clauses_at : List ℕ → ℕ → List (List ℕ)
clauses_at words zero = []
clauses_at words (suc n) = clause_at words n ++ clauses_at words n

-- the literal l, if it is known
abbrev pub unit_at : List Bool → ℕ → List (List ℕ)
unit_at truths l = if slice_index_or truths l false then (l ∷ []) ∷ [] else []

-- the first n literals, those that are known
abbrev pub units_at : List Bool → ℕ → List (List ℕ)
units_at truths zero = []
units_at truths (suc n) = unit_at truths n ++ units_at truths n

-- the empty clause, where there was a conflict
abbrev pub conflict_clause : Bool → List (List ℕ)
conflict_clause refuted = if refuted then [] ∷ [] else []

-- the empty clause, where there was a conflict, the clauses that stand, and the literals that are known
abbrev pub standing : Bool → Propagator → List (List ℕ)
standing refuted p =
    conflict_clause refuted
    ++ (clauses_at p.clauses.words.items (length p.clauses.words.items)
    ++ units_at p.known.truths.items (length p.known.truths.items))
