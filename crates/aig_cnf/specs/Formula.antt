-- The formula of a query, over the circuit that is unrolled for it, in conjunctive normal form (Tseitin's encoding; the
-- clauses and their order are our own choice).
-- Examples: the gate `6 2 4` has the clauses `7 2`, `7 4` and `6 3 5`; for the literals 2 and 6: within two frames the
-- clause `2 6`, for a step the clauses `3` and `6`; for the literals 2 and 6, and a latch of variable 4 whose reset is
-- 1: the clauses `2 6` and `3 8`; of the gates `6 2 4` and `8 6 2`, the cone of the literal 7 has the first; input 2 is
-- bad, one frame: two variables, the literal 2, the clauses `1` and `2`.
use Rattle.std.specs.Prelude.{◌≡◌, ℕ, ◌+◌, ◌*◌, ◌-◌, ◌==◌, Bool, ◌||◌, if◌then◌else◌, List, [], ◌∷◌, ◌++◌, length, drop}
use Rattle.std.specs.Prelude.{map, flat_map, slice_index}
use Rattle.std.specs.List.{list_any}
use Rattle.aig_parts.specs.Literal.{negation, variable}
use Rattle.aig_parts.specs.declared.gate.Gate.{Gate}
use Rattle.aig_parts.specs.declared.latch.Latch.{Latch}
use Rattle.aig_parts.specs.declared.raw.Raw.{Raw}
use Rattle.aig_base.specs.Order.{IsCanonicalOrder}
use Rattle.aig_unroll.specs.FrameLiteral.{is_uninitialised}
use Rattle.aig_unroll.specs.Unrolled.{frames, unrolled}
use Rattle.aig_cnf.specs.declared.query.Goal.{Goal}
use Rattle.aig_cnf.specs.declared.query.Goal.TheVariants as asked
use Rattle.aig_cnf.specs.declared.query.Query.{Query}
use Rattle.aig_cnf.specs.Query.{depth, subject}

-- the left side is the AND of the right sides
abbrev pub gate_clauses : Gate → List (List ℕ)
gate_clauses g =
    (negation g.lhs ∷ g.rhs0 ∷ []) ∷ (negation g.lhs ∷ g.rhs1 ∷ [])
    ∷ (g.lhs ∷ negation g.rhs0 ∷ negation g.rhs1 ∷ []) ∷ []

-- bad literal p of each of k frames, where a circuit of n bad literals is unrolled for them
abbrev pub goals : Raw → ℕ → ℕ → ℕ → List ℕ
goals new n k p = frames (λ t. slice_index new.bad (t * n + p) ∷ []) k

-- the last of these literals, in a list
abbrev pub last_alone : List ℕ → List ℕ
last_alone literals = drop (length literals - 1) literals

-- the last of these literals is true, and those before it are false
abbrev pub first_reached : List ℕ → List (List ℕ)
first_reached [] = []
first_reached (l ∷ []) = (l ∷ []) ∷ []
first_reached (l ∷ m ∷ ls) = (negation l ∷ []) ∷ first_reached (m ∷ ls)

-- ---- where a run starts

-- the literal of variable v that a latch has its reset, if that is 0 or 1
abbrev pub reset_literal : ℕ → Latch → List ℕ
reset_literal v x = if is_uninitialised x then [] else (2 * v + (1 - x.reset)) ∷ []

-- that of each latch, from variable v on
unfoldable pub reset_literals : ℕ → List Latch → List ℕ
reset_literals v [] = []
reset_literals v (x ∷ xs) = reset_literal v x ++ reset_literals (v + 1) xs

-- What an induction over frames says of the start: the latches have their resets at the first frame. The circuit is
-- unrolled from any state, so the latches' variables come behind the inputs of all frames.
abbrev pub start_literals : Query → Raw → List ℕ
start_literals query raw = literals_of query.goal
  where
    literals_of : Goal → List ℕ
    literals_of asked.Within = []
    literals_of asked.Last = []
    literals_of asked.Step = []
    literals_of asked.Induction = reset_literals (depth query * length raw.inputs + 1) raw.latches

-- if this literal is true, so is each of those
abbrev pub implies : List ℕ → ℕ → List (List ℕ)
implies literals l = map (λ m. negation l ∷ m ∷ []) literals

-- all but the last
unfoldable pub all_but_last : List ℕ → List ℕ
all_but_last [] = []
all_but_last (l ∷ []) = []
all_but_last (l ∷ m ∷ ls) = l ∷ all_but_last (m ∷ ls)

-- ---- gates that a formula needs

-- one of the literals, or a side of one of the gates, has the variable
abbrev pub reads : List ℕ → List Gate → ℕ → Bool
reads literals gates v =
    list_any (λ l. variable l == v) literals || list_any (λ g. variable g.rhs0 == v || variable g.rhs1 == v) gates

-- the cone of the literals, where each gate stands behind those that it reads: a gate is in it if one of the literals
-- reads it, or a gate of the cone behind it does
unfoldable pub cone : List ℕ → List Gate → List Gate
cone literals [] = []
cone literals (g ∷ gates) =
    if reads literals (cone literals gates) (variable g.lhs) then g ∷ cone literals gates else cone literals gates

-- ---- the formula

-- Of the bad literals of all frames: one is true; or the last; or the last, and none before it; or one is true, and the
-- start obeys the resets if it is one before the last.
abbrev pub goal_clauses : Goal → List ℕ → List ℕ → List (List ℕ)
goal_clauses asked.Within start goals = goals ∷ []
goal_clauses asked.Last start goals = last_alone goals ∷ []
goal_clauses asked.Step start goals = first_reached goals
goal_clauses asked.Induction start goals = goals ∷ flat_map (implies start) (all_but_last goals)

-- literal 1 is true, the goal is reached, and each gate is an AND
abbrev pub clauses : Goal → List ℕ → List ℕ → List Gate → List (List ℕ)
clauses goal start goals gates =
    (1 ∷ []) ∷ goal_clauses goal start goals ++ flat_map gate_clauses gates

-- A formula: how many variables it has, the bad literal of each frame, and the clauses.
pub record Cnf : Type 0 where
  pub variables : ℕ
  pub goals : List ℕ
  pub clauses : List (List ℕ)

-- The formula of a query about a circuit: one variable is constant, and the others are those of the unrolled circuit. Of
-- its gates the formula has the cone of the bad literals: what the property and the constraints read, frame by frame.
abbrev pub formula_of : Raw → List ℕ → Query → Cnf
formula_of raw order query =
    let new = unrolled (subject query.goal raw) order (depth query) in
    let reached = goals new (length raw.bad) (depth query) query.property in
    record {
      variables = new.max_var + 1;
      goals = reached;
      clauses = clauses query.goal (start_literals query raw) reached (cone reached new.gates);
    }

-- it is that, with the gates of a frame in the canonical order
abbrev pub IsFormulaOf : Raw → Query → Cnf → Type 0
IsFormulaOf raw query formula =
    (order : List ℕ) × IsCanonicalOrder (subject query.goal raw) order × (formula ≡ formula_of raw order query)
