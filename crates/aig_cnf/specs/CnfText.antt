-- The text of a formula with comment lines that say what its variables are (our own choice).
-- Example: input 2 is bad, within one frame: `c aig cnf --frames 1 --property 0 /c i 2 0 0 /c b 2 0/p cnf 2 2/-1 0/2
-- 0/`; the latch `2 3 0` is bad, step of one frame: `c aig cnf --step --frames 1 --property 0 /c l 2 0 /c b 2 0/c b -2
-- 1/p cnf 2 3/-1 0/-2 0/-2 0/`.
use Rattle.std.specs.Prelude.{ℕ, List, ◌++◌, length, codes, decimal, slice_index}
use Rattle.aig_parts.specs.declared.raw.Raw.{Raw}
use Rattle.aig_cnf.specs.Dimacs.{formula_text, literal_text}
use Rattle.aig_cnf.specs.Heading.{heading}
use Rattle.aig_cnf.specs.declared.heading.Heading.{Heading}
use Rattle.aig_cnf.specs.ReadFormula.{ReadCnf, marked}
use Rattle.aig_unroll.specs.InputMap.{origin_lines, read_origins}
use Rattle.aig_unroll.specs.Unrolled.{frames}

-- the bad literal of frame t
abbrev pub goal_line : ℕ → ℕ → List ℕ
goal_line l t = codes "c b " ++ (literal_text l ++ (decimal t ++ codes "\n"))

-- a line for each frame
abbrev pub goal_lines : List ℕ → List ℕ
goal_lines goals = frames (λ t. goal_line (slice_index goals t) t) (length goals)

-- What was asked for; the inputs of the unrolled part, with their positions and symbols in the whole circuit and their
-- variables in the formula, which count from 2; the bad literals; and the formula.
abbrev pub read_text : Raw → Heading → ReadCnf → List ℕ
read_text raw asked read =
    heading asked raw
    ++ (origin_lines (codes "c ") raw 2 (read_origins (marked read.marks) raw (length read.cnf.goals))
    ++ (goal_lines read.cnf.goals ++ formula_text read.cnf.variables read.cnf.clauses))
