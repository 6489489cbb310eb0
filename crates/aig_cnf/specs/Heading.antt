-- The first comment line of a formula: the command that asks for it, and the symbol of the property (our own choice).
-- Example: `c aig cnf --step --frames 3 --property 1 full/`, `c aig cnf --alive --frames 20 /`.
use Rattle.std.specs.Prelude.{ℕ, List, [], ◌++◌, codes}
use Rattle.aig_parts.specs.declared.raw.Raw.{Raw}
use Rattle.aig_parts.specs.declared.symbols.Kind.TheVariants as kinds
use Rattle.aig_unroll.specs.InputMap.{is_same, map_field, symbol_name_at}
use Rattle.aig_cnf.specs.declared.heading.Heading.{Heading}
use Rattle.aig_cnf.specs.declared.heading.Heading.TheVariants as headings
use Rattle.aig_cnf.specs.declared.query.Goal.{Goal}
use Rattle.aig_cnf.specs.declared.query.Goal.TheVariants as goals
use Rattle.aig_cnf.specs.declared.query.Query.{Query}

-- the option that asks for a goal; the program has the first two, and callers of the library all
abbrev pub goal_option : Goal → List ℕ
goal_option goals.Within = []
goal_option goals.Step = codes "--step "
goal_option goals.Last = codes "--last "
goal_option goals.Induction = codes "--induction "

-- the options that ask for a query, and the property's symbol
abbrev pub query_options : Raw → Query → List ℕ
query_options raw query =
    goal_option query.goal
    ++ ((codes "--frames " ++ map_field query.frames)
    ++ ((codes "--property " ++ map_field query.property)
    ++ symbol_name_at (is_same kinds.Bad) raw.symbols query.property))

-- the same of a circuit that was strengthened for property p, which is its output 0
abbrev pub certified_options : Raw → ℕ → List ℕ
certified_options raw p =
    (codes "--certificate --property " ++ map_field p) ++ symbol_name_at (is_same kinds.Output) raw.symbols 0

abbrev pub asked_options : Heading → Raw → List ℕ
asked_options (headings.Runs query) raw = query_options raw query
asked_options (headings.Alive k) raw = codes "--alive --frames " ++ map_field k
asked_options (headings.Certified p) raw = certified_options raw p

-- the line
abbrev pub heading : Heading → Raw → List ℕ
heading asked raw = codes "c aig cnf " ++ (asked_options asked raw ++ codes "\n")
