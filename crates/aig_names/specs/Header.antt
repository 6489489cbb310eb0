-- The header of a value change dump: one scope per section, one line per name (IEEE 1364, value change dump). Where the
-- standard is silent, which signals and scopes there are is our own choice.
-- Example: from the scopes `u1` to `u2`: `$upscope $end`, `$scope module u2 $end`.
use Rattle.std.specs.Prelude.{ℕ, zero, suc, ◌+◌, ◌-◌, if◌then◌else◌, List, [], ◌∷◌, ◌++◌, length, drop, flat_map, codes}
use Rattle.std.specs.Str.{bytes_eq}
use Rattle.aig_parts.specs.declared.symbols.Kind.{Kind}
use Rattle.aig_parts.specs.declared.symbols.Kind.TheVariants.{Input, Latch, Output, Bad, Constraint}
use Rattle.aig_parts.specs.SymbolPlaces.{Key}
use Rattle.aig_names.specs.declared.header.SignalCounts.{SignalCounts}
use Rattle.aig_names.specs.Names.{identifier_code}
use Rattle.aig_names.specs.Paths.{scopes_of, leaf_of}
use Rattle.aig_names.specs.Signals.{section_names}

-- the line that gives signal n, of a type, a name
abbrev pub signal_line : List ℕ → ℕ → List ℕ → List ℕ
signal_line type n name =
    codes "$var " ++ (type ++ (codes " 1 " ++ (identifier_code n ++ (32 ∷ (name ++ (codes " $end" ++ 10 ∷ []))))))

-- the line that opens a scope
abbrev pub scope_line : List ℕ → List ℕ
scope_line name = codes "$scope module " ++ (name ++ (codes " $end" ++ 10 ∷ []))

-- the lines that close so many scopes
unfoldable pub closings : ℕ → List ℕ
closings zero = []
closings (suc n) = codes "$upscope $end" ++ (10 ∷ closings n)

-- how many of the first scopes are the same
unfoldable pub shared : List (List ℕ) → List (List ℕ) → ℕ
shared [] scopes = 0
shared (a ∷ opened) [] = 0
shared (a ∷ opened) (b ∷ scopes) = if bytes_eq a b then shared opened scopes + 1 else 0

-- from scopes that are open to others: those that are not shared are closed and opened
abbrev pub moves : List (List ℕ) → List (List ℕ) → List ℕ
moves opened scopes =
    closings (length opened - shared opened scopes) ++ flat_map scope_line (drop (shared opened scopes) scopes)

-- the lines of names in their scopes, where some are open; at the end all are closed
unfoldable pub name_lines : List ℕ → List (List ℕ) → List (ℕ × List ℕ) → List ℕ
name_lines type opened [] = closings (length opened)
name_lines type opened (x ∷ names) =
    moves opened (scopes_of x.1) ++ (signal_line type x.0 (leaf_of x.1) ++ name_lines type (scopes_of x.1) names)

-- the scope of a section with so many entries, the first of which is signal n; without any there is none
unfoldable pub section_scope : List (Key × List ℕ) → Kind → List ℕ → List ℕ → ℕ → ℕ → List ℕ
section_scope symbols kind scope type n zero = []
section_scope symbols kind scope type n (suc p) =
    scope_line scope ++ (name_lines type [] (section_names symbols kind n (suc p)) ++ closings 1)

-- the scopes of all sections
unfoldable pub sections : List (Key × List ℕ) → SignalCounts → List ℕ
sections symbols counts =
    let outputs = counts.inputs + counts.latches in
    let bad = outputs + counts.outputs in
    let constraints = bad + counts.bad in
    section_scope symbols Input (codes "inputs") (codes "wire") 0 counts.inputs
    ++ (section_scope symbols Latch (codes "latches") (codes "reg") counts.inputs counts.latches
    ++ (section_scope symbols Output (codes "outputs") (codes "wire") outputs counts.outputs
    ++ (section_scope symbols Bad (codes "bad") (codes "wire") bad counts.bad
    ++ section_scope symbols Constraint (codes "constraints") (codes "wire") constraints counts.constraints)))

-- all up to the first frame
unfoldable pub header : List (Key × List ℕ) → SignalCounts → List ℕ
header symbols counts = codes "$version aig $end" ++ (10 ∷ (codes "$timescale 1 ns $end" ++ (10 ∷ (sections symbols counts
    ++ (codes "$enddefinitions $end" ++ 10 ∷ [])))))
