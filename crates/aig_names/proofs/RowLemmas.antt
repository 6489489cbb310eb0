-- The table of scopes row by row.
use Rattle.std.proofs.Common.{◌≡◌, ℕ, ◌+◌, ◌<◌, List, [], ◌++◌, length, get_or, drop, sym, ap, ◌∙◌, append_assoc}
use Rattle.std.proofs.Common.{arith}
use Rattle.std.specs.Prelude.{codes}
use Rattle.std.proofs.lemmas.List.{drop_more, append-nil}
use Rattle.aig_parts.specs.declared.symbols.Kind.TheVariants.{Input, Latch, Output, Bad, Constraint}
use Rattle.aig_parts.specs.SymbolPlaces.{Key}
use Rattle.aig_names.specs.Header.{section_scope, sections}
use Rattle.aig_names.specs.declared.header.SignalCounts.{SignalCounts}
use Rattle.aig_names.specs.state.Rows.{ScopeRow, rows_size, rows_text}

-- one section more
pub row_more : (symbols : List (Key × List ℕ)) (rows : List ScopeRow) (i : ℕ) (d : ScopeRow) (first size : ℕ) → i < length rows
    → (text new all : List ℕ)
    → new ≡ text ++ section_scope symbols (get_or rows i d).0 (get_or rows i d).2.now (get_or rows i d).3.now first (get_or rows i d).1
    → text ++ rows_text symbols first (drop i rows) ≡ all → first + rows_size (drop i rows) ≡ size
    → (new ++ rows_text symbols (first + (get_or rows i d).1) (drop (i + 1) rows) ≡ all)
    × (first + (get_or rows i d).1 + rows_size (drop (i + 1) rows) ≡ size)
row_more symbols rows i d first size lt text new all is h e =
    let row = get_or rows i d in
    let rest = rows_text symbols (first + row.1) (drop (i + 1) rows) in
    let more = drop_more rows i d lt in (
      ap (λ (t : List ℕ). t ++ rest) is
          ∙ append_assoc text (section_scope symbols row.0 row.2.now row.3.now first row.1) rest
          ∙ ap (λ rs. text ++ rows_text symbols first rs) (sym more) ∙ h,
      omega (arith, e, ap rows_size more),
    )

-- the table of all sections
pub all_sections : (symbols : List (Key × List ℕ)) (counts : SignalCounts) (n : ℕ) → n ≡ counts.inputs
    → section_scope symbols Input (codes "inputs") (codes "wire") 0 counts.inputs
    ++ (section_scope symbols Latch (codes "latches") (codes "reg") n counts.latches
    ++ (section_scope symbols Output (codes "outputs") (codes "wire") (n + counts.latches) counts.outputs
    ++ (section_scope symbols Bad (codes "bad") (codes "wire") (n + counts.latches + counts.outputs) counts.bad
    ++ (section_scope symbols Constraint (codes "constraints") (codes "wire") (n + counts.latches + counts.outputs + counts.bad) counts.constraints
    ++ []))))
    ≡ sections symbols counts
unfolding sections
all_sections symbols counts n e =
    rw e
    (ap (λ (t : List ℕ). section_scope symbols Input (codes "inputs") (codes "wire") 0 counts.inputs
    ++ (section_scope symbols Latch (codes "latches") (codes "reg") counts.inputs counts.latches
    ++ (section_scope symbols Output (codes "outputs") (codes "wire") (counts.inputs + counts.latches) counts.outputs
    ++ (section_scope symbols Bad (codes "bad") (codes "wire") (counts.inputs + counts.latches + counts.outputs) counts.bad ++ t))))
    (append-nil (section_scope symbols Constraint (codes "constraints") (codes "wire")
    (counts.inputs + counts.latches + counts.outputs + counts.bad) counts.constraints)))
