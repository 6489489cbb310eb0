-- What `info --names` writes: a line for each entry of a circuit, with its name, as text or as JSON. How a line is
-- written is our own choice.
-- Example: `aag 1 1 0 0 0 1/2/3/b0 stuck/`: `i 0 2 /b 0 3 stuck/`.
use Rattle.std.specs.Prelude.{◌≡◌, ℕ, ◌+◌, List, [], ◌∷◌, ◌++◌, Result, Ok, Err, codes}
use Rattle.std.specs.Fmt.{decimal}
use Rattle.aig_parts.specs.declared.raw.Raw.{Raw}
use Rattle.aig_parts.specs.declared.symbols.Kind.{Kind}
use Rattle.aig_parts.specs.declared.symbols.Kind.TheVariants as kinds
use Rattle.aig_parts.specs.Letters.{letter}
use Rattle.aig_format.specs.Spelling.{Entry}
use Rattle.aig_signals.specs.declared.form.Form.{Form}
use Rattle.aig_signals.specs.declared.form.Form.TheVariants as forms
use Rattle.aig_signals.specs.Json.{name_text}
use Rattle.aig_unroll.specs.InputMap.{is_same, map_field, symbol_name_at}
use Rattle.aig_command.specs.declared.run_fault.RunFault.{RunFault}

-- an entry's section and position, up to its literal
abbrev pub entry_start : Form → Kind → ℕ → List ℕ
entry_start forms.Text kind p = letter kind ∷ codes " " ++ map_field p
entry_start forms.Json kind p =
    codes "{\"letter\":\"" ++ (letter kind ∷ (codes "\",\"position\":" ++ (decimal p ++ codes ",\"literal\":")))

-- where it has no literal of its own
abbrev pub no_literal : Form → List ℕ
no_literal forms.Text = codes "-"
no_literal forms.Json = codes "null"

-- its name, empty where it has none
abbrev pub entry_end : Form → List Entry → Kind → ℕ → List ℕ
entry_end forms.Text symbols kind p = codes " " ++ (symbol_name_at (is_same kind) symbols p ++ codes "\n")
entry_end forms.Json symbols kind p = codes ",\"name\":" ++ (name_text (symbol_name_at (is_same kind) symbols p) ++ codes "}\n")

-- the line of the entry at position p of a section, with its literal as it is shown
unfoldable pub entry_line : Form → List Entry → Kind → ℕ → List ℕ → List ℕ
entry_line form symbols kind p literal = entry_start form kind p ++ (literal ++ entry_end form symbols kind p)

-- the lines of the entries of a section from position p on, given how the literal of each is shown
unfoldable pub entry_lines : {X : Type 0} → Form → (X → List ℕ) → List Entry → Kind → ℕ → List X → List ℕ
entry_lines form shown symbols kind p [] = []
entry_lines form shown symbols kind p (x ∷ xs) =
    entry_line form symbols kind p (shown x) ++ entry_lines form shown symbols kind (p + 1) xs

-- the lines of all sections; a justice property has no literal of its own
unfoldable pub entries_text : Form → Raw → List ℕ
entries_text form raw =
    entry_lines form decimal raw.symbols kinds.Input 0 raw.inputs
    ++ (entry_lines form (λ x. decimal x.lit) raw.symbols kinds.Latch 0 raw.latches
    ++ (entry_lines form decimal raw.symbols kinds.Output 0 raw.outputs
    ++ (entry_lines form decimal raw.symbols kinds.Bad 0 raw.bad
    ++ (entry_lines form decimal raw.symbols kinds.Constraint 0 raw.constraints
    ++ (entry_lines form (λ literals. no_literal form) raw.symbols kinds.Justice 0 raw.justice
    ++ entry_lines form decimal raw.symbols kinds.Fairness 0 raw.fairness)))))

-- what `info --names` writes for a circuit in a form; it needs no memory
abbrev pub ListsNamesAs : Form → Raw → Result (Unit {0}) RunFault → List ℕ → Type 0
ListsNamesAs form raw (Ok done) text = text ≡ entries_text form raw
ListsNamesAs form raw (Err _) text = ⊥

-- as text
abbrev pub ListsNames : Raw → Result (Unit {0}) RunFault → List ℕ → Type 0
ListsNames raw answer text = ListsNamesAs forms.Text raw answer text
