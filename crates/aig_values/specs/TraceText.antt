-- The text of a trace by the cells of its frames (our own choice).
-- Example: the cells 0, 1, 1, 1, 1 of `examples/two_gates.aag` give ` 11 1 /`.
use Rattle.std.specs.Prelude.{ℕ, List, [], ◌∷◌, ◌++◌, map, flat_map}
use Rattle.aig_parts.specs.declared.ternary.Tern.{Tern}
use Rattle.aig_parts.specs.declared.raw.Raw.{Raw}
use Rattle.aig_values.specs.Cells.{literal_value}
use Rattle.aig_values.specs.Characters.{character}

-- the character of a literal's value
abbrev pub literal_character : List Tern → ℕ → ℕ
literal_character cells l = character (literal_value cells l)

-- the fields of a frame, and the byte that ends them: state, inputs, outputs, next state
unfoldable pub fields_text : Raw → List Tern → ℕ → List ℕ
fields_text raw cells end =
    (map (λ x. literal_character cells x.lit) raw.latches ++ 32 ∷ [])
    ++ ((map (literal_character cells) raw.inputs ++ 32 ∷ [])
    ++ ((map (literal_character cells) raw.outputs ++ 32 ∷ [])
    ++ (map (λ x. literal_character cells x.next) raw.latches ++ end ∷ [])))

-- the line of a frame
unfoldable pub line_text : Raw → List Tern → List ℕ
line_text raw cells = fields_text raw cells 10

-- the line of a frame with properties: its fields, bad state properties, constraints
unfoldable pub property_line_text : Raw → List Tern → List ℕ
property_line_text raw cells =
    fields_text raw cells 32
    ++ ((map (literal_character cells) raw.bad ++ 32 ∷ []) ++ (map (literal_character cells) raw.constraints ++ 10 ∷ []))

-- a line a row of cells
abbrev pub trace_text : Raw → List (List Tern) → List ℕ
trace_text raw rows = flat_map (line_text raw) rows
