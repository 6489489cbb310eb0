-- What the inputs of an unrolled circuit are, and a text that says it. Where the standard is silent, this is our own
-- choice.
-- Example: `i 0 0 0 `, `i 1 1 0 `, `l 2 0 `.
use Rattle.std.specs.Prelude.{◌≡◌, ℕ, ◌+◌, ◌==◌, Bool, true, false, ◌&&◌, if◌then◌else◌, List, [], ◌∷◌, ◌++◌, length}
use Rattle.std.specs.Prelude.{map, slice_index, slice_index_or, codes, decimal, Option, None, Some}
use Rattle.std.specs.List.{filter, range_with_len}
use Rattle.aig_parts.specs.Literal.{variable}
use Rattle.aig_parts.specs.declared.latch.Latch.{Latch}
use Rattle.aig_parts.specs.declared.raw.Raw.{Raw}
use Rattle.aig_parts.specs.declared.symbols.Kind.{Kind}
use Rattle.aig_parts.specs.declared.symbols.Kind.TheVariants as kinds
use Rattle.aig_parts.specs.Letters.{letter}
use Rattle.aig_parts.specs.SymbolPlaces.{Key}
use Rattle.aig_unroll.specs.FrameLiteral.{frame_literal, is_uninitialised}
use Rattle.aig_unroll.specs.Unrolled.{frames}

-- where an input of the unrolled circuit is from: an input of the circuit at frame t, or the start of a latch; by its
-- position p
pub data Origin : Type 0 where
  input : (t p : ℕ) → Origin
  start : (p : ℕ) → Origin

-- the inputs of the circuit at frame t
abbrev pub frame_origins : Raw → ℕ → List Origin
frame_origins raw t = map (input t) (range_with_len 0 (length raw.inputs))

-- the uninitialised ones of these latches, the first of which is at position p
unfoldable pub start_origins : ℕ → List Latch → List Origin
start_origins p [] = []
start_origins p (x ∷ xs) =
    if is_uninitialised x then start p ∷ start_origins (p + 1) xs else start_origins (p + 1) xs

-- where the inputs of the circuit unrolled for k frames are from, in order
abbrev pub origins : Raw → ℕ → List Origin
origins raw k = frames (frame_origins raw) k ++ start_origins 0 raw.latches

-- the variable of the circuit that it is of passes the test
abbrev pub is_of : (ℕ → Bool) → Raw → Origin → Bool
is_of test raw (input t p) = test (variable (slice_index raw.inputs p))
is_of test raw (start p) = test (variable (slice_index (map (λ x. x.lit) raw.latches) p))

-- the inputs of the unrolled circuit of which the variable does
abbrev pub read_origins : (ℕ → Bool) → Raw → ℕ → List Origin
read_origins test raw k = filter (is_of test raw) (origins raw k)

-- a variable has a mark if there are marks, or all have one
abbrev pub has_mark : Option (List Bool) → ℕ → Bool
has_mark None v = true
has_mark (Some marks) v = slice_index_or marks v false

-- the literal that stands for it: that of the input at frame t, or of the latch at frame 0
abbrev pub origin_literal : Raw → List ℕ → ℕ → Origin → ℕ
origin_literal raw order k (input t p) = frame_literal raw order k t (slice_index raw.inputs p)
origin_literal raw order k (start p) = frame_literal raw order k 0 (slice_index (map (λ x. x.lit) raw.latches) p)

abbrev pub is_input : Kind → Bool
is_input kinds.Input = true
is_input _ = false

abbrev pub is_latch : Kind → Bool
is_latch kinds.Latch = true
is_latch _ = false

-- the sections are the same
abbrev pub is_same : Kind → Kind → Bool
is_same kind other = letter other == letter kind

-- the symbol at position p of the section that the test chooses, empty where there is none
unfoldable pub symbol_name_at : (Kind → Bool) → List (Key × List ℕ) → ℕ → List ℕ
symbol_name_at test [] p = []
symbol_name_at test (s ∷ symbols) p = if test s.0.0 && s.0.1 == p then s.1 else symbol_name_at test symbols p

-- a number and a space
abbrev pub map_field : ℕ → List ℕ
map_field n = decimal n ++ codes " "

-- the line of an input of the unrolled circuit, with the number n
abbrev pub origin_line : Raw → ℕ → Origin → List ℕ
origin_line raw n (input t p) =
    codes "i " ++ (map_field n ++ (map_field t ++ (map_field p ++ (symbol_name_at is_input raw.symbols p ++ codes "\n"))))
origin_line raw n (start p) =
    codes "l " ++ (map_field n ++ (map_field p ++ (symbol_name_at is_latch raw.symbols p ++ codes "\n")))

-- a line each after a prefix, the first of which has the number n
unfoldable pub origin_lines : List ℕ → Raw → ℕ → List Origin → List ℕ
origin_lines prefix raw n [] = []
origin_lines prefix raw n (o ∷ os) = (prefix ++ origin_line raw n o) ++ origin_lines prefix raw (n + 1) os

-- the map of the circuit unrolled for k frames: the lines of all its inputs, with their positions
abbrev pub map_text : Raw → ℕ → List ℕ
map_text raw k = origin_lines [] raw 0 (origins raw k)

-- the literals that the lines name are the inputs of the unrolled circuit, in order
abbrev pub ReportsInputs : Raw → List ℕ → ℕ → List ℕ → Type 0
ReportsInputs raw order k inputs = map (origin_literal raw order k) (origins raw k) ≡ inputs
