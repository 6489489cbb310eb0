-- The bytes of a circuit's parts in the two formats (AIGER 1.0; AIGER 1.9 for resets and properties).
-- Example: `aag 1 0 1 0 0 0 0/2 2 0/` has the short spelling `aag 1 0 1 0 0/2 2/`.
use Rattle.std.specs.Prelude.{ℕ, ◌-◌, Bool, false, List, [], ◌∷◌, ◌++◌, length, Option, None, Some, ◌==◌, ◌||◌}
use Rattle.std.specs.Prelude.{not, if◌then◌else◌}
use Rattle.std.specs.List.{flat_map}
use Rattle.std.specs.Fmt.{decimal}
use Rattle.aig_parts.specs.declared.gate.Gate.{Gate}
use Rattle.aig_parts.specs.declared.latch.Latch.{Latch}
use Rattle.aig_parts.specs.declared.raw.Raw.{Raw}
use Rattle.aig_parts.specs.declared.symbols.Kind.{Kind}
use Rattle.aig_parts.specs.Letters.{letter}
use Rattle.aig_format.specs.declared.reader.header.Format.TheVariants.{Ascii, Binary}
use Rattle.aig_format.specs.Delta.{delta}
use Rattle.aig_format.specs.Header.{space, line_end, field, header_line, counts_of}

-- ---- lines

abbrev pub literal_line : ℕ → List ℕ
literal_line l = field l line_end

-- the end of a latch line: the reset may be left out where it is 0
abbrev pub reset_text : Bool → ℕ → List ℕ
reset_text written reset = if written || not (reset == 0) then space ∷ field reset line_end else line_end ∷ []

abbrev pub latch_line : Bool → Latch → List ℕ
latch_line written x = field x.lit space ++ decimal x.next ++ reset_text written x.reset

-- the latch's own literal is left out
abbrev pub implicit_latch_line : Bool → Latch → List ℕ
implicit_latch_line written x = decimal x.next ++ reset_text written x.reset

abbrev pub gate_line : Gate → List ℕ
gate_line g = field g.lhs space ++ field g.rhs0 space ++ field g.rhs1 line_end

-- the left side is left out
abbrev pub gate_deltas : Gate → List ℕ
gate_deltas g = delta (g.lhs - g.rhs0) ++ delta (g.rhs0 - g.rhs1)

-- the size of a justice property
abbrev pub size_line : List ℕ → List ℕ
size_line p = literal_line (length p)

-- a line for each, with what may be left out where that is said to be written
unfoldable pub lines : {X : Type 0} → (Bool → X → List ℕ) → List Bool → List X → List ℕ
lines line written [] = []
lines line [] (x ∷ xs) = line false x ++ lines line [] xs
lines line (w ∷ written) (x ∷ xs) = line w x ++ lines line written xs

-- ---- symbols and comment

-- what a symbol names, and the name
abbrev pub Entry : Type 0
Entry = (Kind × ℕ) × List ℕ

abbrev pub symbol_line : Entry → List ℕ
symbol_line e = letter e.0.0 ∷ field e.0.1 space ++ e.1 ++ line_end ∷ []

-- a line that holds only `c`, and all bytes after it
abbrev pub comment_text : Option (List ℕ) → List ℕ
comment_text None = []
comment_text (Some bytes) = 99 ∷ line_end ∷ bytes

unfoldable pub names_text : List Entry → Option (List ℕ) → List ℕ
names_text symbols comment = flat_map symbol_line symbols ++ comment_text comment

-- ---- files

-- the sections that both formats have as text lines, the inputs and latches aside
unfoldable pub property_lines : List ℕ → List ℕ → List ℕ → List (List ℕ) → List ℕ → List ℕ
property_lines outputs bad constraints justice fairness =
    flat_map literal_line outputs ++ flat_map literal_line bad ++ flat_map literal_line constraints
    ++ flat_map size_line justice ++ flat_map (λ p. flat_map literal_line p) justice ++ flat_map literal_line fairness

abbrev pub properties_of : Raw → List ℕ
properties_of raw = property_lines raw.outputs raw.bad raw.constraints raw.justice raw.fairness

-- the zeros that a spelling writes though it may leave them out: how many of the four trailing counts are written at
-- least, and which latches' resets
pub record WrittenZeros : Type 0 where
  pub counts : ℕ
  pub resets : List Bool

unfoldable pub ascii : WrittenZeros → Raw → List ℕ
ascii zeros raw =
    header_line Ascii zeros.counts (counts_of raw) ++ flat_map literal_line raw.inputs
    ++ lines latch_line zeros.resets raw.latches ++ properties_of raw ++ flat_map gate_line raw.gates
    ++ names_text raw.symbols raw.comment

unfoldable pub binary : WrittenZeros → Raw → List ℕ
binary zeros raw =
    header_line Binary zeros.counts (counts_of raw) ++ lines implicit_latch_line zeros.resets raw.latches
    ++ properties_of raw ++ flat_map gate_deltas raw.gates ++ names_text raw.symbols raw.comment

-- no zero is written that may be left out
abbrev pub no_zeros : WrittenZeros
no_zeros = record { counts = 0; resets = [] }

-- what the writers write
abbrev pub short_ascii : Raw → List ℕ
short_ascii raw = ascii no_zeros raw

abbrev pub short_binary : Raw → List ℕ
short_binary raw = binary no_zeros raw
