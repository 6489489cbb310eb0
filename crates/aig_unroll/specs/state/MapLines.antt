-- What the map has of some inputs of the unrolled circuit, where variables have marks.
use Rattle.std.specs.Prelude.{ℕ, ◌+◌, ◌++◌, Bool, ◌&&◌, if◌then◌else◌, List, [], length, Option}
use Rattle.std.specs.List.{filter}
use Rattle.aig_parts.specs.Literal.{variable}
use Rattle.aig_parts.specs.declared.latch.Latch.{Latch}
use Rattle.aig_parts.specs.declared.raw.Raw.{Raw}
use Rattle.aig_unroll.specs.FrameLiteral.{is_uninitialised}
use Rattle.aig_unroll.specs.InputMap.{Origin, has_mark, is_of, origin_line, origin_lines}

-- the line of an input with the number n after a prefix, if it is kept
abbrev pub line_if : Bool → List ℕ → Raw → ℕ → Origin → List ℕ
line_if is_kept prefix raw n o = if is_kept then prefix ++ origin_line raw n o else []

-- the number after it
abbrev pub number_after : Bool → ℕ → ℕ
number_after is_kept n = if is_kept then n + 1 else n

-- the start of the latch is an input of the unrolled circuit, and is kept
abbrev pub is_kept_start : Option (List Bool) → Latch → Bool
is_kept_start marks x = is_uninitialised x && has_mark marks (variable x.lit)

-- the inputs that are kept of these
abbrev pub kept : Option (List Bool) → Raw → List Origin → List Origin
kept marks raw os = filter (is_of (has_mark marks) raw) os

-- their lines, the first of which has the number n
abbrev pub kept_lines : Option (List Bool) → List ℕ → Raw → ℕ → List Origin → List ℕ
kept_lines marks prefix raw n os = origin_lines prefix raw n (kept marks raw os)

-- the number after them
abbrev pub after_kept : Option (List Bool) → Raw → ℕ → List Origin → ℕ
after_kept marks raw n os = n + length (kept marks raw os)
