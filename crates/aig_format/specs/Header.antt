-- The header line (AIGER 1.0, header; AIGER 1.9 adds four counts). Where the standard is silent, as about limits, this
-- is our own choice.
-- Example: `aag 1 2 0 0 0/` is wrong: two inputs want two variables.
use Rattle.std.specs.Prelude.{ℕ, ◌+◌, ◌-◌, Bool, true, List, [], ◌∷◌, ◌++◌, length, ◌==◌, ◌&&◌, not}
use Rattle.std.specs.Prelude.{if◌then◌else◌, nat_lt}
use Rattle.std.specs.List.{list_all}
use Rattle.std.specs.Fmt.{decimal}
use Rattle.aig_parts.specs.declared.raw.Raw.{Raw}
use Rattle.aig_format.specs.declared.reader.header.Format.{Format}
use Rattle.aig_format.specs.declared.reader.header.Format.TheVariants.{Ascii, Binary}

abbrev pub space : ℕ
space = 32

abbrev pub line_end : ℕ
line_end = 10

-- a number and the byte that ends it
abbrev pub field : ℕ → ℕ → List ℕ
field n end = decimal n ++ end ∷ []

-- `aag ` or `aig `
abbrev pub word : Format → List ℕ
word Ascii = 97 ∷ 97 ∷ 103 ∷ space ∷ []
word Binary = 97 ∷ 105 ∷ 103 ∷ space ∷ []

-- The last counts of the line, and its end. At least so many of them are written; those after may be left out where
-- they are all 0.
unfoldable pub tail : ℕ → List ℕ → List ℕ
tail least [] = line_end ∷ []
tail least (n ∷ ns) =
    if least == 0 && list_all (λ k. k == 0) (n ∷ ns) then line_end ∷ [] else space ∷ (decimal n ++ tail (least - 1) ns)

-- M, and how many inputs, latches, outputs, gates, bad state properties, constraints, justice properties and fairness
-- constraints there are
abbrev pub counts_of : Raw → List ℕ
counts_of raw =
    raw.max_var ∷ length raw.inputs ∷ length raw.latches ∷ length raw.outputs ∷ length raw.gates ∷ length raw.bad
    ∷ length raw.constraints ∷ length raw.justice ∷ length raw.fairness ∷ []

-- the line of such counts, with at least so many of the last four
unfoldable pub header_line : Format → ℕ → List ℕ → List ℕ
header_line format least (m ∷ i ∷ l ∷ o ∷ a ∷ last) =
    word format ++ field m space ++ field i space ++ field l space ++ field o space ++ decimal a ++ tail least last
header_line format least counts = []

-- The counts do not go together: an ASCII file has too few variables for all that is defined, a binary file too few or
-- too many.
abbrev pub are_wrong : Format → List ℕ → Bool
are_wrong Ascii (m ∷ i ∷ l ∷ o ∷ a ∷ last) = nat_lt m (i + l + a)
are_wrong Binary (m ∷ i ∷ l ∷ o ∷ a ∷ last) = not (m == i + l + a)
are_wrong format counts = true
