-- What a viewer sees of a signal in a value change dump (IEEE 1364, value change dump). Where the standard is silent,
-- reading line by line is our own choice.
-- Example: `#0/1!/#1/0!/`: code `!` has 1 at time 0 and 0 at time 1.
use Rattle.std.specs.Prelude.{◌≡◌, ℕ, ◌<◌, Bool, ◌&&◌, ◌||◌, ◌==◌, nat_le, if◌then◌else◌, List, [], ◌∷◌, ◌++◌}
use Rattle.std.specs.Prelude.{slice_get, Option, Some, None}
use Rattle.std.specs.Str.{bytes_eq}
use Rattle.std.specs.Str.Parse.{digits_value}
use Rattle.aig_parts.specs.declared.ternary.Tern.{Tern}
use Rattle.aig_parts.specs.declared.raw.Raw.{Raw}
use Rattle.aig_base.specs.Value.{Value}
use Rattle.aig_values.specs.Characters.{character}
use Rattle.aig_sim.specs.Dump.{signals}
use Rattle.aig_names.specs.Names.{identifier_code}

-- the lines of a text, of which the first one has begun; LF ends a line, and what no LF ends is none
unfoldable pub lines_after : List ℕ → List ℕ → List (List ℕ)
lines_after line [] = []
lines_after line (b ∷ text) = if b == 10 then line ∷ lines_after [] text else lines_after (line ++ b ∷ []) text

abbrev pub lines : List ℕ → List (List ℕ)
lines text = lines_after [] text

-- the time after a line, where it was `now` before: `#` and a decimal number give it
abbrev pub time_after : ℕ → List ℕ → ℕ
time_after now [] = now
time_after now (b ∷ rest) = if b == 35 then digits_value 10 rest else now

-- `0`, `1` or `x`
abbrev pub is_value : ℕ → Bool
is_value b = b == 48 || (b == 49 || b == 120)

-- what a look at time t sees of a code after a line, where it saw `value` before: a value and the code are its new
-- value, unless it is later than t
abbrev pub value_after : List ℕ → ℕ → ℕ → Option ℕ → List ℕ → Option ℕ
value_after code t now value [] = value
value_after code t now value (b ∷ rest) =
    if is_value b && (bytes_eq rest code && nat_le now t) then Some b else value

-- the same after these lines; those that begin with `$`, and all others, give neither time nor value
unfoldable pub seen : List ℕ → ℕ → ℕ → Option ℕ → List (List ℕ) → Option ℕ
seen code t now value [] = value
seen code t now value (line ∷ more) =
    seen code t (time_after now line) (value_after code t now value line) more

-- the last value that a text gives a code at a time at most t
abbrev pub read_value : List ℕ → List ℕ → ℕ → Option ℕ
read_value text code t = seen code t 0 None (lines text)

-- at each time below k a look at each signal sees its value at that frame
abbrev pub ShowsFrames : Raw → List Tern → List (List Tern) → ℕ → List ℕ → Type 0
ShowsFrames raw start rows k text = (t n l : ℕ) → t < k → slice_get (signals raw) n ≡ Some l
    → (w : Tern) × Value raw start rows t l w × (read_value text (identifier_code n) t ≡ Some (character w))
