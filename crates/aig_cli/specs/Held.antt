-- What the parsed arguments hold.
-- Example: `--frames 3` holds 3 for `K`, and without it there is none.
use Rattle.std.specs.Prelude.{◌≡◌, ◌⊎◌, ℕ, ◌<◌, ◌^◌, ◌&&◌, ◌||◌, nat_le, List, slice_index, Bool, true, false, Option, None}
use Rattle.std.specs.Prelude.{Some, codes, is_some, not}
use Rattle.std.specs.Str.{bytes_eq}
use Rattle.std.specs.Str.Parse.{IsNumeral, digits_value, without_leading_plus}
use Rattle.clap.specs.Matches.{first_value, found_of, one_text}
use Rattle.clap.specs.Simple.{subcommand_rows_of}
use Rattle.clap.specs.Walk.{rows_of}
use Rattle.clap.specs.declared.parser.matches.ArgMatches.{ArgMatches}

-- the matches hold a subcommand of this name, whose own matches have the values of these
abbrev pub HoldsSubcommand : ArgMatches → List ℕ → ArgMatches → Type 0
HoldsSubcommand matches name own = subcommand_rows_of matches ≡ Some (name, rows_of (found_of own))

-- a number of 32 bits is the one that a text spells in decimal digits; there is none only where it spells no such
-- number
abbrev pub IsNumberOf : List ℕ → Option ℕ → Type 0
IsNumberOf text (Some n) = n ≡ digits_value 10 (without_leading_plus text)
IsNumberOf text None =
    IsNumeral 10 (without_leading_plus text) × (digits_value 10 (without_leading_plus text) < 2 ^ 32) → ⊥

-- a number is that of the text of an argument; without the argument there is none
abbrev pub HoldsNumber : ArgMatches → List ℕ → Option ℕ → Type 0
HoldsNumber matches name number =
    (one_text (found_of matches) name ≡ None → number ≡ None)
    × ((text : List ℕ) → one_text (found_of matches) name ≡ Some text → IsNumberOf text number)

-- a flag is set where the matches hold that it was given, and is not where they hold that it was not
abbrev pub HoldsFlag : ArgMatches → List ℕ → Bool → Type 0
HoldsFlag matches name flag =
    (one_text (found_of matches) name ≡ Some (codes "true") → flag ≡ true)
    × (one_text (found_of matches) name ≡ Some (codes "false") → flag ≡ false)
    × (one_text (found_of matches) name ≡ None → flag ≡ false)

-- a command is about a formula
abbrev pub needs_formula : List ℕ → ArgMatches → Bool
needs_formula name own =
    bytes_eq name (codes "cnf") || (bytes_eq name (codes "refute")
    || bytes_eq name (codes "witness") && is_some (first_value (found_of own) (codes "model")))

-- the arguments of a command name a formula, by a number of frames or by a certificate
abbrev pub names_formula : ArgMatches → Bool
names_formula own =
    is_some (first_value (found_of own) (codes "K")) || is_some (first_value (found_of own) (codes "certificate"))

-- whether a command needs a formula and names none
abbrev pub LacksFormula : ArgMatches → Bool → Type 0
LacksFormula matches flag =
    ((name : List ℕ) × (own : ArgMatches) × HoldsSubcommand matches name own
    × (flag ≡ (needs_formula name own && not (names_formula own))))
    ⊎ ((subcommand_rows_of matches ≡ None) × (flag ≡ false))

-- a number without a sign and without a leading zero: it is 0, or begins with a digit from 1 to 9
abbrev pub is_plain_number : List ℕ → Bool
is_plain_number text = bytes_eq text (codes "0") || nat_le 49 (slice_index text 0) && nat_le (slice_index text 0) 57
