-- What tables have of texts while the names of a circuit are looked at.
use Rattle.std.specs.Prelude.{◌≡◌, ℕ, Bool, true, false, if◌then◌else◌, List, [], ◌++◌, Option, None, Some, IfSome, option_map}
use Rattle.aig_parts.specs.declared.raw.Raw.{Raw}
use Rattle.aig_signals.specs.Bits.{bits_named, word_bits}
use Rattle.aig_signals.specs.declared.bits.WordBit.{WordBit}
use Rattle.aig_signals.specs.declared.lookup.Rule.TheVariants as rule
use Rattle.aig_signals.specs.Lookup.{alone, literals_by, or_else, signal_literals, signal_named}

-- the literals that an entry gives a text, if it has the text as a name
abbrev pub if_named : Bool → ℕ → Option (List ℕ)
if_named named literal = if named then Some (alone literal) else None

-- what a table has of a text after more was found of it: what it had, or else that
abbrev pub or_found : Option (List ℕ) → Option (Option (List ℕ)) → Option (Option (List ℕ))
or_found found old = option_map (λ was. or_else was found) old

-- whether a text is in the table, and nothing was found of it
abbrev pub wants : Option (Option (List ℕ)) → Bool
wants None = false
wants (Some None) = true
wants (Some (Some literals)) = false

-- what a table of words X[n] has of X after more of them were found
abbrev pub with_words : List WordBit → Option (List WordBit) → Option (List WordBit)
with_words more old = option_map (λ was. was ++ more) old

-- what it has of X after those of this or another X were taken out
abbrev pub emptied : Bool → Option (List WordBit) → Option (List WordBit)
emptied true old = option_map (λ was. []) old
emptied false old = old

-- the table has all words X[n] of each of its texts X
abbrev pub AreWords : Raw → (List ℕ → Option (List WordBit)) → Type 0
AreWords raw table = (x : List ℕ) → IfSome (table x) (λ words. words ≡ word_bits raw x)

-- the table has what each of its texts X is that of by its words X[n]
abbrev pub AreByWords : Raw → (List ℕ → Option (Option (List ℕ))) → Type 0
AreByWords raw table = (x : List ℕ) → IfSome (table x) (λ found. found ≡ bits_named raw x)

-- what a name is that of by first names, vectors and further words
abbrev pub by_names : Raw → List ℕ → Option (List ℕ)
by_names raw name =
    or_else (or_else (literals_by raw name rule.FirstName) (option_map (signal_literals raw) (signal_named raw name)))
    (literals_by raw name rule.FurtherWord)
