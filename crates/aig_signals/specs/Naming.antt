-- What a line names of a section: some entries with their values, and the words for them (our own choice).
-- Example: bits 0 and 1 of `q`, which are 1 and 0, of four: `q=4'b??01`.
use Rattle.std.specs.Prelude.{ℕ, ◌-◌, Bool, List, ◌∷◌, ◌++◌, length, take, drop, filter, flat_map, replicate, Option}
use Rattle.std.specs.Prelude.{None, is_some}
use Rattle.std.specs.List.{list_any}
use Rattle.aig_parts.specs.declared.ternary.Tern.{Tern}
use Rattle.aig_signals.specs.declared.signal.Signal.{Signal}
use Rattle.aig_signals.specs.Value.{value_text}

-- The signals of the section, and for each entry its value, none where it is not named.
pub record SectionNamed : Type 0 where
  pub signals : List Signal
  pub values : List (Option Tern)

-- nothing
abbrev pub unnamed : SectionNamed → SectionNamed
unnamed n = record { signals = n.signals; values = replicate (length n.values) None }

-- the bits of a signal
abbrev pub signal_bits : List (Option Tern) → Signal → List (Option Tern)
signal_bits values signal = take (signal.end - signal.first) (drop signal.first values)

-- whether a bit of it is named
abbrev pub is_named : List (Option Tern) → Signal → Bool
is_named values signal = list_any is_some (signal_bits values signal)

-- NAME=VALUE
abbrev pub signal_word : List (Option Tern) → Signal → List ℕ
signal_word values signal = signal.name ++ (61 ∷ value_text (signal_bits values signal))

-- the words of the signals of which a bit is named, each after a blank
unfoldable pub section_words : SectionNamed → List ℕ
section_words n = flat_map (λ signal. 32 ∷ signal_word n.values signal) (filter (is_named n.values) n.signals)
