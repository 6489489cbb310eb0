-- Lines that say why as text: what is explained, and the inputs and latches that it is explained by (our own choice).
-- Example: `full=0 at 9, by 8: count=4'b??1?`.
use Rattle.std.specs.Prelude.{ℕ, ◌-◌, List, [], ◌∷◌, ◌++◌, decimal, codes, Option}
use Rattle.aig_parts.specs.declared.ternary.Tern.{Tern}
use Rattle.aig_signals.specs.declared.text.Naming.{Naming}
use Rattle.aig_signals.specs.declared.text.Origin.{Origin}
use Rattle.aig_signals.specs.declared.text.Origin.TheVariants as origin
use Rattle.aig_signals.specs.Naming.{section_words, unnamed}
use Rattle.aig_signals.specs.Value.{value_text}

-- nothing is named
abbrev pub names_none : Naming → Naming
names_none n = record { inputs = unnamed n.inputs; latches = unnamed n.latches }

-- ` always` in place of no words
abbrev pub or_always : List ℕ → List ℕ
or_always [] = codes " always"
or_always (byte ∷ words) = byte ∷ words

-- the words of inputs and then of latches
abbrev pub named_words : Naming → List ℕ
named_words n = or_always (section_words n.inputs ++ section_words n.latches)

-- a line: what is explained, and by what
abbrev pub line : List ℕ → Naming → List ℕ
line head named = head ++ (58 ∷ (named_words named ++ 10 ∷ []))

-- NAME=VALUE at T: the literals that were asked for, whose values are from bit 0 up
abbrev pub asked_head : List ℕ → List (Option Tern) → ℕ → List ℕ
asked_head name bits t = name ++ (61 ∷ (value_text bits ++ (codes " at " ++ decimal t)))

-- WORD at S, by S - 1: latches
abbrev pub latches_head : List ℕ → ℕ → List ℕ
latches_head word s = word ++ (codes " at " ++ (decimal s ++ (codes ", by " ++ decimal (s - 1))))

-- the latches that are named at the last frame: no line explains them, or they are named at frame 0 and start as their
-- reset says, or otherwise
abbrev pub origin_head : Origin → List ℕ
origin_head (origin.NotExplained f) = codes "at " ++ (decimal f ++ codes ", not explained")
origin_head origin.Reset = codes "at 0, by reset"
origin_head origin.Start = codes "at 0, by start"
