-- Lines that say why, in the form that is asked for: text for people, or JSON (our own choice).
-- Example: `at 0, by reset: q=0` and `{"line":"reset","frame":0,"latches":[..]}`.
use Rattle.std.specs.Prelude.{ℕ, List, [], ◌∷◌, ◌++◌, Option}
use Rattle.aig_parts.specs.declared.ternary.Tern.{Tern}
use Rattle.aig_signals.specs.declared.form.Form.{Form}
use Rattle.aig_signals.specs.declared.form.Form.TheVariants as forms
use Rattle.aig_signals.specs.declared.signal.Signal.{Signal}
use Rattle.aig_signals.specs.declared.text.Naming.{Naming}
use Rattle.aig_signals.specs.declared.text.Origin.{Origin}
use Rattle.aig_signals.specs.Json.{asked_start, latches_start, named_end, origin_start, signal_object}
use Rattle.aig_signals.specs.Naming.{signal_word}
use Rattle.aig_signals.specs.Text.{asked_head, latches_head, named_words, origin_head}

-- what is explained: literals at T, whose values are from bit 0 up
abbrev pub asked_by : Form → List ℕ → List (Option Tern) → ℕ → List ℕ
asked_by forms.Text name bits t = asked_head name bits t
asked_by forms.Json name bits t = asked_start name bits t

-- latches of a signal at S, by S - 1
abbrev pub latches_by : Form → List (Option Tern) → Signal → ℕ → List ℕ
latches_by forms.Text values signal s = latches_head (signal_word values signal) s
latches_by forms.Json values signal s = latches_start (signal_object values signal) s

-- the latches that the last lines name
abbrev pub origin_by : Form → Origin → List ℕ
origin_by forms.Text o = origin_head o
origin_by forms.Json o = origin_start o

-- by what it is explained
abbrev pub end_by : Form → Naming → List ℕ
end_by forms.Text named = 58 ∷ (named_words named ++ 10 ∷ [])
end_by forms.Json named = named_end named

-- a line: what is explained, and by what
abbrev pub line_by : Form → List ℕ → Naming → List ℕ
line_by form head named = head ++ end_by form named
