-- The lines of an explanation, as text or as JSON (our own choice).
-- Example: `full=0 at 9, by 8: count=4'b??1?`.
use Rattle.std.specs.Prelude.{◌≡◌, ◌⊎◌, ℕ, suc, ◌<◌, ◌≤◌, ◌↔◌, Bool, true, false, List, [], ◌∷◌, ◌++◌, length, map}
use Rattle.std.specs.Prelude.{Contains, Option, None, Some, slice_get}
use Rattle.std.specs.List.{AllZip}
use Rattle.aig_parts.specs.declared.latch.Latch.{Latch}
use Rattle.aig_parts.specs.declared.raw.Raw.{Raw}
use Rattle.aig_parts.specs.declared.symbols.Kind.TheVariants as kinds
use Rattle.aig_parts.specs.declared.ternary.Tern.{Tern}
use Rattle.aig_parts.specs.declared.ternary.Tern.TheVariants.{Zero, One}
use Rattle.aig_causes.specs.Causes.{Has, Moment, Sources}
use Rattle.aig_causes.specs.Explanation.{LineState}
use Rattle.aig_causes.specs.Lines.{next}
use Rattle.aig_signals.specs.declared.signal.Signal.{Signal}
use Rattle.aig_signals.specs.declared.text.Naming.{Naming}
use Rattle.aig_signals.specs.declared.text.Origin.{Origin}
use Rattle.aig_signals.specs.declared.text.Origin.TheVariants as origin
use Rattle.aig_signals.specs.Signals.{section_signals}
use Rattle.aig_signals.specs.Form.{asked_by, latches_by, line_by, origin_by}
use Rattle.aig_signals.specs.declared.form.Form.{Form}

-- Exactly these positions are named, each with the value at m of its literal.
pub record AreNamed (raw : Raw) (m : Moment) (literals positions : List ℕ) (values : List (Option Tern)) : Type 0 where
  pub size : length values ≡ length literals
  pub named : (p l : ℕ) (w : Tern) → Contains positions p → slice_get literals p ≡ Some l → Has raw m l w
      → slice_get values p ≡ Some (Some w)
  pub others : (p : ℕ) → p < length literals → (Contains positions p → ⊥) → slice_get values p ≡ Some None

-- a line names these inputs and latches with their values at m
pub record Names (raw : Raw) (m : Moment) (sources : Sources) (n : Naming) : Type 0 where
  pub input_signals : n.inputs.signals ≡ section_signals raw kinds.Input
  pub latch_signals : n.latches.signals ≡ section_signals raw kinds.Latch
  pub inputs : AreNamed raw m raw.inputs sources.inputs n.inputs.values
  pub latches : AreNamed raw m (map (λ x. x.lit) raw.latches) sources.latches n.latches.values

-- latches alone
abbrev pub latches_alone : List ℕ → Sources
latches_alone latches = record { inputs = []; latches = latches }

-- the values at m of literals
abbrev pub AreBits : Raw → Moment → List ℕ → List (Option Tern) → Type 0
AreBits raw m literals bits = AllZip (λ l bit. (w : Tern) × (bit ≡ Some w) × Has raw m l w) literals bits

-- the line of the literals that were asked for by a name; none where they are latches alone
pub record IsAskedText (form : Form) (raw : Raw) (m : Moment) (name literals : List ℕ) (asked : Sources)
    (text : List ℕ) : Type 0 where
  pub bits : List (Option Tern)
  pub bits_are : AreBits raw m literals bits
  pub named : Naming
  pub names : Names raw m asked named
  pub text_is : text ≡ line_by form (asked_by form name bits m.frame) named

-- the line of latches of one signal of the frame after m, by what it names at m
pub record IsLineText (form : Form) (raw : Raw) (m : Moment) (x : LineState) (text : List ℕ) : Type 0 where
  pub signal : Signal
  pub signal_is : Contains (section_signals raw kinds.Latch) signal
  pub within : (p : ℕ) → Contains x.latches p → (signal.first ≤ p) × (p < signal.end)
  pub left : Naming
  pub left_names : Names raw (next m) (latches_alone x.latches) left
  pub right : Naming
  pub right_names : Names raw m x.causes right
  pub text_is : text ≡ line_by form (latches_by form left.latches.values signal (suc m.frame)) right

-- nothing for latches that keep their values, else their line
abbrev pub ShowsLine : Bool → Form → Raw → Moment → LineState → List ℕ → Type 0
ShowsLine true form raw m x text = text ≡ []
ShowsLine false form raw m x text = IsLineText form raw m x text

-- the lines of a frame, without those of latches that keep their values
unfoldable pub AreLineTexts : Form → Raw → Moment → List LineState → List ℕ → Type 0
AreLineTexts form raw m [] text = text ≡ []
AreLineTexts form raw m (x ∷ more) text =
    (here : List ℕ) × (rest : List ℕ) × ShowsLine x.kept form raw m x here × AreLineTexts form raw m more rest
    × (text ≡ here ++ rest)

-- the lines of the frames from m on, the lowest frame first here, and last in the text
unfoldable pub AreFrameTexts : Form → Raw → Moment → List (List LineState) → List ℕ → Type 0
AreFrameTexts form raw m [] text = text ≡ []
AreFrameTexts form raw m (lines ∷ frames) text =
    (above : List ℕ) × (here : List ℕ) × AreFrameTexts form raw (next m) frames above × AreLineTexts form raw m lines here
    × (text ≡ above ++ here)

-- the value is that of a reset of 0 or 1
abbrev pub IsResetValue : ℕ → Tern → Type 0
IsResetValue reset w = ((reset ≡ 0) × (w ≡ Zero)) ⊎ ((reset ≡ 1) × (w ≡ One))

-- a latch has the value of its own reset at frame 0
abbrev pub StartsByReset : Raw → Moment → ℕ → Type 0
StartsByReset raw m p =
    (x : Latch) × (w : Tern) × (slice_get raw.latches p ≡ Some x) × Has raw m x.lit w × IsResetValue x.reset w

-- a line of latches that no line explains; none where there are none
abbrev pub IsOriginText : Form → Raw → Moment → Origin → List ℕ → List ℕ → Type 0
IsOriginText form raw m o [] text = text ≡ []
IsOriginText form raw m o (p ∷ more) text =
    (named : Naming) × Names raw m (latches_alone (p ∷ more)) named × (text ≡ line_by form (origin_by form o) named)

-- the last lines: the latches that are named at m
pub record AreLastTexts (form : Form) (raw : Raw) (m : Moment) (latches : List ℕ) (text : List ℕ) : Type 0 where
  pub unexplained : 0 < m.frame → IsOriginText form raw m (origin.NotExplained m.frame) latches text
  pub at_start : m.frame ≡ 0 → (reset : List ℕ) × (other : List ℕ) × (first : List ℕ) × (second : List ℕ)
      × ((p : ℕ) → Contains reset p ↔ (Contains latches p × StartsByReset raw m p))
      × ((p : ℕ) → Contains other p ↔ (Contains latches p × (StartsByReset raw m p → ⊥)))
      × IsOriginText form raw m origin.Reset reset first × IsOriginText form raw m origin.Start other second
      × (text ≡ first ++ second)
