-- What `why` answers: the first lines of an explanation, folded (our own choice).
-- Example: the first 40, folded, and `12 more lines`.
use Rattle.std.specs.Prelude.{◌≡◌, ◌≢◌, ℕ, zero, suc, ◌+◌, ◌<◌, ◌≤◌, List, [], ◌∷◌, ◌++◌, length, flat_map, codes}
use Rattle.std.specs.Prelude.{decimal, All, Option, None, Some}
use Rattle.std.specs.List.{AllZip}
use Rattle.aig_parts.specs.declared.raw.Raw.{Raw}
use Rattle.aig_prompt.specs.Folded.{text_words}
use Rattle.aig_signals.specs.declared.form.Form.TheVariants.{Text}
use Rattle.aig_why.specs.Why.{IsExplanation, Run}
use Rattle.aig_shell.specs.Edits.{IsFrame}

-- the frame that a word is, of so many; the last, where there is no word
abbrev pub IsFrameOrLast : Option (List ℕ) → ℕ → ℕ → Type 0
IsFrameOrLast None count t = t + 1 ≡ count
IsFrameOrLast (Some word) count t = IsFrame word count t

-- lines, an LF after each
abbrev pub ended : List (List ℕ) → List ℕ
ended lines = flat_map (λ line. line ++ 10 ∷ []) lines

-- no LF stands in any of the lines
abbrev pub AreLines : List (List ℕ) → Type 0
AreLines lines = All (λ line. All (λ b. b ≢ 10) line) lines

-- line by line the same words
abbrev pub AreFolded : List (List ℕ) → List (List ℕ) → Type 0
AreFolded lines folded = AllZip (λ line text. text_words text ≡ text_words line) lines folded

-- what is said of so many lines that are left out: how many they are, where the lines go down to frame 0
abbrev pub more_text : ℕ → ℕ → List ℕ
more_text last zero = []
more_text zero (suc n) = decimal (suc n) ++ codes " more lines\n"
more_text (suc frame) (suc n) = codes "more lines\n"

-- The text shows the first 40 of the lines that go down to a frame; or all of them, which is at frame 0.
pub record ShowsLines (last : ℕ) (full text : List ℕ) : Type 0 where
  pub shown : List (List ℕ)
  pub left : List (List ℕ)
  pub full_is : full ≡ ended (shown ++ left)
  pub lines : AreLines (shown ++ left)
  pub some : left ≢ [] → length shown ≡ 40
  pub all : left ≡ [] → last ≡ 0
  pub folded : List (List ℕ)
  pub words : AreFolded shown folded
  pub text_is : text ≡ ended folded ++ more_text last (length left)

-- the text shows lines that explain the literals at frame t, from there on down
abbrev pub Explains : Raw → Run → List ℕ → List ℕ → ℕ → List ℕ → Type 0
Explains raw run name literals t text =
    (last : ℕ) × (full : List ℕ) × IsExplanation Text raw run name literals t last full × ShowsLines last full text

-- the first 40 lines of a text are added, folded; all, where there are fewer
pub record AddsLines (full old new : List ℕ) : Type 0 where
  pub shown : List (List ℕ)
  pub rest : List ℕ
  pub full_is : full ≡ ended shown ++ rest
  pub lines : AreLines shown
  pub most : length shown ≤ 40
  pub all : length shown < 40 → All (λ b. b ≢ 10) rest
  pub folded : List (List ℕ)
  pub words : AreFolded shown folded
  pub text_is : new ≡ old ++ ended folded
