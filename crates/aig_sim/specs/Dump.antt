-- The text of a value change dump (IEEE 1364, value change dump, four-state form). Where the standard is silent, which
-- signals it has is our own choice.
-- Example: an input `en` that is x and then 1: `x!` at frame 0, `1!` at frame 1.
use Rattle.std.specs.Prelude.{◌≡◌, ℕ, zero, suc, ◌-◌, ◌^◌, ◌==◌, if◌then◌else◌, min, List, [], ◌∷◌, ◌++◌, length, map}
use Rattle.std.specs.Prelude.{codes, decimal}
use Rattle.aig_parts.specs.declared.ternary.Tern.{Tern}
use Rattle.aig_parts.specs.declared.raw.Raw.{Raw}
use Rattle.aig_sim.specs.DumpHeader.{header}
use Rattle.aig_names.specs.Names.{identifier_code}
use Rattle.aig_values.specs.Trace.{AreValues}

-- the literals of the signals in order: inputs, latches, outputs, bad, constraints; signal n is the one at position n
abbrev pub signals : Raw → List ℕ
signals raw = raw.inputs ++ (map (λ x. x.lit) raw.latches ++ (raw.outputs ++ (raw.bad ++ raw.constraints)))

-- the line of time t; the greatest number of 64 bits stands for any greater
abbrev pub time_line : ℕ → List ℕ
time_line t = 35 ∷ (decimal (min t (2 ^ 64 - 1)) ++ 10 ∷ [])

-- the line that gives signal n a character
abbrev pub value_line : ℕ → ℕ → List ℕ
value_line n c = c ∷ (identifier_code n ++ 10 ∷ [])

-- a line for each of these characters, the first of which is that of signal n
unfoldable pub all_lines : ℕ → List ℕ → List ℕ
all_lines n [] = []
all_lines n (c ∷ cs) = value_line n c ++ all_lines (suc n) cs

-- a line for each character that differs from the one before
unfoldable pub changed_lines : ℕ → List ℕ → List ℕ → List ℕ
changed_lines n [] cs = []
changed_lines n (b ∷ bs) [] = []
changed_lines n (b ∷ bs) (c ∷ cs) = (if b == c then [] else value_line n c) ++ changed_lines (suc n) bs cs

-- the text of frame 0 by the characters of its values: all of them
abbrev pub first_text : List ℕ → List ℕ
first_text cs = time_line 0 ++ (codes "$dumpvars" ++ (10 ∷ (all_lines 0 cs ++ (codes "$end" ++ 10 ∷ []))))

-- the text of a later frame t by the characters of the frame before and its own: those that differ
abbrev pub next_text : ℕ → List ℕ → List ℕ → List ℕ
next_text t bs cs = time_line t ++ changed_lines 0 bs cs

-- the text of frame t of a run from this start with these rows, by the values of the signals
abbrev pub IsFrameText : Raw → List Tern → List (List Tern) → ℕ → List ℕ → Type 0
IsFrameText raw start rows zero text =
    (cs : List ℕ) × AreValues raw start rows zero (signals raw) cs × (text ≡ first_text cs)
IsFrameText raw start rows (suc t) text =
    (bs : List ℕ) × (cs : List ℕ) × AreValues raw start rows t (signals raw) bs
    × AreValues raw start rows (suc t) (signals raw) cs × (text ≡ next_text (suc t) bs cs)

-- the texts of the first n frames
abbrev pub AreFrames : Raw → List Tern → List (List Tern) → ℕ → List ℕ → Type 0
AreFrames raw start rows zero text = text ≡ []
AreFrames raw start rows (suc t) text =
    (before : List ℕ) × (frame : List ℕ) × AreFrames raw start rows t before × IsFrameText raw start rows t frame
    × (text ≡ before ++ frame)

-- after the last of k frames the time of its end; after none nothing
abbrev pub closing : ℕ → List ℕ
closing zero = []
closing (suc t) = time_line (suc t)

-- the dump of a run: the header, all its frames, and the end
pub record IsDump (raw : Raw) (start : List Tern) (rows : List (List Tern)) (text : List ℕ) : Type 0 where
  pub frames : List ℕ
  pub frames_are : AreFrames raw start rows (length rows) frames
  pub text_is : text ≡ header raw ++ (frames ++ closing (length rows))
