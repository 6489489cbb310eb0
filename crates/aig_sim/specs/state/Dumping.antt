-- How far a dump has come.
use Rattle.std.specs.Prelude.{◌≡◌, ℕ, zero, suc, ◌^◌, ◌<◌, List, [], ◌∷◌, ◌++◌, length, map, replicate, codes, decimal}
use Rattle.aig_parts.specs.declared.ternary.Tern.{Tern}
use Rattle.aig_parts.specs.declared.raw.Raw.{Raw}
use Rattle.aig_sim.specs.Dump.{signals, changed_lines, AreFrames}
use Rattle.aig_values.specs.Trace.{AreValues}
use Rattle.aig_values.specs.TraceText.{literal_character}

-- the line of a time of 64 bits
abbrev pub time_line : ℕ → List ℕ
time_line t = 35 ∷ (decimal t ++ 10 ∷ [])

-- two characters for each signal: the one before, and the one now
pub record ArePairs (bs cs : List ℕ) : Type 0 where
  pub size : length bs ≡ length cs
  pub few : length cs < 2 ^ 32

-- the text of a frame by the characters that are kept and its own
abbrev pub dumped_text : ℕ → List ℕ → List ℕ → List ℕ
dumped_text zero bs cs =
    time_line 0 ++ (codes "$dumpvars\n" ++ (changed_lines 0 bs cs ++ codes "$end\n"))
dumped_text (suc t) bs cs = time_line (suc t) ++ changed_lines 0 bs cs

-- the characters of the signals by these cells
abbrev pub characters_of : Raw → List Tern → List ℕ
characters_of raw cells = map (literal_character cells) (signals raw)

-- what is kept after so many frames: at first no characters, then those of the last frame
abbrev pub AreLast : Raw → List Tern → List (List Tern) → ℕ → List ℕ → Type 0
AreLast raw start rows zero last = last ≡ replicate (length (signals raw)) 0
AreLast raw start rows (suc t) last = AreValues raw start rows t (signals raw) last

-- the frames of these rows have the text
abbrev pub AreDumped : Raw → List Tern → List (List Tern) → List ℕ → Type 0
AreDumped raw start rows text = AreFrames raw start rows (length rows) text

-- the line of the time that ends a dump of so many frames
abbrev pub ending : ℕ → List ℕ
ending zero = []
ending (suc t) = time_line (suc t)
