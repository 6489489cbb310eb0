-- What is written to files (our own choice).
-- Example: `save C` gives C the circuit with the resets of its file.
use Rattle.std.specs.Prelude.{◌≡◌, ℕ, ◌+◌, List, [], ◌∷◌, ◌++◌, codes, decimal, take, flat_map, Option, None, Some}
use Rattle.std.specs.Prelude.{Result, Ok, Err}
use Rattle.aig_base.specs.Value.{start_of}
use Rattle.aig_format.specs.Spelling.{short_ascii}
use Rattle.aig_signals.specs.Lookup.{entry_in}
use Rattle.aig_signals.specs.Names.{position_name}
use Rattle.aig_parts.specs.declared.raw.Raw.{Raw}
use Rattle.aig_parts.specs.declared.symbols.Kind.TheVariants.{Bad}
use Rattle.aig_sim.specs.Dump.{IsDump}
use Rattle.aig_sim.specs.Reached.{IsFirstReached}
use Rattle.aig_sim.specs.StimulusText.{row_line}
use Rattle.aig_sim.specs.WitnessText.{witness_text}
use Rattle.aig_shell.specs.State.{SessionState, circuit_of}

-- a file's name, and its whole text
pub record KeptText : Type 0 where
  pub name : List ℕ
  pub text : List ℕ

-- a call for files, and what came of it: each file has its text, or none of them has
pub data Call : Type 0 where
  kept : List KeptText → Call
  refused : List KeptText → Call

-- the calls so far, after one more
abbrev pub after_keeping : {A E : Type 0} → Option (List Call) → List KeptText → Result A E → Option (List Call)
after_keeping None texts result = None
after_keeping (Some old) texts (Ok _) = Some (old ++ kept texts ∷ [])
after_keeping (Some old) texts (Err _) = Some (old ++ refused texts ∷ [])

-- the call that gives files these texts, where there are some
abbrev pub calls_of : List KeptText → List Call
calls_of [] = []
calls_of (text ∷ texts) = kept (text ∷ texts) ∷ []

-- the circuit with the resets of its file, and the rows where a file is named for them
abbrev pub saved : SessionState → List ℕ → Option (List ℕ) → List KeptText
saved s circuit None = record { name = circuit; text = short_ascii (circuit_of s) } ∷ []
saved s circuit (Some stimulus) =
    record { name = circuit; text = short_ascii (circuit_of s) }
    ∷ record { name = stimulus; text = flat_map row_line s.pair.rows } ∷ []

-- the property that a word names; without a word that of the witness that was opened, if one was
abbrev pub IsAsked : Raw → Option ℕ → Option (List ℕ) → Option ℕ → Type 0
IsAsked raw opened None asked = asked ≡ opened
IsAsked raw opened (Some word) asked = (k : ℕ) × (asked ≡ Some k) × (entry_in raw word Bad ≡ Some k)

-- what is said where the run does not start by the resets: the file of rows does not have its start
abbrev pub no_start_text : List ℕ → List ℕ
no_start_text stimulus = stimulus ++ codes " has no start of latches; witness FILE has\n"

-- `b0 at 10: FILE`
abbrev pub reached_text : ℕ → ℕ → List ℕ → List ℕ
reached_text k t file = position_name Bad k ++ (codes " at " ++ (decimal t ++ (codes ": " ++ (file ++ 10 ∷ []))))

-- the run up to the first frame that reaches the property that is asked for, or any, and what is said of it
abbrev pub IsWitnessed : SessionState → List ℕ → Option (List ℕ) → List ℕ → List KeptText → Type 0
IsWitnessed s file word text texts =
    (asked : Option ℕ) × (t : ℕ) × (k : ℕ) × IsAsked s.pair.circuit s.property word asked
    × IsFirstReached (circuit_of s) (start_of s.pair.circuit) s.pair.rows asked t k × (text ≡ reached_text k t file)
    × (texts ≡ record {
      name = file;
      text = witness_text (decimal k) (start_of s.pair.circuit)
          (take (t + 1) s.pair.rows);
    } ∷ [])

-- the dump of the run
abbrev pub IsWave : SessionState → List ℕ → List KeptText → Type 0
IsWave s file texts =
    (text : List ℕ) × IsDump (circuit_of s) (start_of s.pair.circuit) s.pair.rows text
    × (texts ≡ record { name = file; text = text } ∷ [])
