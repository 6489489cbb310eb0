-- What `info` writes: a line for each fact about a circuit file, its name and its value. Which they are is our own
-- choice.
-- Example: `aig 3 2 0 1 1/6/` and its two deltas: `format aig/variables 3/inputs 2/` and so on.
use Rattle.std.specs.Prelude.{◌≡◌, ◌↔◌, ℕ, Bool, true, false, IsTrue, List, [], ◌∷◌, ◌++◌, length, codes, count_by}
use Rattle.std.specs.Prelude.{◌==◌}
use Rattle.std.specs.Prelude.{Option, None, Some, Result, Ok, Err, IfSome}
use Rattle.std.specs.List.{flat_map}
use Rattle.std.specs.Fmt.{decimal}
use Rattle.aig_parts.specs.declared.latch.Latch.{Latch}
use Rattle.aig_parts.specs.declared.raw.Raw.{Raw}
use Rattle.aig_parts.specs.Literal.{variable}
use Rattle.aig_base.specs.Greatest.{IsGreatestFanOut, IsGreatestLevel}
use Rattle.aig_base.specs.Renumbered.{IsBinaryReady}
use Rattle.aig_format.specs.declared.reader.header.Format.{Format}
use Rattle.aig_format.specs.declared.reader.header.Format.TheVariants.{Ascii, Binary}
use Rattle.aig_format.specs.Formats.{IsInFormat}
use Rattle.aig_commands.specs.declared.info.Facts.{Facts}
use Rattle.aig_command.specs.declared.run_fault.RunFault.{RunFault}
use Rattle.aig_command.specs.declared.run_fault.RunFault.TheVariants as run_faults
use Rattle.aig_unroll.specs.FrameLiteral.{is_uninitialised}

abbrev pub format_name : Format → List ℕ
format_name Ascii = codes "aag"
format_name Binary = codes "aig"

abbrev pub yes_or_no : Bool → List ℕ
yes_or_no true = codes "yes"
yes_or_no false = codes "no"

-- the latch starts at 1 (AIGER 1.9, resets)
abbrev pub starts_at_one : Latch → Bool
starts_at_one x = x.reset == 1

-- the literal is 0 or 1: a bad state property that never holds, or always
abbrev pub is_constant : ℕ → Bool
is_constant l = variable l == 0

-- the literal is 0: a constraint that no run keeps
abbrev pub is_impossible : ℕ → Bool
is_impossible l = l == 0

-- how many bytes a comment has; 0 where there is none
abbrev pub comment_size : Option (List ℕ) → ℕ
comment_size None = 0
comment_size (Some bytes) = length bytes

-- the facts that no part has by itself, of a file whose bytes may be known
pub record AreFacts (file : Option (List ℕ)) (raw : Raw) (facts : Facts) : Type 0 where
  pub format : IfSome file (λ bytes. IsInFormat facts.format bytes raw)
  pub levels : IsGreatestLevel raw facts.levels
  pub fan_out : IsGreatestFanOut raw facts.fan_out
  pub ready : IsTrue facts.is_ready ↔ IsBinaryReady raw

abbrev pub fact_line : List ℕ → List ℕ → List ℕ
fact_line name value = name ++ (codes " " ++ (value ++ codes "\n"))

abbrev pub fact_number_line : List ℕ → ℕ → List ℕ
fact_number_line name number = fact_line name (decimal number)

-- the numbers with their names, in the order of their lines
abbrev pub numbers : Raw → Facts → List (List ℕ × ℕ)
numbers raw facts =
    (codes "variables", raw.max_var) ∷ (codes "inputs", length raw.inputs) ∷ (codes "latches", length raw.latches)
    ∷ (codes "outputs", length raw.outputs) ∷ (codes "gates", length raw.gates) ∷ (codes "bad", length raw.bad)
    ∷ (codes "constant", count_by is_constant raw.bad) ∷ (codes "constraints", length raw.constraints)
    ∷ (codes "impossible", count_by is_impossible raw.constraints)
    ∷ (codes "justice", length raw.justice) ∷ (codes "fairness", length raw.fairness)
    ∷ (codes "uninitialised", count_by is_uninitialised raw.latches)
    ∷ (codes "resets", count_by starts_at_one raw.latches) ∷ (codes "levels", facts.levels) ∷ (codes "fanout", facts.fan_out) ∷ (codes "symbols", length raw.symbols)
    ∷ (codes "comment", comment_size raw.comment) ∷ []

unfoldable pub number_lines : Raw → Facts → List ℕ
number_lines raw facts = flat_map (λ n. fact_number_line n.0 n.1) (numbers raw facts)

abbrev pub info_text : Raw → Facts → List ℕ
info_text raw facts =
    fact_line (codes "format") (format_name facts.format)
    ++ (number_lines raw facts ++ fact_line (codes "ready") (yes_or_no facts.is_ready))

-- what `info` writes for the file of a circuit, whose bytes may be known; nothing where no memory was found for levels
-- or fan-outs
abbrev pub ListsFacts : Option (List ℕ) → Raw → Result (Unit {0}) RunFault → List ℕ → Type 0
ListsFacts file raw (Ok done) text = (facts : Facts) × AreFacts file raw facts × (text ≡ info_text raw facts)
ListsFacts file raw (Err run_faults.Memory) text = text ≡ []
ListsFacts file raw (Err _) text = ⊥
