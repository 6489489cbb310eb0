-- Reading a file.
use Rattle.std.specs.Prelude.{ℕ, ◌+◌, List, Result, Ok, Err, if◌then◌else◌}
use Rattle.aig_parts.specs.declared.raw.Raw.{Raw}
use Rattle.aig_base.specs.Renumbered.{evens}
use Rattle.aig_format.specs.declared.reader.header.Format.{Format}
use Rattle.aig_format.specs.declared.reader.header.Format.TheVariants.{Ascii, Binary}
use Rattle.aig_format.specs.declared.reader.header.Counts.{Counts}
use Rattle.aig_format.specs.Header.{are_wrong}
use Rattle.aig_format.specs.state.HeaderCounts.{in_line}
use Rattle.aig_format.specs.state.Reading.{Refusal, Read, ◌>>=◌}
use Rattle.aig_format.specs.state.ReadingSections.{literals_at, latch_at, gate_at, implicit_latch_at, implicit_gate_at}
use Rattle.aig_format.specs.state.ReadingSections.{lines_at, properties_at, header_at}
use Rattle.aig_format.specs.state.ReadingNames.{names_at}

unfoldable pub ascii_at : Counts → List ℕ → Read Raw
ascii_at c bytes = do
  inputs ← literals_at c.inputs bytes
  latches ← lines_at (λ v. latch_at) c.latches 0 inputs.1
  properties ← properties_at c latches.1
  gates ← lines_at (λ v. gate_at) c.gates 0 properties.1
  names ← names_at c gates.1
  Ok (
    record {
      max_var = c.max_var;
      inputs = inputs.0;
      latches = latches.0;
      outputs = properties.0.outputs;
      bad = properties.0.bad;
      constraints = properties.0.constraints;
      justice = properties.0.justice;
      fairness = properties.0.fairness;
      gates = gates.0;
      symbols = names.0.symbols;
      comment = names.0.comment;
    },
    names.1,
  )

unfoldable pub binary_at : Counts → List ℕ → Read Raw
binary_at c bytes = do
  latches ← lines_at implicit_latch_at c.latches (c.inputs + 1) bytes
  properties ← properties_at c latches.1
  gates ← lines_at implicit_gate_at c.gates (c.inputs + c.latches + 1) properties.1
  names ← names_at c gates.1
  Ok (
    record {
      max_var = c.max_var;
      inputs = evens c.inputs;
      latches = latches.0;
      outputs = properties.0.outputs;
      bad = properties.0.bad;
      constraints = properties.0.constraints;
      justice = properties.0.justice;
      fairness = properties.0.fairness;
      gates = gates.0;
      symbols = names.0.symbols;
      comment = names.0.comment;
    },
    names.1,
  )

abbrev pub body_at : Format → Counts → List ℕ → Read Raw
body_at Ascii c bytes = ascii_at c bytes
body_at Binary c bytes = binary_at c bytes

-- why a file is refused
pub data FileRefusal : Type 0 where
  token : Refusal → FileRefusal
  counts : FileRefusal

abbrev pub and_then : {A B : Type 0} → Result A Refusal → (A → Result B FileRefusal) → Result B FileRefusal
and_then (Ok x) f = f x
and_then (Err e) f = Err (token e)

-- the file, all of it
unfoldable pub file_at : List ℕ → Result Raw FileRefusal
file_at bytes =
    and_then (header_at bytes) (λ h.
    if are_wrong h.0.0 (in_line h.0.1) then Err counts else and_then (body_at h.0.0 h.0.1 h.1) (λ raw. Ok raw.0))
