-- What `unroll` writes: a circuit unrolled for some frames.
-- Example: a latch that negates itself, with outputs 2 and 3, for 3 frames: `aag 0 0 0 6 0/0/1/1/0/0/1/`.
use Rattle.std.specs.Prelude.{◌≡◌, ℕ, List, [], Result, Ok, Err}
use Rattle.aig_parts.specs.declared.raw.Raw.{Raw}
use Rattle.aig_format.specs.declared.reader.header.Format.{Format}
use Rattle.aig_format.specs.declared.reader.header.Format.TheVariants.{Ascii, Binary}
use Rattle.aig_format.specs.Spelling.{short_ascii, short_binary}
use Rattle.aig_unroll.specs.Answers.{AnswersUnrolling}
use Rattle.aig_unroll.specs.InputMap.{map_text}
use Rattle.aig_command.specs.declared.run_fault.RunFault.{RunFault}
use Rattle.aig_command.specs.declared.run_fault.RunFault.TheVariants as run_faults

-- the short spelling of a circuit in a format
abbrev pub short_spelling : Format → Raw → List ℕ
short_spelling Ascii raw = short_ascii raw
short_spelling Binary raw = short_binary raw

-- the bytes are a circuit unrolled for k frames, in a format
abbrev pub IsUnrolledText : Raw → ℕ → Format → List ℕ → Type 0
IsUnrolledText raw k to text =
    (new : Raw) × AnswersUnrolling raw k (Ok new) × (text ≡ short_spelling to new)

-- what `unroll` writes for a circuit: the unrolled circuit; nothing where there is none, or where no memory was found
-- for levels
abbrev pub Unrolls : ℕ → Format → Raw → Result (Unit {0}) RunFault → List ℕ → Type 0
Unrolls k to raw (Ok done) text = IsUnrolledText raw k to text
Unrolls k to raw (Err (run_faults.Unroll fault)) text = AnswersUnrolling raw k (Err fault) × (text ≡ [])
Unrolls k to raw (Err run_faults.Memory) text = text ≡ []
Unrolls k to raw (Err _) text = ⊥

-- the same, where the circuit is the answer
abbrev pub UnrollsKept : ℕ → Format → Raw → Result Raw RunFault → List ℕ → Type 0
UnrollsKept k to raw (Ok kept) text = (kept ≡ raw) × IsUnrolledText raw k to text
UnrollsKept k to raw (Err fault) text = Unrolls k to raw (Err fault) text

-- what `unroll --map` writes for a circuit; it needs no memory
abbrev pub IsMap : ℕ → Raw → Result (Unit {0}) RunFault → List ℕ → Type 0
IsMap k raw (Ok done) text = text ≡ map_text raw k
IsMap k raw (Err _) text = ⊥
