-- Reading the header line and the sections.
use Rattle.std.specs.Prelude.{ℕ, Bool, true, false, zero, suc, ◌+◌, ◌-◌, ◌*◌, List, [], ◌∷◌, ◌++◌, Ok, Err, nat_lt}
use Rattle.std.specs.Prelude.{get_or, if◌then◌else◌}
use Rattle.aig_parts.specs.declared.gate.Gate.{Gate}
use Rattle.aig_parts.specs.declared.latch.Latch.{Latch}
use Rattle.aig_parts.specs.Formed as formed
use Rattle.aig_format.specs.declared.reader.header.Format.{Format}
use Rattle.aig_format.specs.declared.reader.header.Format.TheVariants.{Ascii, Binary}
use Rattle.aig_format.specs.declared.reader.header.Counts.{Counts}
use Rattle.aig_format.specs.declared.reader.section.Properties.{Properties}
use Rattle.aig_format.specs.Header.{space, line_end}
use Rattle.aig_format.specs.Spells.{greatest}
use Rattle.aig_format.specs.state.Reading.{limit, Read, ◌>>=◌, is_next_at, byte_at, number_at, field_at, more_at}
use Rattle.aig_format.specs.state.Reading.{optional_at, delta_at}

-- ---- the header line

-- the second letter of the word
unfoldable pub format_at : List ℕ → Read Format
format_at bytes = do
  ascii ← is_next_at 97 bytes
  if ascii.0 then Ok (Ascii, ascii.1) else (do
    binary ← byte_at 105 ascii.1
    Ok (Binary, binary.1))

-- `aag ` or `aig `
unfoldable pub format_word_at : List ℕ → Read Format
format_word_at bytes = do
  first ← byte_at 97 bytes
  format ← format_at first.1
  third ← byte_at 103 format.1
  end ← byte_at space third.1
  Ok (format.0, end.1)

-- the next count and whether the line is over; once it is over, counts are 0
unfoldable pub count_at : Bool → List ℕ → Read (ℕ × Bool)
count_at true bytes = Ok ((0, true), bytes)
count_at false bytes = do
  more ← more_at bytes
  if more.0 then (do
    count ← number_at formed.limit more.1
    Ok ((count.0, false), count.1))
      else Ok ((0, true), more.1)

-- the end of the line, where it is not over
unfoldable pub line_end_at : Bool → List ℕ → Read (Unit {0})
line_end_at true bytes = Ok (tt, bytes)
line_end_at false bytes = byte_at line_end bytes

-- so many last counts of the line
unfoldable pub tail_at : ℕ → Bool → List ℕ → Read (List ℕ)
tail_at zero over bytes = do
  end ← line_end_at over bytes
  Ok ([], end.1)
tail_at (suc m) over bytes = do
  count ← count_at over bytes
  others ← tail_at m count.0.1 count.1
  Ok (count.0.0 ∷ others.0, others.1)

unfoldable pub header_at : List ℕ → Read (Format × Counts)
header_at bytes = do
  format ← format_word_at bytes
  max_var ← field_at formed.limit space format.1
  inputs ← field_at formed.limit space max_var.1
  latches ← field_at formed.limit space inputs.1
  outputs ← field_at formed.limit space latches.1
  gates ← number_at formed.limit outputs.1
  others ← tail_at 4 false gates.1
  Ok (
    (
      format.0,
      record {
        max_var = max_var.0;
        inputs = inputs.0;
        latches = latches.0;
        outputs = outputs.0;
        gates = gates.0;
        bad = get_or others.0 0 0;
        constraints = get_or others.0 1 0;
        justice = get_or others.0 2 0;
        fairness = get_or others.0 3 0;
      },
    ),
    others.1,
  )

-- ---- lines

unfoldable pub literal_at : List ℕ → Read ℕ
literal_at bytes = field_at greatest line_end bytes

unfoldable pub latch_at : List ℕ → Read Latch
latch_at bytes = do
  lit ← field_at greatest space bytes
  next ← number_at greatest lit.1
  reset ← optional_at greatest next.1
  Ok (record { lit = lit.0; next = next.0; reset = reset.0 }, reset.1)

unfoldable pub gate_at : List ℕ → Read Gate
gate_at bytes = do
  lhs ← field_at greatest space bytes
  rhs0 ← field_at greatest space lhs.1
  rhs1 ← field_at greatest line_end rhs0.1
  Ok (record { lhs = lhs.0; rhs0 = rhs0.0; rhs1 = rhs1.0 }, rhs1.1)

-- the latch of variable v
unfoldable pub implicit_latch_at : ℕ → List ℕ → Read Latch
implicit_latch_at v bytes = do
  next ← number_at greatest bytes
  reset ← optional_at greatest next.1
  Ok (record { lit = 2 * v; next = next.0; reset = reset.0 }, reset.1)

-- the gate of variable v
unfoldable pub implicit_gate_at : ℕ → List ℕ → Read Gate
implicit_gate_at v bytes = do
  first ← delta_at 1 (2 * v) bytes
  second ← delta_at 0 (2 * v - first.0) first.1
  Ok (record { lhs = 2 * v; rhs0 = 2 * v - first.0; rhs1 = 2 * v - first.0 - second.0 }, second.1)

-- so many, of the variables from v on
unfoldable pub lines_at : {X : Type 0} → (ℕ → List ℕ → Read X) → ℕ → ℕ → List ℕ → Read (List X)
lines_at line zero v bytes = Ok ([], bytes)
lines_at line (suc n) v bytes = do
  first ← line v bytes
  others ← lines_at line n (suc v) first.1
  Ok (first.0 ∷ others.0, others.1)

-- what was read before, and what is still read
abbrev pub with_front : {X : Type 0} → List X → Read (List X) → Read (List X)
with_front front read = read >>= λ x. Ok (front ++ x.0, x.1)

abbrev pub literals_at : ℕ → List ℕ → Read (List ℕ)
literals_at n bytes = lines_at (λ v. literal_at) n 0 bytes

-- ---- properties

-- so many sizes, whose sum with total is within the limit
unfoldable pub sizes_at : ℕ → ℕ → List ℕ → Read (List ℕ)
sizes_at zero total bytes = Ok ([], bytes)
sizes_at (suc n) total bytes = do
  size ← number_at greatest bytes
  if nat_lt formed.limit (total + size.0)
      then Err limit
      else (do
        end ← byte_at line_end size.1
        others ← sizes_at n (total + size.0) end.1
        Ok (size.0 ∷ others.0, others.1))

-- as many literals as each size says
unfoldable pub groups_of_literals_at : List ℕ → List ℕ → Read (List (List ℕ))
groups_of_literals_at [] bytes = Ok ([], bytes)
groups_of_literals_at (size ∷ sizes) bytes = do
  first ← literals_at size bytes
  others ← groups_of_literals_at sizes first.1
  Ok (first.0 ∷ others.0, others.1)

unfoldable pub justice_at : ℕ → List ℕ → Read (List (List ℕ))
justice_at n bytes = do
  sizes ← sizes_at n 0 bytes
  groups_of_literals_at sizes.0 sizes.1

unfoldable pub properties_at : Counts → List ℕ → Read Properties
properties_at c bytes = do
  outputs ← literals_at c.outputs bytes
  bad ← literals_at c.bad outputs.1
  constraints ← literals_at c.constraints bad.1
  justice ← justice_at c.justice constraints.1
  fairness ← literals_at c.fairness justice.1
  Ok (
    record {
      outputs = outputs.0;
      bad = bad.0;
      constraints = constraints.0;
      justice = justice.0;
      fairness = fairness.0;
    },
    fairness.1,
  )
