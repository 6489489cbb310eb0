-- What the comment lines of a formula over a part name (our own choice).
-- Example: of the inputs 2 and 4, a bad literal that reads the second: `c i 2 0 1` names literal 2 of the unrolled part.
use Rattle.std.specs.Prelude.{◌≡◌, ℕ, Bool, List, map, slice_index}
use Rattle.aig_parts.specs.declared.raw.Raw.{Raw}
use Rattle.aig_base.specs.Part.{part}
use Rattle.aig_cnf.specs.Query.{subject}
use Rattle.aig_cnf.specs.declared.query.Goal.{Goal}
use Rattle.aig_unroll.specs.FrameLiteral.{frame_literal}
use Rattle.aig_unroll.specs.InputMap.{Origin, input, start, read_origins}

-- the literal of an input at its frame, or of the start of a latch, where literals of the circuit have others at frames
abbrev pub literal_by : (ℕ → ℕ → ℕ) → Raw → Origin → ℕ
literal_by at raw (input t p) = at t (slice_index raw.inputs p)
literal_by at raw (start p) = at 0 (slice_index (map (λ x. x.lit) raw.latches) p)

-- the literals that the lines name are these inputs of the unrolled part, in order
abbrev pub ReportsReadInputs : Raw → ℕ → (ℕ → Bool) → Goal → List ℕ → ℕ → List ℕ → Type 0
ReportsReadInputs raw bad test goal order k inputs =
    map (literal_by (frame_literal (subject goal (part raw bad test)) order k) (subject goal raw))
    (read_origins test (subject goal raw) k) ≡ inputs
