-- Files of a bench: what they are, why they are refused, and how they are kept.
-- Example: a cyclic circuit and a faulty stimulus: the circuit's fault; `examples/two_gates.aag` with `11/` after `g 9
-- 4`: a circuit with the gate `10 9 4` last, and `11/`.
use Rattle.std.specs.Prelude.{ℕ, ◌+◌, ◌*◌, ◌<◌, ◌≤◌, List, length}
use Rattle.std.specs.List.{flat_map}
use Rattle.aig_parts.specs.declared.raw.Raw.{Raw}
use Rattle.aig_parts.specs.Limits.{cell_limit, frame_limit}
use Rattle.aig_format.specs.Spelling.{short_ascii}
use Rattle.aig_sim.specs.StimulusText.{SpellsRows, row_line}
use Rattle.aig_bench.specs.declared.bench.fault.BenchFault.{BenchFault}
use Rattle.aig_bench.specs.declared.bench.fault.BenchFault.TheVariants as benches
use Rattle.aig_bench.specs.BenchState.{CircuitAndRows}
use Rattle.aig_command.specs.declared.run_fault.RunFault.{RunFault}
use Rattle.aig_command.specs.declared.run_fault.RunFault.TheVariants.{Circuit, Stimulus, Bench}
use Rattle.aig_command.specs.Command.{IsFileOf, RefusesCircuit, RefusesStimulus}

-- the files are this circuit and rows of its width, at most 65,536
pub record AreFilesOf (circuit stimulus : List ℕ) (pair : CircuitAndRows) : Type 0 where
  pub circuit_is : IsFileOf circuit pair.circuit
  pub rows_are : SpellsRows (length pair.circuit.inputs) stimulus pair.rows
  pub frames : length pair.rows ≤ frame_limit

-- the same, and a bench has room for the cells
pub record AreBenchFiles (circuit stimulus : List ℕ) (pair : CircuitAndRows) : Type 0 where
  pub files_are : AreFilesOf circuit stimulus pair
  pub cells : (pair.circuit.max_var + 1) * length pair.rows ≤ cell_limit

-- why no bench is made of a circuit and rows of its width: too many cells
abbrev pub RefusesBench : CircuitAndRows → BenchFault → Type 0
RefusesBench pair benches.Width = ⊥
RefusesBench pair benches.Limit = cell_limit < (pair.circuit.max_var + 1) * length pair.rows
RefusesBench pair benches.Memory = Unit {0}

-- why a run ends before its script is read
abbrev pub RefusesFiles : List ℕ → List ℕ → RunFault → Type 0
RefusesFiles circuit stimulus (Circuit fault) = RefusesCircuit circuit fault
RefusesFiles circuit stimulus (Stimulus fault) =
    (raw : Raw) × IsFileOf circuit raw × RefusesStimulus (length raw.inputs) stimulus fault
RefusesFiles circuit stimulus (Bench fault) =
    (pair : CircuitAndRows) × AreFilesOf circuit stimulus pair × RefusesBench pair fault
RefusesFiles circuit stimulus _ = ⊥

-- ---- as they are kept (our own choice)

-- the circuit as text, as it stands: gates and symbols in their order, and the comment
abbrev pub circuit_text : CircuitAndRows → List ℕ
circuit_text pair = short_ascii pair.circuit

-- the rows, a line each
abbrev pub stimulus_rows_text : CircuitAndRows → List ℕ
stimulus_rows_text pair = flat_map row_line pair.rows
