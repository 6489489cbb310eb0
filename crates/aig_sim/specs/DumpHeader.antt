-- The header of a circuit's value change dump.
use Rattle.std.specs.Prelude.{ℕ, List, length}
use Rattle.aig_parts.specs.declared.raw.Raw.{Raw}
use Rattle.aig_names.specs.declared.header.SignalCounts.{SignalCounts}
use Rattle.aig_names.specs.Header as dump

-- how many signals a dump shows of each section
abbrev pub signal_counts : Raw → SignalCounts
signal_counts raw = record {
  inputs = length raw.inputs;
  latches = length raw.latches;
  outputs = length raw.outputs;
  bad = length raw.bad;
  constraints = length raw.constraints;
}

-- all up to the first frame
unfoldable pub header : Raw → List ℕ
header raw = dump.header raw.symbols (signal_counts raw)
