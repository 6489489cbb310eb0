use Rattle.std.proofs.Common.{[], ap}
use Rattle.aig_bytes.proofs.WriteLemmas.{writes_same}
use Rattle.aig_unroll.specs.InputMap.{origin_lines, origins}
use Rattle.aig_unroll.proofs.KeptLines.{all_kept}
use Rattle.aig_unroll.proofs.input_map.write_input_map.Goals as goal

pub returns : goal.returns
returns g c =
    let raw = c.args.circuit.now in
    writes_same c.write_input_lines.ensures (ap (origin_lines [] raw 0) (all_kept raw (origins raw c.args.frames)))
