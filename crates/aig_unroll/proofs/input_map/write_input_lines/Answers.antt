use Rattle.std.proofs.Common.{sym, refl}
use Rattle.std.specs.Prelude.{option_copied}
use Rattle.aig_bytes.proofs.WriteLemmas.{writes_same, writes_stop, writes_then}
use Rattle.aig_unroll.specs.InputMap.{frame_origins, start_origins}
use Rattle.aig_unroll.specs.Unrolled.{frames}
use Rattle.aig_unroll.specs.state.MapLines.{after_kept, kept_lines}
use Rattle.aig_unroll.proofs.KeptLines.{kept_append}
use Rattle.aig_unroll.proofs.input_map.write_input_lines.Goals as goal

pub returns-in_err-starts : goal.returns-in_err-starts
returns-in_err-starts g c =
    let raw = c.args.circuit.now in
    let marks = option_copied c.args.marks in
    let inputs = frames (frame_origins raw) c.args.frames in
    let starts = start_origins 0 raw.latches in
    let next = after_kept marks raw c.args.first inputs in
    writes_same (writes_stop (kept_lines marks c.args.prefix.now raw next starts) c.in_err-starts.ensures.written c.from_residual.ensures.0)
    (sym (kept_append marks c.args.prefix.now raw c.args.first next inputs starts refl))

pub returns : goal.returns
returns g c =
    let raw = c.args.circuit.now in
    let marks = option_copied c.args.marks in
    writes_same (writes_then c.in_ok-starts.ensures.written c.write_starts.ensures)
    (sym (kept_append marks c.args.prefix.now raw c.args.first c.in_ok-starts.starts (frames (frame_origins raw) c.args.frames)
    (start_origins 0 raw.latches) c.in_ok-starts.ensures.next))
