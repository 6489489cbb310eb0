use Rattle.aig_bytes.proofs.WriteLemmas.{writes_stop_at}
use Rattle.aig_signals.specs.Json.{string_byte}
use Rattle.aig_signals.proofs.json.names.write_bytes.Goals as goal

pub returns-in_err-write_byte : goal.returns-in_err-write_byte
returns-in_err-write_byte g c =
    writes_stop_at string_byte c.args.bytes.now c.loop-byte.byte-index _ c.loop-byte.invariant c.loop-byte-test.true
    c.in_err-write_byte.ensures c.from_residual.ensures.0
