use Rattle.std.proofs.Common.{◌≡◌}
use Rattle.std.specs.Str.{bytes_eq}
use Rattle.aig_signals.specs.Bits.{bits_named}
use Rattle.aig_signals.proofs.CalledWords.{kept_none}
use Rattle.aig_signals.proofs.called.bits_found.Goals as goal

pub returns : goal.returns
returns c =
    c.in_ok-keep_all.ensures c.args.circuit.now c.in_ok-words.ensures
    (kept_none (λ x found. found ≡ bits_named c.args.circuit.now x) (λ x key. bytes_eq x key.items) c.with_hasher-found.result.entries
    c.with_hasher-found.ensures.empty)
