use Rattle.std.proofs.Common.{[], ◌∷◌, ◌++◌, ◌∙◌}
use Rattle.aig_signals.specs.Json.{string_byte, string_text}
use Rattle.aig_signals.proofs.JsonLemmas.{bytes_more, bytes_none, string_whole}
use Rattle.aig_signals.proofs.json.push_string.Goals as goal

pub loop-byte-init : goal.loop-byte-init
loop-byte-init c =
    c.in_ok-push.ensures.items ∙ bytes_none string_byte (c.args.text.now.items ++ 34 ∷ []) c.args.bytes.now

pub loop-byte-preserved : goal.loop-byte-preserved
loop-byte-preserved c =
    bytes_more string_byte (c.args.text.now.items ++ 34 ∷ []) c.loop-byte.text.items c.push_byte.new.text.items c.args.bytes.now
    c.loop-byte.byte-index c.loop-byte-test.true c.in_ok-push_byte.ensures c.loop-byte.invariant

pub returns : goal.returns
unfolding string_text
returns c =
    string_whole string_byte c.args.text.now.items c.loop-byte.text.items c.push-2.new.self.items c.args.bytes.now
    c.loop-byte.byte-index c.loop-byte-test.false c.loop-byte.invariant c.in_ok-push-2.ensures.items
