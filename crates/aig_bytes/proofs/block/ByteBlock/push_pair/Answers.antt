use Rattle.std.proofs.Common.{arith, ap, length, take, ◌∙◌}
use Rattle.std.proofs.lemmas.List.{length-drop, length-take-le}
use Rattle.aig_bytes.proofs.block.ByteBlock.push_pair.Goals as goal

-- a full block has bytes that wait
pub returns-then-after-lt-PAIR-clause-some : goal.returns-then-after-lt-PAIR-clause-some
returns-then-after-lt-PAIR-clause-some g c = λ none room.
    let b = c.self.inside in
    let all = length-take-le b.end b.bytes (omega (arith, c.self.told, c.self.invariant)) in
    let buffered = length-drop b.start (take b.end b.bytes) in
    absurd (omega (arith, all, buffered, ap length (c.self.view_is ∙ none), c.self.invariant, room, c.if-after-lt-PAIR.true))
