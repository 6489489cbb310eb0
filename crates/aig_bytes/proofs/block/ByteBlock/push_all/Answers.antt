use Rattle.std.proofs.Common.{ℕ, ◌+◌, ◌-◌, List, ◌++◌, arith, ap, length, take, drop, ◌∙◌}
use Rattle.std.proofs.lemmas.List.{length-drop, length-take-le}
use Rattle.std.proofs.lemmas.Slice.{take-put_mid}
use Rattle.aig_bytes.proofs.BlockLemmas.{put_in}
use Rattle.aig_bytes.proofs.block.ByteBlock.push_all.Goals as goal

-- a block without room has bytes that wait
pub returns-then-after-bytes-clause-some : goal.returns-then-after-bytes-clause-some
returns-then-after-bytes-clause-some g c = λ none room.
    let b = c.self.inside in
    let all = length-take-le b.end b.bytes (omega (arith, c.self.told, c.self.invariant)) in
    let buffered = length-drop b.start (take b.end b.bytes) in
    absurd (omega (arith, all, buffered, ap length (c.self.view_is ∙ none), c.self.invariant, room, c.if-after-bytes.true))

pub returns-clause-pushed : goal.returns-clause-pushed
returns-clause-pushed g c = λ is_pushed.
    let b = c.self.inside in
    let copied = c.copy_from_slice.ensures in
    let last = b.end + length c.args.bytes.now in
    let placed = take-put_mid b.end (last - b.end) b.bytes c.copy_from_slice.new.self last (omega (arith, copied.len)) (omega (arith, c.self.told, c.self.invariant)) in
    rw (← c.self.view_is)
    (put_in b.start b.end last b.bytes _ _ (omega (arith, c.self.invariant)) (omega (arith, c.self.told, c.self.invariant)) placed
    ∙ ap (λ (xs : List ℕ). drop b.start (take b.end b.bytes) ++ xs) copied.after)
