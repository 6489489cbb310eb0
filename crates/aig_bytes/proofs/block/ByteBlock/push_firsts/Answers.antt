use Rattle.std.proofs.Common.{◌≤◌, ◌+◌, ◌-◌, arith, ap, length, take, ◌∙◌}
use borrow.Rule.Slice.PartMut.{put_mid, same_len_mid}
use Rattle.std.proofs.lemmas.List.{length-drop, length-take-le}
use Rattle.aig_bytes.proofs.BlockLemmas.{put_in_firsts}
use Rattle.aig_bytes.proofs.block.ByteBlock.push_firsts.Goals as goal

-- a full block has bytes that wait
pub returns-then-after-lt8-clause-some : goal.returns-then-after-lt8-clause-some
returns-then-after-lt8-clause-some g c = λ none.
    let b = c.self.inside in
    let all = length-take-le b.end b.bytes (omega (arith, c.self.told, c.self.invariant)) in
    let buffered = length-drop b.start (take b.end b.bytes) in
    absurd (omega (arith, all, buffered, ap length (c.self.view_is ∙ none), c.self.invariant, c.if-after-lt8.true))

pub returns-clause-pushed : goal.returns-clause-pushed
returns-clause-pushed g c = λ is_pushed.
    let b = c.self.inside in
    let one = c.copy_from_slice.ensures in
    let two = c.copy_from_slice-2.ensures in
    let fits : b.end ≤ length b.bytes = omega (arith, c.self.told, c.self.invariant) in
    let same = same_len_mid b.end (b.end + 4 - b.end) b.bytes c.copy_from_slice.new.self one.len in
    rw (← c.self.view_is, ← one.after, ← two.after)
    (put_in_firsts b.start b.end (b.end + 4 - b.end) _ c.args.first.1 c.args.second.1 b.bytes _ _
    (omega (arith, c.self.invariant)) fits (omega (arith, one.len, ap length one.after, c.requires.first))
    (omega (arith, two.len, ap length two.after, c.requires.second))
    (omega (arith, same, c.self.told, c.if-after-lt8.false, c.requires.first)))
