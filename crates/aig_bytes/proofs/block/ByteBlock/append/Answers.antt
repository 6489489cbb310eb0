use Rattle.std.proofs.Common.{arith, ◌+◌}
use Rattle.std.proofs.lemmas.Slice.{take-put_mid}
use Rattle.aig_bytes.proofs.BlockLemmas.{put_in}
use Rattle.aig_bytes.proofs.block.ByteBlock.append.Goals as goal

pub returns-clause-appended : goal.returns-clause-appended
returns-clause-appended g c =
    let b = c.self.inside in
    let copied = c.copy_from_slice.ensures in
    let placed = take-put_mid b.end _ b.bytes c.copy_from_slice.new.self (b.end + c.min-count.result) (omega (arith, copied.len, c.self.told, c.self.invariant)) (omega (arith, c.self.told, c.self.invariant)) in
    rw (← c.self.view_is, ← copied.after) (put_in b.start b.end _ b.bytes _ _ (omega (arith, c.self.invariant)) (omega (arith, c.self.told, c.self.invariant)) placed)
