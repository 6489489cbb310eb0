use Rattle.std.proofs.Common.{ℕ, ◌+◌, ◌-◌, ◌<◌, List, [], ◌∷◌, ◌++◌, arith, ap, length, length-set, take, drop, ◌∙◌}
use Rattle.std.specs.Fmt.{decimal}
use borrow.Rule.Slice.PartMut.{put_mid, same_len_mid}
use Rattle.std.proofs.lemmas.List.{length-drop, length-take-le}
use Rattle.aig_bytes.proofs.BlockLemmas.{put_symbol}
use Rattle.aig_bytes.proofs.block.ByteBlock.push_symbol.Goals as goal

-- a full block has bytes that wait
pub returns-then-after-name-clause-some : goal.returns-then-after-name-clause-some
returns-then-after-name-clause-some g c = λ none short room.
    let b = c.self.inside in
    let all = length-take-le b.end b.bytes (omega (arith, c.self.told, c.self.invariant)) in
    let buffered = length-drop b.start (take b.end b.bytes) in
    absurd (omega (arith, all, buffered, ap length (c.self.view_is ∙ none), c.self.invariant, room, c.if-after-name.true))

pub returns-clause-pushed : goal.returns-clause-pushed
returns-clause-pushed g c = λ is_pushed.
    let b = c.self.inside in
    let copied = c.copy_from_slice.ensures in
    let at = c.write_short-at.result in
    let last = at + length c.args.name.now in
    let fits : b.end < length b.bytes = omega (arith, c.self.told, c.self.invariant, c.if-after-name.false) in
    let same = c.write_short-at.auto.bytes in
    let here : last < length b.bytes = omega (arith, c.self.told, c.self.invariant, c.if-after-name.false, c.write_short-at.ensures.most) in
    let room : last < length (put_mid at (last - at) c.write_short-at.new.bytes c.copy_from_slice.new.self) =
    omega (arith, same_len_mid at (last - at) c.write_short-at.new.bytes c.copy_from_slice.new.self copied.len, same, length-set b.bytes b.end c.args.letter, here) in
    rw (← c.self.view_is)
    (put_symbol b.start b.end c.args.letter at (last - at) last 10 b.bytes c.write_short-at.new.bytes
    c.copy_from_slice.new.self _ (omega (arith, c.self.invariant)) fits c.write_short-at.ensures.written
    (omega (arith, ap length copied.after)) (omega (arith, same, length-set b.bytes b.end c.args.letter, here)) room
    ∙ ap (λ (xs : List ℕ). drop b.start (take b.end b.bytes) ++ (c.args.letter ∷ (decimal c.args.number ++ 32 ∷ []) ++ xs ++ 10 ∷ [])) copied.after)
