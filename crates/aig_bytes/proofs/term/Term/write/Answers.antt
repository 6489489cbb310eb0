use Rattle.std.proofs.Common.{◌+◌, ◌-◌, ◌≤◌, ◌<◌, arith, ap, refl, length, length-set}
use borrow.Rule.Slice.PartMut.{put_mid, same_len_mid}
use mir.Val.{bool_byte}
use Rattle.std.proofs.Math.ListN.{set}
use Rattle.aig_bytes.proofs.BlockLemmas.{put_term, sign_size}
use Rattle.aig_bytes.proofs.term.Term.write.Goals as goal

pub returns-clause-written : goal.returns-clause-written
returns-clause-written c =
    let t = c.self.inside in
    let first = c.args.at + bool_byte t.is_negative in
    let copied = c.copy_from_slice.ensures in
    let few = sign_size t.is_negative in
    let size = length-set c.args.bytes.now c.args.at 45 in
    let same = same_len_mid first (first + 8 - first) (set c.args.bytes.now c.args.at 45) c.copy_from_slice.new.self copied.len in
    rw (← c.self.view_is, ← copied.after)
    (put_term t.is_negative c.args.at (bool_byte t.is_negative) (first + 8 - first) t.count c.args.bytes.now _ refl
    (omega (arith, c.requires.room)) (omega (arith, c.requires.room, size, few)) (omega (arith, c.self.invariant, c.self.told, ap length copied.after, copied.len))
    (omega (arith, c.requires.room, size, few, same, c.self.invariant, c.self.told)))
