use Rattle.std.proofs.Common.{arith, ap, ◌+◌}
use Rattle.aig_bytes.proofs.BlockLemmas.{put_back}
use Rattle.aig_bytes.proofs.digits.write_long.Goals as goal

pub write_digits-requires : goal.write_digits-requires
write_digits-requires c =
    (omega (arith, c.long_count.ensures.digits), omega (arith, c.long_count.ensures.most, c.requires.room))

pub returns-clause-written : goal.returns-clause-written
returns-clause-written c =
    let put = c.write_digits.ensures in
    put_back c.write_digits.result c.args.at (c.args.at + c.long_count.result) c.args.end c.args.bytes.now
    c.write_digits.new.buf _ (omega (arith, c.requires.room)) (ap (λ n. c.args.at + n) c.long_count.ensures.digits) put.start
    (omega (arith, c.write_digits.auto.buf, c.long_count.ensures.most, c.requires.room)) put.written put.before
