use Rattle.std.proofs.Common.{◌<◌, ◌+◌, ◌*◌, ◌/◌, ◌%◌, ◌∙◌, take, sym, ap, arith}
use Rattle.aig_format.proofs.Deltas.{delta_small, delta_more, word_bytes}
use Rattle.aig_format.proofs.writer.delta.groups.Goals as goal

pub returns-then-number-lt128-clause-groups : goal.returns-then-number-lt128-clause-groups
returns-then-number-lt128-clause-groups c =
    let n = c.args.number in
    let small = c.if-number-lt128.true in
    rw c.to_le_bytes.ensures
    (ap (take 1) (word_bytes n n 0 0 0 (omega arith) (omega (arith, small)) (omega arith) (omega arith) (omega arith))
    ∙ sym (delta_small n small))

pub returns-then-second-lt128-clause-groups : goal.returns-then-second-lt128-clause-groups
returns-then-second-lt128-clause-groups c =
    let n = c.args.number in
    let small = c.if-second-lt128.true in
    rw c.to_le_bytes-then-second-lt128.ensures
    (ap (take 2) (word_bytes (n + 128 * (n / 128) + 128) (128 + n % 128) (n / 128) 0 0 (omega arith) (omega arith)
    (omega (arith, small)) (omega arith) (omega arith))
    ∙ sym (delta_more n _ c.if-number-lt128.false c.requires (delta_small (n / 128) small)))

pub returns-then-third-lt128-clause-groups : goal.returns-then-third-lt128-clause-groups
returns-then-third-lt128-clause-groups c =
    let n = c.args.number in
    let small = c.if-third-lt128.true in
    rw c.to_le_bytes-then-third-lt128.ensures
    (ap (take 3) (word_bytes (n + 128 * (n / 128) + 32768 * (n / 128 / 128) + 32896) (128 + n % 128) (128 + n / 128 % 128)
    (n / 128 / 128) 0 (omega arith) (omega arith) (omega arith) (omega (arith, small)) (omega arith))
    ∙ sym (delta_more n _ c.if-number-lt128.false c.requires
    (delta_more (n / 128) _ c.if-second-lt128.false (omega (arith, c.requires)) (delta_small (n / 128 / 128) small))))

pub returns-clause-groups : goal.returns-clause-groups
returns-clause-groups c =
    let n = c.args.number in
    let small : n / 128 / 128 / 128 < 128 = omega (arith, c.requires) in
    rw c.to_le_bytes-2.ensures
    (ap (take 4) (word_bytes (n + 128 * (n / 128) + 32768 * (n / 128 / 128) + 8388608 * (n / 128 / 128 / 128) + 8421504)
    (128 + n % 128) (128 + n / 128 % 128) (128 + n / 128 / 128 % 128) (n / 128 / 128 / 128)
    (omega arith) (omega arith) (omega arith) (omega arith) (omega (arith, small)))
    ∙ sym (delta_more n _ c.if-number-lt128.false c.requires
    (delta_more (n / 128) _ c.if-second-lt128.false (omega (arith, c.requires))
    (delta_more (n / 128 / 128) _ c.if-third-lt128.false (omega (arith, c.requires)) (delta_small (n / 128 / 128 / 128) small)))))
