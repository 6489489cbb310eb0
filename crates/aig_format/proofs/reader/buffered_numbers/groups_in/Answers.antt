use Rattle.std.proofs.Common.{◌+◌, ◌-◌, ◌*◌, get_or, drop, refl, arith}
use Rattle.aig_format.proofs.BufferedNumbers.{group_last, group_more}
use Rattle.aig_format.proofs.reader.buffered_numbers.groups_in.Goals as goal

pub returns-then-first-lt128-clause-groups : goal.returns-then-first-lt128-clause-groups
returns-then-first-lt128-clause-groups c =
    group_last 3 c.args.from (c.args.from + 1) c.args.bytes.now (omega (arith, c.requires)) refl c.if-first-lt128.true

pub returns-then-second-lt128-clause-groups : goal.returns-then-second-lt128-clause-groups
returns-then-second-lt128-clause-groups c =
    let b = c.args.bytes.now in
    let at = c.args.from in
    group_more 2 at (at + 1) (get_or b (at + 1) 0) b (drop (at + 2) b) (omega (arith, c.requires)) refl c.if-first-lt128.false
    (omega (arith, c.type_inv.bytes at)) (omega (arith, c.if-second-eq0.false))
    (group_last 2 (at + 1) (at + 2) b (omega (arith, c.requires)) (omega arith) c.if-second-lt128.true)

pub returns-then-third-lt128-clause-groups : goal.returns-then-third-lt128-clause-groups
returns-then-third-lt128-clause-groups c =
    let b = c.args.bytes.now in
    let at = c.args.from in
    let third = get_or b (at + 2) 0 in
    group_more 2 at (at + 1) (get_or b (at + 1) 0 - 128 + 128 * third) b (drop (at + 3) b) (omega (arith, c.requires)) refl
    c.if-first-lt128.false (omega (arith, c.type_inv.bytes at)) (omega (arith, c.if-third-eq0.false))
    (group_more 1 (at + 1) (at + 2) third b (drop (at + 3) b) (omega (arith, c.requires)) (omega arith) c.if-second-lt128.false
    (omega (arith, c.type_inv.bytes (at + 1))) (omega (arith, c.if-third-eq0.false))
    (group_last 1 (at + 2) (at + 3) b (omega (arith, c.requires)) (omega arith) c.if-third-lt128.true))

pub returns-clause-groups : goal.returns-clause-groups
returns-clause-groups c =
    let b = c.args.bytes.now in
    let at = c.args.from in
    let third = get_or b (at + 2) 0 in
    let fourth = get_or b (at + 3) 0 in
    group_more 2 at (at + 1) (get_or b (at + 1) 0 - 128 + 128 * (third - 128 + 128 * fourth)) b (drop (at + 4) b)
    (omega (arith, c.requires)) refl c.if-first-lt128.false (omega (arith, c.type_inv.bytes at)) (omega (arith, c.if-fourth-eq0.false))
    (group_more 1 (at + 1) (at + 2) (third - 128 + 128 * fourth) b (drop (at + 4) b) (omega (arith, c.requires)) (omega arith)
    c.if-second-lt128.false (omega (arith, c.type_inv.bytes (at + 1))) (omega (arith, c.if-fourth-eq0.false))
    (group_more 0 (at + 2) (at + 3) fourth b (drop (at + 4) b) (omega (arith, c.requires)) (omega arith) c.if-third-lt128.false
    (omega (arith, c.type_inv.bytes (at + 2))) (omega (arith, c.if-fourth-eq0.false))
    (group_last 0 (at + 3) (at + 4) b (omega (arith, c.requires)) (omega arith) (omega (arith, c.if-fourth-gt127.false)))))
