use Rattle.std.proofs.Common.{length, arith, ◌/◌, ◌≤◌, ◌<◌}
use Rattle.std.proofs.lemmas.Bool.Decides.{nat_tests}
use Rattle.aig_parts.proofs.BitLemmas.{past, has_read}
use Rattle.aig_bench.proofs.propagate.level_set.NumberSet.contains.Goals as goal

pub returns-then-word-len : goal.returns-then-word-len
returns-then-word-len c =
    let inside : c.args.number / 64 < length c.args.self.now.words.items = omega arith in
    has_read c.args.self.now.words.items c.args.number c.index.result.now inside c.index.ensures

pub returns-else-word-len : goal.returns-else-word-len
returns-else-word-len c =
    let over : length c.args.self.now.words.items ≤ c.args.number / 64 = omega arith in
    (λ h. absurd (grind (arith, nat_tests)), λ h. absurd (past c.args.self.now.words.items c.args.number over h))
