use Rattle.std.proofs.Common.{length, arith, ◌/◌, ◌≤◌, ◌<◌}
use Rattle.std.proofs.lemmas.Bool.Decides.{nat_tests}
use Rattle.aig_parts.proofs.BitLemmas.{past, has_read}
use Rattle.aig_parts.proofs.bits.BitSet.contains.Goals as goal

pub returns-then-word-len : goal.returns-then-word-len
returns-then-word-len c =
    let inside : c.args.number / 64 < length c.self.inside.words.items = omega arith in
    rw (← c.self.view_is) (has_read c.self.inside.words.items c.args.number c.index.result.now inside c.index.ensures)

pub returns-else-word-len : goal.returns-else-word-len
returns-else-word-len c =
    let over : length c.self.inside.words.items ≤ c.args.number / 64 = omega arith in
    rw (← c.self.view_is)
    (λ h. absurd (grind (arith, nat_tests)), λ h. absurd (past c.self.inside.words.items c.args.number over h))
