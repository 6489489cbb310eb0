use Rattle.std.proofs.Common.{sym, ◌∙◌, ◌≤◌, length, arith}
use Rattle.aig_prompt.proofs.ValueLemmas.{gathers_one, gathers_zero}
use Rattle.aig_prompt.proofs.value.Bits.push.Goals as goal

pub returns-then-is_one-clause-gathered : goal.returns-then-is_one-clause-gathered
returns-then-is_one-clause-gathered c = λ all g.
    let full : c.args.self.now.width ≤ length c.args.self.now.values.items = omega (arith, c.if-len-self.false, c.len.ensures) in
    rw c.if-is_one.true (gathers_one c.args.self.now all full g)

pub returns-else-is_one-clause-gathered : goal.returns-else-is_one-clause-gathered
returns-else-is_one-clause-gathered c = λ all g.
    let full : c.args.self.now.width ≤ length c.args.self.now.values.items = omega (arith, c.if-len-self.false, c.len.ensures) in
    rw c.if-is_one.false (gathers_zero c.args.self.now all full g)
