use Rattle.std.proofs.Common.{◌≡◌, ◌+◌, ◌-◌, ◌∙◌, arith}
use Rattle.aig_unroll.proofs.NumberedGates.{gate_side}
use Rattle.aig_unroll.proofs.unrolling.parts.side_at.Goals as goal

pub returns-else-value-gates : goal.returns-else-value-gates
returns-else-value-gates c =
    let here : c.new.result ≡ c.args.literal - c.args.gates.least + c.args.gates.first = omega arith in
    here ∙ gate_side c.args.plan.now c.args.frame.now c.args.literal c.args.gates.least c.args.gates.first
    c.requires.gates.least c.requires.gates.first (omega arith)
