use Rattle.std.proofs.Common.{◌≡◌, ◌+◌}
use Rattle.aig_certificate.proofs.ChainGates.{Linked}
use Rattle.aig_certificate.proofs.parts.push_chain.Given as goal

abbrev pub invariant-loop-literal : goal.invariant-loop-literal
invariant-loop-literal l = record {
  variable : l.variable ≡ l.first + l.literal-index;
  linked : Linked l.first l.fn.start l.literals l.literal-index l.variable l.last l.initial.gates l.gates;
}
