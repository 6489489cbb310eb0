use Rattle.std.proofs.Common.{ap, map, ◌∙◌}
use Rattle.aig_parts.specs.declared.latch.Latch.{Latch}
use Rattle.aig_bench.specs.BenchState.{CircuitAndRows}
use Rattle.aig_shell.proofs.editing.Leading.{leads_one, restarted_lits}
use Rattle.aig_shell.proofs.session.edits.start_latch.Goals as goal

pub returns-clause-leads : goal.returns-clause-leads
returns-clause-leads c = leads_one _ _ _ c.in-Ok.ensures.edits.0 c.in-Ok.ensures.edits.1

pub returns-clause-latches : goal.returns-clause-latches
returns-clause-latches c =
    ap (λ (p : CircuitAndRows). map (λ (x : Latch). x.lit) p.circuit.latches) c.in-Ok.ensures.edits.1
    ∙ restarted_lits c.args.latch c.args.value c.args.bench.now.pair.circuit.latches
