use Rattle.std.proofs.Common.{subst}
use Rattle.aig_sim.specs.Verdict.{IsVerdict}
use Rattle.aig_sim.specs.WitnessText.{Witness}
use Rattle.aig_sim.proofs.WitnessLemmas.{one_witness}
use Rattle.aig_reduce.proofs.reduction.Given.read.Goals as goal

pub returns-clause-verdict : goal.returns-clause-verdict
returns-clause-verdict c =
    let raw = c.args.circuit.now in
    let (w, spells, admitted, is) = c.in_ok-verdict.ensures.verdict in
    subst (λ (v : Witness). IsVerdict raw v c.in_ok-verdict.verdict)
    (one_witness raw c.args.text.now w _ spells c.in_ok-witness.ensures.spelled) is
