use Rattle.std.proofs.Common.{subst}
use Rattle.aig_sim.specs.Verdict.{IsVerdict, IsConfirmed}
use Rattle.aig_sim.proofs.Completions.{confirmed}
use Rattle.aig_sim.proofs.WitnessLemmas.{one_witness}
use Rattle.aig_sim.proofs.witness.check_witness.Goals as goal

pub returns-clause-confirmed : goal.returns-clause-confirmed
returns-clause-confirmed c = λ e v h.
    let raw = c.args.circuit.now in
    let circuit = c.facts.ensures in
    let (w, spells, parts, admitted) = c.in_ok-parts.ensures.parts in
    subst (IsConfirmed raw) (one_witness raw c.args.text.now w v spells h)
    (confirmed raw circuit w spells.start_is spells.widths spells.some admitted.0
    (subst (IsVerdict raw w) e (c.in_ok-verdict.ensures w parts admitted)))
