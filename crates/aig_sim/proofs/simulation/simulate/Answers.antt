use Rattle.aig_sim.specs.declared.stimulus.fault.StimFault.TheVariants.{Memory}
use Rattle.aig_sim.specs.Simulated.{Simulates}
use Rattle.aig_sim.proofs.LineLemmas.{forwarded}
use Rattle.aig_sim.proofs.SimulationLemmas.{simulates_nothing}
use Rattle.aig_sim.proofs.simulation.simulate.Goals as goal

pub returns-in_err-simulation-clause-simulated : goal.returns-in_err-simulation-clause-simulated
returns-in_err-simulation-clause-simulated g c =
    let left = g.R.Read.left c.args.reader.now in
    let reads = g.R.Read.failures c.args.reader.now in
    let written = g.W.Write.written c.args.out.now in
    let writes = g.W.Write.failures c.args.out.now in
    forwarded (λ r. Simulates c.args.circuit.now (record { left = left; reads = reads; writes = writes })
    (record { left = left; reads = reads; writes = writes }) written written r)
    c.from_residual.result Memory c.from_residual.ensures.1
    (simulates_nothing c.args.circuit.now left reads written writes)
