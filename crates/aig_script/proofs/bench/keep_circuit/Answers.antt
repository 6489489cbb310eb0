use Rattle.aig_script.proofs.KeptFiles.{circuit_file}
use Rattle.aig_script.proofs.bench.keep_circuit.Goals as goal

pub returns-clause-file : goal.returns-clause-file
returns-clause-file g c =
    let pair = c.args.bench.now.pair in
    let circuit = c.width.ensures.circuit in
    circuit_file pair circuit (c.law_of_round_trip.ensures.ascii pair.circuit circuit)
