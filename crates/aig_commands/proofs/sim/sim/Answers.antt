use Rattle.aig_bytes.specs.Flow.{flow}
use Rattle.aig_commands.specs.Sim.{WritesSimulation}
use Rattle.aig_commands.proofs.Runs.{simulates_no_fault}
use Rattle.aig_commands.proofs.sim.sim.Goals as goal
use Rattle.aig_command.proofs.Files.{reading_of_reader, reading_refused}
use Rattle.aig_command.specs.declared.run_fault.RunFault.TheVariants as run_faults
use Rattle.aig_sim.specs.declared.stimulus.fault.StimFault.TheVariants as stimuli

pub returns-in-Ok-clause-ends : goal.returns-in-Ok-clause-ends
returns-in-Ok-clause-ends g c =
    let h = c.in-Ok.ensures in
    reading_of_reader (flow g.C.Read.left g.C.Read.failures c.args.circuit.now c.read_from.new.reader)
    (flow g.R.Read.left g.R.Read.failures c.args.stimulus.now c.run.new.stimulus)
    (flow g.W.Write.written g.W.Write.failures c.args.out.now c.run.new.out) (run_faults.Stimulus stimuli.Io) WritesSimulation c.in-Ok.circuit
    (simulates_no_fault c.in-Ok.circuit) h.answers h.circuit h.io c.run.result c.run.ensures.ends

pub returns-in-Err-clause-ends : goal.returns-in-Err-clause-ends
returns-in-Err-clause-ends g c =
    let h = c.in-Err.ensures in
    reading_refused (flow g.C.Read.left g.C.Read.failures c.args.circuit.now c.read_from.new.reader)
    g.R.Read.left g.R.Read.failures c.args.stimulus.now g.W.Write.written g.W.Write.failures c.args.out.now (run_faults.Stimulus stimuli.Io) WritesSimulation c.in-Err.fault
    (λ e. let no : ⊥ = cc in no) h.answers h.io
