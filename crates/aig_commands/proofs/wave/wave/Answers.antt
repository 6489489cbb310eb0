use Rattle.std.proofs.Common.{inl, refl}
use Rattle.aig_bytes.specs.Flow.{flow}
use Rattle.aig_commands.specs.Wave.{WritesWave}
use Rattle.aig_commands.proofs.Headers.{header_of_file}
use Rattle.aig_commands.proofs.Runs.{dumps_no_fault}
use Rattle.aig_commands.proofs.wave.wave.Goals as goal
use Rattle.aig_command.proofs.Files.{reading_of_reader, reading_refused}
use Rattle.aig_command.specs.declared.run_fault.RunFault.TheVariants as run_faults
use Rattle.aig_sim.specs.declared.stimulus.fault.StimFault.TheVariants as stimuli

pub returns-in-Ok-clause-ends : goal.returns-in-Ok-clause-ends
returns-in-Ok-clause-ends g c =
    let h = c.in-Ok.ensures in
    reading_of_reader (flow g.C.Read.left g.C.Read.failures c.args.circuit.now c.read_from.new.reader)
    (flow g.R.Read.left g.R.Read.failures c.args.stimulus.now c.run.new.stimulus)
    (flow g.W.Write.written g.W.Write.failures c.args.out.now c.run.new.out) (run_faults.Stimulus stimuli.Io) WritesWave c.in-Ok.circuit
    (dumps_no_fault c.in-Ok.circuit) h.answers h.circuit h.io c.run.result c.run.ensures.ends

pub returns-in-Err-clause-ends : goal.returns-in-Err-clause-ends
returns-in-Err-clause-ends g c =
    let h = c.in-Err.ensures in
    reading_refused (flow g.C.Read.left g.C.Read.failures c.args.circuit.now c.read_from.new.reader)
    g.R.Read.left g.R.Read.failures c.args.stimulus.now g.W.Write.written g.W.Write.failures c.args.out.now (run_faults.Stimulus stimuli.Io) WritesWave c.in-Err.fault
    (λ e. let no : ⊥ = cc in no) h.answers h.io

pub returns-in-Ok-clause-header : goal.returns-in-Ok-clause-header
returns-in-Ok-clause-header g c = λ file raw is spelled.
    header_of_file (flow g.C.Read.left g.C.Read.failures c.args.circuit.now c.read_from.new.reader)
    (flow g.R.Read.left g.R.Read.failures c.args.stimulus.now c.run.new.stimulus)
    (flow g.W.Write.written g.W.Write.failures c.args.out.now c.run.new.out) c.in-Ok.circuit c.in-Ok.ensures.answers
    c.run.ensures.header file raw is spelled

pub returns-in-Err-clause-header : goal.returns-in-Err-clause-header
returns-in-Err-clause-header g c = λ file raw is spelled. inl refl
