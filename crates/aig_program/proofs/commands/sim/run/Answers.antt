use Rattle.std.proofs.Common.{◌∙◌, ℕ, List}
use Rattle.std.specs.Prelude.{IfSome}
use Rattle.aig_command.specs.Command.{OfFile}
use Rattle.aig_command.specs.declared.run_fault.RunFault.TheVariants as run_faults
use Rattle.aig_sim.specs.declared.stimulus.fault.StimFault.TheVariants as stimuli
use Rattle.aig_commands.specs.Sim.{WritesSimulation}
use Rattle.aig_program.specs.Ends.{Ends, OfText, end_of, seen}
use Rattle.aig_program.proofs.Endings.{known_at_first, of_left, streamed_text_ends}
use Rattle.aig_program.proofs.commands.sim.run.Goals as goal

pub returns : goal.returns
returns g c =
    let w = g.W.Write.written in
    let f = g.W.Write.failures in
    let left = g.F.Read.remaining in
    let files = c.args.it in
    let circuit = c.new-circuit in
    let stimulus = c.new-stimulus in
    let io = run_faults.Stimulus stimuli.Io in
    let r = c.streamed.result in
    let EndsFor = λ (file rows : List ℕ). Ends (seen w f c.args.out.now c.streamed.new.out) io end_of (OfText rows (λ text. OfFile file (WritesSimulation text))) r in
    record {
      ends = of_left (left files.circuit) (λ file. IfSome (left files.stimulus) (EndsFor file))
          (λ file is. of_left (left files.stimulus) (EndsFor file)
          (λ rows is_rows. streamed_text_ends w f _ _ _ _ _ io (λ e. cc) WritesSimulation file rows
          (known_at_first left files.circuit circuit.result.first circuit.result.inner circuit.ensures.first circuit.ensures.inner ∙ is)
          (known_at_first left files.stimulus stimulus.result.first stimulus.result.inner stimulus.ensures.first stimulus.ensures.inner ∙ is_rows)
          c.sim-done.result r c.sim-done.ensures.ends c.streamed.ensures.ends));
    }
