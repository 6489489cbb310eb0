use Rattle.std.proofs.Common.{[]}
use Rattle.std.specs.Fmt.{decimal}
use Rattle.aig_bytes.specs.Flow.{flow}
use Rattle.aig_command.proofs.Files.{answered}
use Rattle.aig_command.proofs.Written.{got_none, output_ends}
use Rattle.aig_command.specs.Command.{CommandEnds}
use Rattle.aig_command.specs.declared.run_fault.RunFault.TheVariants as run_faults
use Rattle.aig_sim.specs.WitnessText.{witness_text}
use Rattle.aig_commands.specs.AliveWitness.{NamesKept}
use Rattle.aig_commands.specs.ModelWitness.{rows_named, start_named}
use Rattle.aig_commands.proofs.AliveRuns.{spells_kept}
use Rattle.aig_commands.proofs.alive_witness.find_and_write.Goals as goal

pub returns : goal.returns
returns g c =
    let raw = c.args.circuit.now in
    let k = c.args.frames in
    let values = c.args.values.now in
    let read' = c.args.read.now in
    let run' = c.in_ok-run.run' in
    let e = c.in_ok-run.ensures in
    output_ends g.W.Write.written g.W.Write.failures c.args.out.now c.write_run.new.out (NamesKept k values raw read')
    (witness_text (decimal 0) run'.start.items run'.rows.rows) c.write_run.result c.write_run.ensures.written
    c.write_run.ensures.output
    (spells_kept raw k (start_named raw read' k values) run'.start.items (rows_named raw read' k values) run'.rows.rows
    c.requires.some e.start e.rows e.kept c.write_run.ensures.position)

pub returns-in_err-run : goal.returns-in_err-run
returns-in_err-run g c =
    answered c.from_residual.result (run_faults.Reach c.in_err-run.field-0.0)
    (CommandEnds (flow g.W.Write.written g.W.Write.failures c.args.out.now c.args.out.now) run_faults.Output
    (NamesKept c.args.frames c.args.values.now c.args.circuit.now c.args.read.now))
    c.from_residual.ensures.1
    (CommandEnds.writes_all [] c.in_err-run.ensures.refused (got_none g.W.Write.written g.W.Write.failures c.args.out.now))
