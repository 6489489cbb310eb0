use Rattle.std.proofs.Common.{[], refl}
use Rattle.aig_bytes.specs.Flow.{flow}
use Rattle.aig_command.specs.Command.{CommandEnds}
use Rattle.aig_command.specs.declared.run_fault.RunFault.TheVariants as run_faults
use Rattle.aig_command.proofs.Files.{answered}
use Rattle.aig_command.proofs.Written.{ends_map, got_none}
use Rattle.aig_commands.specs.Cut.{WritesCut}
use Rattle.aig_commands.specs.Toaig.{Converts}
use Rattle.aig_commands.proofs.CutCircuits.{writes_cut}
use Rattle.aig_commands.proofs.cut.write_cut.Goals as goal

pub returns : goal.returns
returns g c =
    let out = flow g.W.Write.written g.W.Write.failures c.args.out.now c.write_converted.new.out in
    ends_map out run_faults.Output (Converts c.args.to c.in_ok-cut.cut) (WritesCut c.args.cuts.now c.args.to c.args.circuit)
    (writes_cut c.args.cuts.now c.args.to c.args.circuit c.in_ok-cut.cut c.in_ok-cut.ensures.cut) c.write_converted.result
    c.write_converted.ensures.ends

pub returns-in_err-cut : goal.returns-in_err-cut
returns-in_err-cut g c =
    let means = WritesCut c.args.cuts.now c.args.to c.args.circuit in
    answered c.from_residual.result (run_faults.Cut c.in_err-cut.field-0.0)
    (CommandEnds (flow g.W.Write.written g.W.Write.failures c.args.out.now c.args.out.now) run_faults.Output means)
    c.from_residual.ensures.1
    (CommandEnds.writes_all [] (c.in_err-cut.ensures.refused, refl) (got_none g.W.Write.written g.W.Write.failures c.args.out.now))
