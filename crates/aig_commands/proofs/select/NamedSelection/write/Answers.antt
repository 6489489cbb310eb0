use Rattle.std.proofs.Common.{[]}
use Rattle.aig_bytes.specs.Flow.{flow}
use Rattle.aig_command.specs.Command.{CommandEnds}
use Rattle.aig_command.specs.declared.run_fault.RunFault.TheVariants as run_faults
use Rattle.aig_command.proofs.Files.{answered}
use Rattle.aig_command.proofs.Written.{ends_map, got_none}
use Rattle.aig_commands.specs.Select.{SelectsNamed}
use Rattle.aig_commands.specs.Toaig.{Converts}
use Rattle.aig_commands.proofs.Selections.{refuses_named, selects_named}
use Rattle.aig_commands.proofs.select.NamedSelection.write.Goals as goal

pub returns : goal.returns
returns g c =
    let s = c.args.self.now in
    let raw = c.args.circuit.now in
    let out = flow g.W.Write.written g.W.Write.failures c.args.out.now c.write_converted.new.out in
    ends_map out run_faults.Output (Converts c.args.to c.in_ok-named.named) (SelectsNamed s c.args.to raw)
    (selects_named s c.args.to raw c.in_ok-named.named c.in_ok-named.ensures.selected) c.write_converted.result
    c.write_converted.ensures.ends

pub returns-in_err-named : goal.returns-in_err-named
returns-in_err-named g c =
    let means = SelectsNamed c.args.self.now c.args.to c.args.circuit.now in
    answered c.from_residual.result c.in_err-named.field-0.0
    (CommandEnds (flow g.W.Write.written g.W.Write.failures c.args.out.now c.args.out.now) run_faults.Output means)
    c.from_residual.ensures.1
    (CommandEnds.writes_all []
    (refuses_named c.args.self.now c.args.to c.args.circuit.now c.in_err-named.field-0.0 c.in_err-named.ensures.refused)
    (got_none g.W.Write.written g.W.Write.failures c.args.out.now))
