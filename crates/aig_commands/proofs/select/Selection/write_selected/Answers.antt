use Rattle.std.proofs.Common.{[], refl, subst}
use Rattle.aig_parts.specs.declared.raw.Raw.{Raw}
use Rattle.aig_base.specs.Selected.{selected}
use Rattle.aig_bytes.specs.Flow.{flow}
use Rattle.aig_command.specs.Command.{CommandEnds}
use Rattle.aig_command.specs.declared.run_fault.RunFault.TheVariants as run_faults
use Rattle.aig_command.proofs.Files.{answered}
use Rattle.aig_command.proofs.Written.{ends_map, got_none}
use Rattle.aig_commands.specs.Select.{Selects}
use Rattle.aig_commands.specs.Toaig.{Converts}
use Rattle.aig_commands.proofs.Selections.{selects}
use Rattle.aig_commands.proofs.select.Selection.write_selected.Goals as goal

pub returns : goal.returns
returns g c =
    let raw = c.args.circuit.now in
    let from = c.args.self.now.from in
    let into = c.args.self.now.into in
    let named = c.args.self.now.positions.now in
    let out = flow g.W.Write.written g.W.Write.failures c.args.out.now c.write_converted.new.out in
    ends_map out run_faults.Output (Converts c.args.to (selected raw from into named)) (Selects from into named c.args.to raw)
    (selects from into named c.args.to raw c.in_ok-select.ensures.possible) c.write_converted.result
    (subst (λ (r : Raw). CommandEnds out run_faults.Output (Converts c.args.to r) c.write_converted.result)
    c.in_ok-select.ensures.selected c.write_converted.ensures.ends)

pub returns-in_err-select : goal.returns-in_err-select
returns-in_err-select g c =
    let raw = c.args.circuit.now in
    let means = Selects c.args.self.now.from c.args.self.now.into c.args.self.now.positions.now c.args.to raw in
    answered c.from_residual.result (run_faults.Select c.in_err-select.field-0.0)
    (CommandEnds (flow g.W.Write.written g.W.Write.failures c.args.out.now c.args.out.now) run_faults.Output means)
    c.from_residual.ensures.1
    (CommandEnds.writes_all [] (c.in_err-select.ensures.fault, refl) (got_none g.W.Write.written g.W.Write.failures c.args.out.now))
