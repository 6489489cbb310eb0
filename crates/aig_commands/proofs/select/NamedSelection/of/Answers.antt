use Rattle.std.proofs.Common.{inl, inr, refl, sym, subst}
use Rattle.aig_bytes.proofs.Results.{known_err}
use Rattle.aig_parts.specs.declared.raw.Raw.{Raw}
use Rattle.aig_base.specs.Selected.{selected}
use Rattle.aig_signals.specs.Named.{IsNamed, RefusesNames}
use Rattle.aig_command.specs.declared.run_fault.RunFault.TheVariants as run_faults
use Rattle.aig_commands.specs.state.NamedSelections.{RefusesNamedSelection}
use Rattle.aig_commands.proofs.select.NamedSelection.of.Goals as goal

pub returns-in_err-select-clause-refused : goal.returns-in_err-select-clause-refused
returns-in_err-select-clause-refused c =
    known_err c.from_residual.result (run_faults.Select c.in_err-select.field-0.0) (RefusesNamedSelection c.args.self.now c.args.circuit.now)
    c.from_residual.ensures.1 (inl (c.in_err-select.field-0.0, refl, c.in_err-select.ensures.fault))
