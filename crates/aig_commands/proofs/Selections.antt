-- A selection, from what is written of the circuit that it leaves.
use Rattle.std.proofs.Common.{◌≡◌, inl, inr, refl, sym, subst, ℕ, List, [], Result, Err}
use Rattle.aig_parts.specs.declared.raw.Raw.{Raw}
use Rattle.aig_base.specs.declared.select.PropertySection.{PropertySection}
use Rattle.aig_base.specs.Selected.{selected, CanSelect}
use Rattle.aig_format.specs.declared.reader.header.Format.{Format}
use Rattle.aig_command.specs.declared.run_fault.RunFault.{RunFault}
use Rattle.aig_command.specs.declared.run_fault.RunFault.TheVariants as run_faults
use Rattle.aig_commands.specs.Toaig.{Converts}
use Rattle.aig_commands.specs.Select.{Selects, SelectsNamed}
use Rattle.aig_commands.specs.declared.select.NamedSelection.{NamedSelection}
use Rattle.aig_commands.specs.state.NamedSelections.{IsSelectedAndNamed, RefusesNamedSelection}

pub selects : (from into : PropertySection) (named : List ℕ) (to : Format) (raw : Raw) → CanSelect raw from named
    → (answer : Result (Unit {0}) RunFault) (bytes : List ℕ) → Converts to (selected raw from into named) answer bytes
    → Selects from into named to raw answer bytes
selects from into named to raw can (Err (run_faults.Select fault)) bytes m = absurd m
selects from into named to raw can answer bytes m = (can, m)

pub selects_named : (s : NamedSelection) (to : Format) (raw x : Raw) → IsSelectedAndNamed s raw x
    → (answer : Result (Unit {0}) RunFault) (bytes : List ℕ) → Converts to x answer bytes → SelectsNamed s to raw answer bytes
selects_named s to raw x (can, named) (Err (run_faults.Select fault)) bytes m = absurd m
selects_named s to raw x (can, named) (Err (run_faults.Names fault)) bytes m = absurd m
selects_named s to raw x (can, named) answer bytes m = (can, (x, named, m))

pub refuses_named : (s : NamedSelection) (to : Format) (raw : Raw) (part : RunFault) → RefusesNamedSelection s raw part
    → SelectsNamed s to raw (Err part) []
refuses_named s to raw part (inl (fault, is, refuses)) =
    subst (λ (p : RunFault). SelectsNamed s to raw (Err p) []) (sym is) (refuses, refl)
refuses_named s to raw part (inr (fault, is, can, refuses)) =
    subst (λ (p : RunFault). SelectsNamed s to raw (Err p) []) (sym is) (can, refuses, refl)
