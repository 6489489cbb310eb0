use Rattle.std.proofs.Common.{sym, subst}
use Rattle.aig_parts.specs.declared.raw.Raw.{Raw}
use Rattle.aig_base.specs.Circuit.{IsCircuit}
use Rattle.aig_base.proofs.selections.SelectedCircuit.{selected-circuit}
use Rattle.aig_base.proofs.circuit.Circuit.select.Goals as goal

pub put_properties-requires : goal.put_properties-requires
put_properties-requires c =
    subst (λ (r : Raw). IsCircuit r) (sym c.in_ok-new.ensures)
    (selected-circuit c.args.self.now c.args.from c.args.into c.args.named.now c.max_var-max_var.ensures.circuit
    c.in_ok-test_selection.ensures.possible.1 c.in_ok-test_selection.ensures.possible.0)
