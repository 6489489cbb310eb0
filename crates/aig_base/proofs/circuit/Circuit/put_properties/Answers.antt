use Rattle.std.proofs.Common.{sym, subst}
use Rattle.std.proofs.lemmas.Option.{IfSome_then}
use Rattle.aig_parts.specs.declared.raw.Raw.{Raw}
use Rattle.aig_base.specs.Circuit.{IsCircuit}
use Rattle.aig_base.specs.Selected.{with_properties}
use Rattle.aig_base.proofs.selections.SelectedCircuit.{with_properties-describes, with_properties-levels}
use Rattle.aig_base.proofs.circuit.Circuit.put_properties.Goals as goal

pub invariant_of-self : goal.invariant_of-self
invariant_of-self c =
    let raw = c.self.inside.raw in
    let new = c.args.new in
    let circuit = subst (λ (r : Raw). IsCircuit (with_properties r new.outputs new.bad new.symbols)) (sym c.self.view_is) c.requires in
    rw (c.new.ensures, c.new-2.ensures) (
      circuit,
      with_properties-describes raw new.outputs new.bad new.symbols c.self.inside.definitions c.self.invariant.1,
      IfSome_then c.self.inside.levels c.self.invariant.2
          (λ levels h. with_properties-levels raw new.outputs new.bad new.symbols levels.items h),
    )
