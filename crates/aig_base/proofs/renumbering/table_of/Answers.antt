use Rattle.std.proofs.Common.{◌∙◌, ℕ, List, IfOk, sym, subst}
use Rattle.aig_base.specs.Order.{IsCanonicalOrder}
use Rattle.aig_base.specs.RenumberingTable.{IsRenumbering}
use Rattle.aig_base.proofs.renumbering.table_of.Goals as goal

pub renumbered_variables-requires : goal.renumbered_variables-requires
renumbered_variables-requires c =
    subst (IsCanonicalOrder c.args.circuit.now) (sym (c.deref.ensures.value ∙ c.in_ok-order.ensures)) c.requires.order

pub returns : goal.returns
returns c =
    subst (λ (vs : List ℕ). IfOk c.renumbered_variables.result (λ table. IsRenumbering c.args.circuit.now vs table.items))
    (c.deref.ensures.value ∙ c.in_ok-order.ensures) c.renumbered_variables.ensures
