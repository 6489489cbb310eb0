use Rattle.std.proofs.Common.{ℕ, List, All, get_or, sym, subst}
use Rattle.std.proofs.lemmas.Option.{slice_get-get_or}
use Rattle.aig_base.specs.Sections.{IsGate}
use Rattle.aig_base.proofs.lists.Positions.{Contains-from_slice_get}
use Rattle.aig_values.specs.GateOrder.{AreGatesOf}
use Rattle.aig_bench.proofs.new_frames.GateLists.{canonical_list}
use Rattle.aig_bench.proofs.engine.sweep_order.Order.of.Goals as goal

pub gates_of-requires : goal.gates_of-requires
gates_of-requires c =
    let raw = c.args.circuit.now in
    let xs = c.in_ok-variables.variables.items in
    subst (All (IsGate raw)) (sym {A = List ℕ} c.deref.ensures.value) (λ k d lt.
    (c.in_ok-variables.ensures.gates (get_or xs k d)).0
    (Contains-from_slice_get xs k (get_or xs k d) (slice_get-get_or xs k d lt)))

pub returns-clause-orders : goal.returns-clause-orders
returns-clause-orders c =
    let raw = c.args.circuit.now in
    canonical_list raw c.in_ok-variables.variables.items c.in_ok-gates.gates.items c.facts.ensures
    c.in_ok-variables.ensures
    (subst (λ (vs : List ℕ). AreGatesOf raw vs c.in_ok-gates.gates.items) c.deref.ensures.value c.in_ok-gates.ensures)
