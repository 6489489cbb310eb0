use Rattle.std.proofs.Common.{◌≡◌, ◌+◌, ℕ, All, IfSome, length, refl, sym, ◌∙◌, subst}
use Rattle.aig_parts.specs.declared.raw.Raw.{Raw}
use Rattle.aig_parts.specs.declared.gate.Gate.{Gate}
use Rattle.std.proofs.Common.{List}
use Rattle.aig_values.specs.Cells.{HasVariablesBelow}
use Rattle.aig_causes.proofs.Walkers.{in_turn, walker_more}
use Rattle.aig_causes.proofs.Walks.{gates_below}
use Rattle.aig_causes.proofs.walker.Walker.weigh.Goals as goal

pub weigh-requires : goal.weigh-requires
weigh-requires g c =
    let p = c.args.bench.now.pair in
    let order = c.args.self.now.order in
    let n = length c.args.self.now.weights.items in
    let size : n ≡ p.circuit.max_var + 1 = c.requires.walker.weights ∙ c.requires.size in
    let listed : IfSome order (All (HasVariablesBelow n)) =
    subst (λ (k : ℕ). IfSome order (All (HasVariablesBelow k))) (sym c.requires.walker.weights) c.requires.walker.gates in
    let all : All (HasVariablesBelow n) p.circuit.gates =
    subst (λ (k : ℕ). All (HasVariablesBelow k) p.circuit.gates) (sym size) (gates_below p.circuit c.width-self.ensures.circuit) in
    record {
      frame = c.requires.frame;
      gates = subst (λ (gs : List Gate). All (HasVariablesBelow n) gs) (sym c.gates_in_turn.ensures)
          (in_turn (HasVariablesBelow n) order c.circuit.result.now.gates listed
          (subst (λ (r : Raw). All (HasVariablesBelow n) r.gates) (sym c.circuit.ensures) all));
      size = size;
    }

pub returns : goal.returns
returns g c = record {
  frame = c.requires.frame;
  walker = walker_more c.args.self.now _ c.requires.walker c.requires.walker.earlier refl c.weigh.ensures refl;
  size = c.requires.size;
}
