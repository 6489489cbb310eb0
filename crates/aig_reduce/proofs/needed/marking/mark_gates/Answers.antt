use Rattle.std.proofs.Common.{◌≡◌, ◌-◌, List, Bool, Some, slice_get, refl, subst, arith}
use Rattle.aig_parts.specs.Literal.{variable}
use Rattle.aig_base.specs.state.Marks.{IsMarked}
use Rattle.aig_base.proofs.circuits.Circuits.{rhs0_defined, rhs0_in_range, rhs1_defined, rhs1_in_range}
use Rattle.aig_base.proofs.lists.Items.{item_at}
use Rattle.aig_reduce.proofs.NeededLemmas.{rhs0_needed, rhs1_needed}
use Rattle.aig_reduce.proofs.needed.marking.mark_gates.Goals as goal

pub gates-init : goal.gates-init
gates-init g c = record { left = omega arith; added = λ property n. n }

pub mark_side-requires : goal.mark_side-requires
mark_side-requires g c =
    let raw = c.args.bench.now.pair.circuit in
    let left = c.gates.left - 1 in
    let gate = c.index-gates-left.result in
    let here : slice_get c.args.gates.now left ≡ Some gate =
    item_at _ _ left gate refl (omega (arith, c.gates.invariant.left, c.gates-test.true)) c.index-gates-left.is in
    let (q, at) = c.requires.gates left gate here in
    let fits = rhs1_in_range raw c.width.ensures.circuit.sound q gate at in
    record {
      frame = c.requires.frame;
      range = omega (arith, fits);
      defined = rhs1_defined raw c.width.ensures.circuit.sound q gate at;
    }

pub mark_side-requires-in-gates : goal.mark_side-requires-in-gates
mark_side-requires-in-gates g c =
    let raw = c.args.bench.now.pair.circuit in
    let left = c.gates.left - 1 in
    let gate = c.index-gates-left.result in
    let here : slice_get c.args.gates.now left ≡ Some gate =
    item_at _ _ left gate refl (omega (arith, c.gates.invariant.left, c.gates-test.true)) c.index-gates-left.is in
    let (q, at) = c.requires.gates left gate here in
    let fits = rhs0_in_range raw c.width.ensures.circuit.sound q gate at in
    record {
      frame = c.requires.frame;
      range = omega (arith, fits);
      defined = rhs0_defined raw c.width.ensures.circuit.sound q gate at;
    }

pub gates-preserved-then-not-is_marked : goal.gates-preserved-then-not-is_marked
gates-preserved-then-not-is_marked g c = record {
  left = omega (arith, c.gates.invariant.left);
  added = c.gates.invariant.added;
}

pub gates-preserved : goal.gates-preserved
gates-preserved g c =
    let p = c.args.bench.now.pair in
    let t = c.args.frame in
    let old = c.gates.marks.items in
    let left = c.gates.left - 1 in
    let x = c.index-gates-left.result in
    let here : slice_get c.args.gates.now left ≡ Some x =
    item_at _ _ left x refl (omega (arith, c.gates.invariant.left, c.gates-test.true)) c.index-gates-left.is in
    let (q, at) = c.requires.gates left x here in
    let marked : IsMarked old (variable x.lhs) =
    subst (λ (ms : List Bool). IsMarked ms (variable x.lhs)) c.deref.ensures.value
    (subst (IsMarked c.deref.result.now) c.var.ensures (c.is_marked.ensures c.if-not-is_marked.false)) in
    record {
      left = omega (arith, c.gates.invariant.left);
      added = λ property n.
          let now = c.gates.invariant.added property n in
          let lhs = now (variable x.lhs) marked in
          c.mark_side-in-gates.ensures property (λ _ denied.
          rhs1_needed p c.width.ensures.circuit c.width.ensures.rows property t q x c.requires.frame at lhs denied)
          (c.mark_side.ensures property (λ _ denied.
          rhs0_needed p c.width.ensures.circuit c.width.ensures.rows property t q x c.requires.frame at lhs denied) now);
    }

pub returns : goal.returns
returns g c = c.gates.invariant.added
