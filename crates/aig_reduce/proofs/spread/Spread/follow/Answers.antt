use Rattle.std.proofs.Common.{ap, sym, ◌∙◌, subst, ◌≡◌, ℕ, ◌⊎◌, arith}
use Rattle.aig_parts.specs.Literal.{variable}
use Rattle.aig_base.proofs.circuits.Circuits.{rhs0_defined, rhs0_in_range, rhs1_defined, rhs1_in_range}
use Rattle.aig_reduce.specs.state.Needed.{IsListed}
use Rattle.aig_reduce.proofs.NeededLemmas.{met_follows, other_follows, rhs0_follows, rhs1_follows}
use Rattle.aig_reduce.proofs.spread.Spread.follow.Goals as goal

pub passes-requires : goal.passes-requires
passes-requires g c =
    let raw = c.args.bench.now.pair.circuit in
    let (q, at) = c.requires.gate in
    let fits = rhs1_in_range raw c.width.ensures.circuit.sound q c.args.gate at in
    record {
      frame = c.requires.frame;
      range = omega (arith, fits);
      defined = rhs1_defined raw c.width.ensures.circuit.sound q c.args.gate at;
    }

pub returns-then-passes : goal.returns-then-passes
returns-then-passes g c = λ property m i all.
    let p = c.args.bench.now.pair in
    let (q, at) = c.requires.gate in
    let x = c.args.gate in
    let old = c.args.self.now.list.items in
    let (one, other) = c.passes.ensures c.if-passes.true in
    met_follows p property c.args.frame m i (variable x.lhs) old c.meet.new.self.list.items
    (subst (λ (v : ℕ). (u : ℕ) → IsListed c.meet.new.self.list.items u → IsListed old u ⊎ (u ≡ v)) c.var.ensures c.meet.ensures)
    (rhs0_follows p c.width.ensures.circuit c.width.ensures.rows property c.args.frame q m i x c.requires.frame at
    (all (variable x.rhs0) one) (other_follows p property c.args.frame m i (variable x.rhs1) x.rhs1 old all other)) all

pub passes-requires-2 : goal.passes-requires-2
passes-requires-2 g c =
    let raw = c.args.bench.now.pair.circuit in
    let (q, at) = c.requires.gate in
    let fits = rhs0_in_range raw c.width.ensures.circuit.sound q c.args.gate at in
    record {
      frame = c.requires.frame;
      range = omega (arith, fits);
      defined = rhs0_defined raw c.width.ensures.circuit.sound q c.args.gate at;
    }

pub returns-then-passes-2 : goal.returns-then-passes-2
returns-then-passes-2 g c = λ property m i all.
    let p = c.args.bench.now.pair in
    let (q, at) = c.requires.gate in
    let x = c.args.gate in
    let old = c.args.self.now.list.items in
    let new = c.meet-then-passes-2.new.self.list.items in
    let (one, other) = c.passes-2.ensures c.if-passes-2.true in
    met_follows p property c.args.frame m i (variable x.lhs) old new
    (subst (λ (v : ℕ). (u : ℕ) → IsListed new u → IsListed old u ⊎ (u ≡ v)) c.var-then-passes-2.ensures
    c.meet-then-passes-2.ensures)
    (rhs1_follows p c.width.ensures.circuit c.width.ensures.rows property c.args.frame q m i x c.requires.frame at
    (all (variable x.rhs1) one) (other_follows p property c.args.frame m i (variable x.rhs0) x.rhs0 old all other)) all
