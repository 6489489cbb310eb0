use Rattle.std.proofs.Common.{ℕ, ◌∙◌, ap, refl, arith}
use Rattle.std.proofs.lemmas.List.{drop_all, get_or_default}
use Rattle.aig_base.specs.Renumbered.{ready_gate}
use Rattle.aig_certificate.proofs.ChainGates.{link_start, link_more, link_all}
use Rattle.aig_certificate.proofs.parts.push_chain.Goals as goal

pub loop-literal-init : goal.loop-literal-init
loop-literal-init c = record {
  variable = omega arith;
  linked = link_start c.args.first c.args.start c.args.literals.now c.args.gates.now c.args.first c.args.start c.args.gates.now
      refl refl refl;
}

pub overflow_mul-variable : goal.overflow_mul-variable
overflow_mul-variable c = omega (arith, c.requires, c.loop-literal.invariant.variable, c.loop-literal-test.true)

pub loop-literal-preserved : goal.loop-literal-preserved
loop-literal-preserved c = record {
  variable = omega (arith, c.loop-literal.invariant.variable);
  linked =
      link_more c.args.first c.args.start c.args.literals.now c.args.gates.now c.loop-literal.literal-index
      c.loop-literal.variable c.loop-literal.last c.literal-item.result c.new-gate.result c.loop-literal.gates c.push.new.self
      c.ready_gate.result c.loop-literal-test.true
      (c.literal-item.is ∙ get_or_default c.args.literals.now c.loop-literal.literal-index c.literal-item.result 0 c.loop-literal-test.true)
      c.new-gate.ensures
      (c.ready_gate.ensures ∙ ap (λ (n : ℕ). ready_gate c.new-gate.result n c.loop-literal.last) c.not.ensures)
      c.in_ok-push.ensures.ok c.loop-literal.invariant.linked;
}

pub returns : goal.returns
returns c =
    let all = link_all c.args.first c.args.start c.args.literals.now c.args.gates.now c.loop-literal.literal-index
    c.loop-literal.variable c.loop-literal.last c.loop-literal.gates
    (drop_all c.loop-literal.literal-index c.args.literals.now c.loop-literal-test.false) c.loop-literal.invariant.linked in
    record { gates = all.0; end = all.1 }
