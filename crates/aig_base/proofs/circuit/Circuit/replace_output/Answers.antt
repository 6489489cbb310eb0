use Rattle.std.proofs.Common.{sym, subst}
use Rattle.aig_parts.specs.declared.raw.Raw.{Raw}
use Rattle.aig_parts.specs.Literal.{variable}
use Rattle.aig_base.specs.Sections.{IsDefined}
use Rattle.aig_base.proofs.growth.Outputs.{with_output-circuit, with_output-describes}
use Rattle.aig_base.proofs.circuit.Circuit.replace_output.Goals as goal

pub invariant_of-self : goal.invariant_of-self
invariant_of-self c =
    let raw = c.self.inside.raw in
    let lit = c.args.lit in
    let defined = subst (λ (r : Raw). IsDefined r (variable lit)) (sym c.self.view_is) c.requires.defined in
    rw c.set.ensures (
      with_output-circuit raw c.args.position lit c.self.invariant.0 defined,
      with_output-describes raw c.args.position lit c.self.inside.definitions c.self.invariant.1,
      rw c.forget.ensures tt,
    )
