use Rattle.std.proofs.Common.{◌≡◌, ℕ, List, Some, None, set, sym, ap, subst, ◌∙◌}
use Rattle.std.proofs.lemmas.Option.{same_Some, none-some}
use Rattle.aig_base.specs.declared.circuit.definition.Definition.TheVariants as definition
use Rattle.aig_parts.specs.declared.latch.Latch.{Latch}
use Rattle.aig_parts.specs.declared.raw.Raw.{Raw}
use Rattle.aig_base.specs.Changes.{with_reset}
use Rattle.aig_base.specs.Circuit.{IsCircuit}
use Rattle.aig_base.specs.Definition.{Defines}
use Rattle.aig_base.specs.Sections.{IsLatchLiteral}
use Rattle.aig_base.proofs.circuits.EntryPlaces.{latch_literal_defined}
use Rattle.aig_base.proofs.rewires.Rewiring.{reset_changed, with_reset-circuit, with_reset-describes}
use Rattle.aig_base.proofs.circuit.Circuit.replace_reset.Goals as goal

pub invariant_of-self : goal.invariant_of-self
invariant_of-self c =
    let raw = c.self.inside.raw in
    let back = sym c.self.view_is in
    let lit = c.args.latch in
    let x = c.index.result.now in
    let is = subst (λ (r : Raw). IsLatchLiteral r lit) back c.requires in
    let found = subst (λ (r : Raw). Defines r c.var.result c.in-Some.definition) back c.in-Some.ensures.found in
    let written = subst (λ (n : ℕ). c.set.new.self ≡ set raw.latches c.in-Latch.position
    (record { lit = lit; next = x.next; reset = n })) c.reset_for.ensures c.set.ensures in
    let e = reset_changed lit c.args.value raw c.self.invariant.0.sound is c.var.result c.in-Latch.position
    c.in-Some.definition x c.set.new.self c.var.ensures c.in-Latch.is found c.index.ensures written in
    rw e (
      with_reset-circuit lit c.args.value raw c.self.invariant.0,
      with_reset-describes lit c.args.value raw
          c.self.inside.definitions c.self.invariant.1,
      rw c.forget.ensures tt,
    )

pub returns-in-Latch : goal.returns-in-Latch
returns-in-Latch c =
    let raw = c.self.inside.raw in
    let back = sym c.self.view_is in
    let lit = c.args.latch in
    let x = c.index.result.now in
    let is = subst (λ (r : Raw). IsLatchLiteral r lit) back c.requires in
    let found = subst (λ (r : Raw). Defines r c.var.result c.in-Some.definition) back c.in-Some.ensures.found in
    let written = subst (λ (n : ℕ). c.set.new.self ≡ set raw.latches c.in-Latch.position
    (record { lit = lit; next = x.next; reset = n })) c.reset_for.ensures c.set.ensures in
    let e = reset_changed lit c.args.value raw c.self.invariant.0.sound is c.var.result c.in-Latch.position
    c.in-Some.definition x c.set.new.self c.var.ensures c.in-Latch.is found c.index.ensures written in
    ap (λ (xs : List Latch). let r : Raw = record raw { latches = xs } in r) e ∙ ap (λ
    (r : Raw). with_reset r lit c.args.value) c.self.view_is

pub returns-in_default-definition : goal.returns-in_default-definition
returns-in_default-definition c =
    let raw = c.args.self.now in
    let circuit = subst IsCircuit c.self.view_is c.self.invariant.0 in
    absurd (latch_literal_defined raw circuit.sound c.args.latch c.var.result c.requires c.var.ensures
    (Some c.in-Some.definition) c.in-Some.ensures.found tt
    (λ q e. c.in_default-definition.not-Latch q (same_Some c.in-Some.definition (definition.Latch q) e)))

pub returns-in_default : goal.returns-in_default
returns-in_default c =
    let raw = c.args.self.now in
    let circuit = subst IsCircuit c.self.view_is c.self.invariant.0 in
    absurd (latch_literal_defined raw circuit.sound c.args.latch c.var.result c.requires c.var.ensures None tt
    c.in_default.ensures.none
    (λ q e. none-some (definition.Latch q) e))
