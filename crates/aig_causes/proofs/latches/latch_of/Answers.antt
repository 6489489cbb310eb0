use Rattle.std.proofs.Common.{◌≡◌, ℕ, ◌%◌, Option, Some, IfNone, IfSome, arith}
use Rattle.aig_parts.specs.Literal.{variable}
use Rattle.aig_parts.specs.declared.latch.Latch.{Latch}
use Rattle.aig_parts.specs.declared.raw.Raw.{Raw}
use Rattle.aig_base.specs.Definition.{Defines, IsFree}
use Rattle.aig_base.specs.Sections.{IsLatchLiteral}
use Rattle.aig_base.specs.Sound.{IsSound}
use Rattle.aig_base.specs.declared.circuit.definition.Definition.{Definition}
use Rattle.aig_base.specs.declared.circuit.definition.Definition.TheVariants as definition
use Rattle.aig_base.proofs.circuits.Circuits.{latch_definition}
use Rattle.aig_base.proofs.circuits.Defined.{even}
use Rattle.aig_base.proofs.circuits.EntryPlaces.{latch_literal_defined}
use Rattle.aig_base.proofs.lists.Positions.{unmap}
use Rattle.aig_causes.proofs.latches.latch_of.Goals as goal

not_latch : (raw : Raw) → IsSound raw → (l v : ℕ) (d : Option Definition) → v ≡ variable l → IfSome d (Defines raw v)
    → IfNone d (IsFree raw v) → ((p : ℕ) → d ≡ Some (definition.Latch p) → ⊥) → IsLatchLiteral raw l → ⊥
not_latch raw sound l v d e found none other h = latch_literal_defined raw sound l v h e d found none other

pub returns-then-is_neg-clause-none : goal.returns-then-is_neg-clause-none
returns-then-is_neg-clause-none c = λ h.
    let raw = c.args.circuit.now in
    let (x, p, at, is) = unmap (λ (x : Latch). x.lit) raw.latches c.args.literal h in
    let positive = latch_definition raw c.facts.ensures.sound p x at in
    let odd : c.args.literal % 2 ≡ 1 = c.is_neg.ensures.0 c.if-is_neg.true in
    omega (arith, positive.0, odd, is)

pub returns-in-Some-Latch-clause-some : goal.returns-in-Some-Latch-clause-some
returns-in-Some-Latch-clause-some c =
    let raw = c.args.circuit.now in
    let defines : Defines raw c.var.result (definition.Latch c.in-Some-Latch.position) =
    rw c.in-Some-Latch.field-0-is at c.in-Some-Latch.ensures.found in
    let (x, at, is) = defines in
    let same = even x.lit (latch_definition raw c.facts.ensures.sound c.in-Some-Latch.position x at) in
    let positive : c.args.literal % 2 ≡ 1 → ⊥ = λ e. let t = c.is_neg.ensures.1 e in let no : ⊥ = cc in no in
    (x, at, omega (arith, same, positive, is, c.var.ensures))

pub returns-in-Some-Input-clause-none : goal.returns-in-Some-Input-clause-none
returns-in-Some-Input-clause-none c =
    not_latch c.args.circuit.now c.facts.ensures.sound c.args.literal c.var.result c.definition.result c.var.ensures
    c.definition.ensures.found c.definition.ensures.none (λ q e. cc)

pub returns-in-Some-Gate-clause-none : goal.returns-in-Some-Gate-clause-none
returns-in-Some-Gate-clause-none c =
    not_latch c.args.circuit.now c.facts.ensures.sound c.args.literal c.var.result c.definition.result c.var.ensures
    c.definition.ensures.found c.definition.ensures.none (λ q e. cc)

pub returns-in-None-clause-none : goal.returns-in-None-clause-none
returns-in-None-clause-none c =
    not_latch c.args.circuit.now c.facts.ensures.sound c.args.literal c.var.result c.definition.result c.var.ensures
    c.definition.ensures.found c.definition.ensures.none (λ q e. cc)
