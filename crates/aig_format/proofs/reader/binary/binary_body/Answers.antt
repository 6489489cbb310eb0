use Rattle.std.proofs.Common.{ℕ, ◌≡◌, ◌+◌, refl, ap, length, subst, sym, ◌∙◌, arith}
use Rattle.aig_parts.specs.declared.latch.Latch.{Latch}
use Rattle.aig_base.specs.Renumbered.{evens}
use Rattle.aig_format.specs.state.Fits.{FitsFrom, IsImplicitGate}
use Rattle.aig_format.proofs.BinaryLaws.{ready_from}
use Rattle.aig_format.proofs.Evens.{HasEven, length_evens}
use Rattle.aig_format.proofs.Sizes.{parts_formed}
use Rattle.aig_format.proofs.reader.binary.binary_body.Goals as goal

pub returns-clause-formed : goal.returns-clause-formed
returns-clause-formed g c =
    parts_formed c.args.counts.now _ c.requires.within refl
    (ap length c.in_ok-inputs.ensures.literals ∙ length_evens 1 c.args.counts.now.inputs)
    c.in_ok-latches.ensures.count c.in_ok-properties.ensures.counts c.in_ok-gates.ensures.count
    c.in_ok-names.ensures.symbols

pub returns-clause-ready : goal.returns-clause-ready
returns-clause-ready g c =
    let counts = c.args.counts.now in
    let literals = c.in_ok-inputs.ensures.literals in
    let inputs : length c.in_ok-inputs.inputs ≡ counts.inputs = ap length literals ∙ length_evens 1 counts.inputs in
    let latches = c.in_ok-latches.ensures in
    let gates = c.in_ok-gates.ensures in
    let first : counts.inputs + 1 ≡ length c.in_ok-inputs.inputs + 1 = omega arith in
    let second : counts.inputs + counts.latches + 1
    ≡ length c.in_ok-inputs.inputs + length c.in_ok-latches.latches + 1 = omega (arith, latches.count) in
    ready_from _ (literals ∙ ap evens (sym inputs))
    (subst (λ (v : ℕ). FitsFrom (HasEven (λ (x : Latch). x.lit)) v c.in_ok-latches.latches) first latches.fits)
    (subst (λ (v : ℕ). FitsFrom IsImplicitGate v c.in_ok-gates.gates) second gates.fits)
    (omega (arith, c.requires.exact, latches.count, gates.count))
