use Rattle.std.proofs.Common.{All, refl, sym, subst}
use Rattle.std.proofs.lemmas.Bool.{false≢true}
use Rattle.aig_parts.specs.declared.raw.Raw.{Raw}
use Rattle.aig_base.specs.Sections.{IsLatchLiteral}
use Rattle.aig_causes.specs.Causes.{moment}
use Rattle.aig_causes.specs.state.Asked.{AreLatchesOf}
use Rattle.aig_causes.proofs.OwnLatches.{all_latches, own_latches, themselves}
use Rattle.aig_causes.proofs.asked.ask.Goals as goal

pub returns-in_ok-causes-in-None-clause-alone : goal.returns-in_ok-causes-in-None-clause-alone
returns-in_ok-causes-in-None-clause-alone g c = (
  λ h. absurd (false≢true h),
  λ all.
      let none : All (IsLatchLiteral c.circuit.result.now) c.args.literals.now → ⊥ =
      rw c.in-None.is at c.in_ok-latches.ensures.none in
      absurd (none (subst (λ (r : Raw). All (IsLatchLiteral r) c.args.literals.now) (sym c.circuit.ensures) all)),
)

pub returns-in-Some : goal.returns-in-Some
returns-in-Some g c =
    let p = c.args.bench.now.pair in
    let literals = c.args.literals.now in
    let latches = c.in-Some.latches.items in
    let found : AreLatchesOf c.circuit.result.now literals latches = rw c.in-Some.is at c.in_ok-latches.ensures.some in
    let own : AreLatchesOf p.circuit literals latches =
    subst (λ (r : Raw). AreLatchesOf r literals latches) c.circuit.ensures found in
    let asked = c.of_latches.result in
    let made = c.of_latches.ensures in
    record {
      asked = own_latches p.circuit literals latches own asked made.inputs made.latches made.order (moment p c.args.frame);
      alone = (
        λ _. all_latches p.circuit literals latches own asked made.inputs made.latches made.order,
        λ _. refl,
      );
      themselves = λ _. themselves p.circuit literals latches own asked made.inputs made.latches made.order;
      size = refl;
    }
