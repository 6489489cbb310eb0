use Rattle.std.proofs.Common.{◌≤◌, Contains, refl, sym, ◌∙◌, subst}
use Rattle.std.proofs.lemmas.List.Elements.{All-contains}
use Rattle.aig_parts.specs.Literal.{variable}
use Rattle.aig_base.specs.Sections.{IsDefined}
use Rattle.aig_base.proofs.lists.Gets.{All-by_get, Contains-from_get}
use Rattle.aig_causes.specs.Causes.{Explain, ExplainUnknown, Sources, moment}
use Rattle.aig_causes.specs.state.Walk.{walk_of}
use Rattle.aig_causes.proofs.Laws.{explain_more, explain_unknown_more, explains, explains_unknown}
use Rattle.aig_causes.proofs.Walkers.{walker_kept}
use Rattle.aig_causes.proofs.explainer.Explainer.causes.Goals as goal

pub walk-requires : goal.walk-requires
walk-requires g c = record {
  walker = record {
    frame = c.requires.frame;
    walker = walker_kept c.self.inside.walker _ c.self.invariant refl refl refl;
    size = c.self.view_is ∙ c.requires.size;
  };
  literals = λ l h.
      All-contains (λ k. variable k ≤ c.args.bench.now.pair.circuit.max_var) c.args.literals.now l c.requires.range h;
}

pub returns-clause-known : goal.returns-clause-known
returns-clause-known g c =
    let p = c.args.bench.now.pair in
    let m = moment p c.args.frame in
    let literals = c.args.literals.now in
    let found = c.walk.new.self.found in
    let sorted = c.sort.new.self in
    let value = c.replace-causes.ensures.value in
    All-by_get (λ l. Explain p.circuit m sorted l) literals (λ k l at.
    let inside = Contains-from_get literals k l at in
    explain_more p.circuit m found sorted
    (λ q h. (c.sort.ensures.inputs q).1 (subst (λ (z : Sources). Contains z.inputs q) (sym value) h))
    (λ q h. (c.sort.ensures.latches q).1 (subst (λ (z : Sources). Contains z.latches q) (sym value) h)) l
    (explains p.circuit c.width.ensures.circuit m (walk_of c.walk.new.self) c.in_ok-walk.ensures.walk c.in_ok-walk.ensures.done l
    (All-contains (λ j. IsDefined p.circuit (variable j)) literals l c.requires.defined inside)
    (c.in_ok-walk.ensures.reached l inside)))

pub returns-clause-unknown : goal.returns-clause-unknown
returns-clause-unknown g c =
    let p = c.args.bench.now.pair in
    let m = moment p c.args.frame in
    let literals = c.args.literals.now in
    let found = c.walk.new.self.found in
    let sorted = c.sort.new.self in
    let value = c.replace-causes.ensures.value in
    All-by_get (λ l. ExplainUnknown p.circuit m sorted l) literals (λ k l at.
    let inside = Contains-from_get literals k l at in
    explain_unknown_more p.circuit m found sorted
    (λ q h. (c.sort.ensures.inputs q).1 (subst (λ (z : Sources). Contains z.inputs q) (sym value) h))
    (λ q h. (c.sort.ensures.latches q).1 (subst (λ (z : Sources). Contains z.latches q) (sym value) h)) l
    (explains_unknown p.circuit c.width.ensures.circuit m (walk_of c.walk.new.self) c.in_ok-walk.ensures.walk
    c.in_ok-walk.ensures.done l
    (All-contains (λ j. IsDefined p.circuit (variable j)) literals l c.requires.defined inside)
    (c.in_ok-walk.ensures.reached l inside)))

pub returns-clause-there : goal.returns-clause-there
returns-clause-there g c =
    let value = c.replace-causes.ensures.value in
    let walk = c.in_ok-walk.ensures.walk in
    record {
      inputs = λ q h.
          walk.inputs q (subst (λ (z : Sources). Contains z.inputs q) value ((c.sort.ensures.inputs q).0 h));
      latches = λ q h.
          walk.latches q (subst (λ (z : Sources). Contains z.latches q) value ((c.sort.ensures.latches q).0 h));
    }

pub returns-clause-size : goal.returns-clause-size
returns-clause-size g c = c.in_ok-walk.ensures.walker.size ∙ sym c.requires.size

pub returns-in_err-walk-clause-size : goal.returns-in_err-walk-clause-size
returns-in_err-walk-clause-size g c = c.in_err-walk.ensures.walker.size ∙ sym c.requires.size
