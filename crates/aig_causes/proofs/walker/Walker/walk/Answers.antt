use Rattle.std.proofs.Common.{inr, ◌≡◌, ◌<◌, ℕ, List, Contains, refl, sym, ap, ◌∙◌, subst, rules}
use Rattle.std.proofs.lemmas.List.Elements.{Contains-push}
use Rattle.aig_parts.specs.Literal.{variable}
use Rattle.aig_causes.specs.Causes.{moment}
use Rattle.aig_causes.specs.state.Walk.{IsReached, IsWalk, WalkState, steps_left, walk_of}
use Rattle.aig_causes.proofs.Walkers.{walker_kept}
use Rattle.aig_causes.proofs.Walks.{begun}
use Rattle.aig_causes.proofs.walker.Walker.walk.Goals as goal

pub loop-variable-init : goal.loop-variable-init
loop-variable-init g c =
    let p = c.args.bench.now.pair in
    let size = c.in_ok-begin.ensures.size ∙ c.weigh.ensures.size in
    record {
      walker = c.in_ok-begin.ensures.walker;
      size = size;
      walk = begun p.circuit (moment p c.args.frame) (walk_of c.begin.new.self) c.args.literals.now size c.requires.literals
          c.in_ok-begin.ensures.begins;
      reached = λ k h. inr (c.in_ok-begin.ensures.begins.queued k h);
    }

pub visit-requires : goal.visit-requires
visit-requires g c =
    let inv = c.loop-variable.invariant in
    record {
      walker = record {
        frame = c.requires.walker.frame;
        walker = walker_kept c.loop-variable.self _ inv.walker refl refl refl;
        size = inv.size;
      };
      variable = inv.walk.pending c.in-Some.variable
          (subst (λ (xs : List ℕ). Contains xs c.in-Some.variable) (sym c.in-Some.ensures.items)
          (Contains-push c.pop.new.self.items c.in-Some.variable));
    }

pub loop-variable-preserved : goal.loop-variable-preserved
loop-variable-preserved g c =
    let p = c.args.bench.now.pair in
    let inv = c.loop-variable.invariant in
    let goes = c.in_ok-visit.ensures.goes_on in
    let s = walk_of c.loop-variable.self in
    let is = ap (λ (xs : List ℕ). let t : WalkState = record s { todo = xs } in t) c.in-Some.ensures.items in
    record {
      walker = c.in_ok-visit.ensures.walker.walker;
      size = c.in_ok-visit.ensures.walker.size;
      walk = goes.walk (subst (IsWalk p.circuit (moment p c.args.frame)) is inv.walk);
      reached = λ k h.
          goes.reached (variable k) (subst (λ (t : WalkState). IsReached t (variable k)) is (inv.reached k h));
    }

pub loop-variable-smaller : goal.loop-variable-smaller
loop-variable-smaller g c =
    let s = walk_of c.loop-variable.self in
    let is = ap (λ (xs : List ℕ). let t : WalkState = record s { todo = xs } in t) c.in-Some.ensures.items in
    subst (λ (t : WalkState). steps_left (walk_of c.visit.new.self) < steps_left t) (sym is) c.in_ok-visit.ensures.fewer

pub returns-clause-walker : goal.returns-clause-walker
returns-clause-walker g c = record {
  frame = c.requires.walker.frame;
  walker = walker_kept c.loop-variable.self _ c.loop-variable.invariant.walker refl refl refl;
  size = c.loop-variable.invariant.size;
}

pub returns-clause-walk : goal.returns-clause-walk
returns-clause-walk g c =
    let p = c.args.bench.now.pair in
    let s = walk_of c.loop-variable.self in
    let none : c.loop-variable.self.todo.items ≡ c.pop.new.self.items = search rules in
    subst (λ (xs : List ℕ). IsWalk p.circuit (moment p c.args.frame) (record s { todo = xs })) none
    c.loop-variable.invariant.walk

pub returns-clause-reached : goal.returns-clause-reached
returns-clause-reached g c = λ k h.
    let s = walk_of c.loop-variable.self in
    let none : c.loop-variable.self.todo.items ≡ c.pop.new.self.items = search rules in
    subst (λ (xs : List ℕ). IsReached (record s { todo = xs }) (variable k)) none (c.loop-variable.invariant.reached k h)
