use Rattle.std.proofs.Common.{◌≡◌, ◌-◌, ◌/◌, ◌<◌, ◌∷◌, [], suc, ℕ, List, Some, length, slice_get, refl, sym, subst, ◌∙◌}
use Rattle.std.proofs.Common.{All, arith, rules}
use Rattle.std.proofs.lemmas.Option.{slice_get_read}
use Rattle.aig_parts.specs.declared.gate.Gate.{Gate}
use Rattle.aig_base.specs.state.Marks.{IsGateBelow, IsMarking}
use Rattle.aig_base.proofs.lists.Chains.{length-sides}
use Rattle.aig_base.proofs.lists.Joined.{All-left}
use Rattle.aig_base.proofs.checks.Marking.{moves_then, take_pending}
use Rattle.aig_base.proofs.check.grounded.Marking.close.Goals as goal

pub bounds-gates-position : goal.bounds-gates-position
bounds-gates-position c =
    omega (
      arith,
      c.requires.readers.size,
      length-sides c.args.gates.now,
      c.loop-link.invariant.within,
      c.loop-link-test.true,
    )

pub visit-requires : goal.visit-requires
visit-requires c =
    let gates = c.args.gates.now in
    let q = (c.loop-link.link - 1) / 2 in
    let within : q < length gates =
    omega (
      arith,
      c.requires.readers.size,
      length-sides c.args.gates.now,
      c.loop-link.invariant.within,
      c.loop-link-test.true,
    ) in
    let size = c.loop-link.invariant.moves.size ∙ c.loop-variable.invariant.size in
    let here = subst (λ (g : Gate). IsGateBelow (length c.args.self.now.walk.met.items) g)
    (sym c.index-gates-position.is)
    (c.requires.gates q c.index-gates-position.result within) in
    record {
      gate = subst (λ (n : ℕ). IsGateBelow n c.index-gates-position.result) (sym size) here;
      levels = c.loop-link.invariant.levels ∙ c.loop-variable.invariant.levels ∙ c.requires.levels ∙ sym size;
    }

pub loop-link-preserved : goal.loop-link-preserved
loop-link-preserved c =
    let gates = c.args.gates.now in
    let next = c.args.readers.now.next.items in
    let p = c.loop-link.link - 1 in
    let gate = c.index-gates-position.result in
    let i = c.loop-link.invariant in
    let within : p / 2 < length gates =
    omega (
      arith,
      c.requires.readers.size,
      length-sides c.args.gates.now,
      c.loop-link.invariant.within,
      c.loop-link-test.true,
    ) in
    let at = slice_get_read gates _ (p / 2) gate refl within c.index-gates-position.is in
    let link : c.loop-link.link ≡ suc p = omega (arith, c.loop-link-test.true) in
    record {
      moves = moves_then i.moves c.in_ok-visit.ensures.moves;
      levels = search rules;
      within = omega (arith, c.requires.readers.falls p c.next-link.result c.next-link.ensures, i.within);
      marking = λ raw same begun.
          c.in_ok-visit.ensures.marking raw next p c.next-link.result
          (subst (λ gs. slice_get gs (p / 2) ≡ Some gate) (sym same) at) c.next-link.ensures
          (subst (λ n. IsMarking raw next n c.loop-link.self.walk.met.items c.loop-link.self.walk.pending.items
          c.loop-link.levels) link
          (i.marking raw same begun));
    }

pub loop-variable-preserved : goal.loop-variable-preserved
loop-variable-preserved c =
    let marks = c.loop-variable.self.walk.met.items in
    let pending = c.loop-variable.self.walk.pending.items in
    let next = c.args.readers.now.next.items in
    let rest = c.pop.new.self.items in
    let v = c.in-Some.variable in
    let i = c.loop-variable.invariant in
    let visits = c.loop-link.invariant in
    let is = c.in-Some.ensures.items in
    let below = subst (λ (us : List ℕ). All (λ u. u < length marks) us) is i.below in
    let none : c.loop-link.link ≡ 0 = omega (arith, c.loop-link-test.false) in
    record {
      size = visits.moves.size ∙ i.size;
      levels = visits.levels ∙ i.levels;
      below = visits.moves.below (All-left (λ u. u < length marks) rest (v ∷ []) below);
      kept = λ u h. visits.moves.kept u (i.kept u h);
      marking = λ raw same begun.
          subst (λ n. IsMarking raw next n c.loop-link.self.walk.met.items c.loop-link.self.walk.pending.items
          c.loop-link.levels) none
          (visits.marking raw same
          (take_pending raw c.args.gates.now c.args.readers.now.first.items next v
          c.first-link.result marks pending rest c.loop-variable.levels
          c.requires.readers same c.first-link.ensures is (i.marking raw same begun)));
    }

pub returns-clause-marking : goal.returns-clause-marking
returns-clause-marking c = λ raw same begun.
    let none : c.loop-variable.self.walk.pending.items ≡ c.pop.new.self.items = search rules in
    subst (λ us. IsMarking raw c.args.readers.now.next.items 0 c.loop-variable.self.walk.met.items us
    c.loop-variable.levels) none (c.loop-variable.invariant.marking raw same begun)
