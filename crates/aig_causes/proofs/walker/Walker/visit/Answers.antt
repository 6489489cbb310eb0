use Rattle.std.proofs.Common.{refl, sym, ◌∙◌, ap, length}
use Rattle.std.proofs.lemmas.Bool.{false≢true}
use Rattle.std.proofs.lemmas.List.{length-set}
use Rattle.aig_causes.specs.declared.visited.Visited.{Visited}
use Rattle.aig_causes.specs.Causes.{moment}
use Rattle.aig_causes.specs.state.Walk.{walk_of}
use Rattle.aig_causes.proofs.Walkers.{walker_more}
use Rattle.aig_causes.proofs.Walks.{again, again_fewer, first, first_fewer}
use Rattle.aig_causes.proofs.walker.Walker.visit.Goals as goal

pub returns-then-has-clause-goes_on : goal.returns-then-has-clause-goes_on
returns-then-has-clause-goes_on g c =
    again c.args.bench.now.pair.circuit (moment c.args.bench.now.pair c.args.frame) (walk_of c.args.self.now) c.args.variable
    (c.has.ensures.0 c.if-has.true)

pub returns-then-has-clause-fewer : goal.returns-then-has-clause-fewer
returns-then-has-clause-fewer g c =
    again_fewer c.args.bench.now.pair.circuit (moment c.args.bench.now.pair c.args.frame) (walk_of c.args.self.now)
    c.args.variable

pub go_on-requires : goal.go_on-requires
go_on-requires g c = record {
  frame = c.requires.walker.frame;
  walker = walker_more c.args.self.now (record c.args.self.now { visited = c.add.new.self }) c.requires.walker.walker
      (c.add.ensures.earlier c.requires.walker.walker.earlier)
      (ap length c.add.ensures.marks ∙ length-set c.args.self.now.visited.marks.items c.args.variable c.args.self.now.visited.number)
      refl refl;
  size = ap length c.add.ensures.marks
      ∙ length-set c.args.self.now.visited.marks.items c.args.variable c.args.self.now.visited.number ∙ c.requires.walker.size;
}

pub returns-clause-goes_on : goal.returns-clause-goes_on
returns-clause-goes_on g c =
    let p = c.args.bench.now.pair in
    let mid = record c.args.self.now { visited = c.add.new.self } in
    first p.circuit (moment p c.args.frame) (walk_of c.args.self.now) (walk_of c.go_on.new.self) c.args.variable
    c.requires.variable (ap (λ (v : Visited). v.marks.items) c.in_ok-go_on.ensures.visited ∙ c.add.ensures.marks)
    (ap (λ (v : Visited). v.number) c.in_ok-go_on.ensures.visited ∙ c.add.ensures.number) (walk_of mid) refl refl
    c.in_ok-go_on.ensures.leads

pub returns-clause-fewer : goal.returns-clause-fewer
returns-clause-fewer g c =
    let p = c.args.bench.now.pair in
    let mid = record c.args.self.now { visited = c.add.new.self } in
    first_fewer p.circuit (moment p c.args.frame) (walk_of c.args.self.now) (walk_of c.go_on.new.self) c.args.variable
    c.requires.variable (ap (λ (v : Visited). v.marks.items) c.in_ok-go_on.ensures.visited ∙ c.add.ensures.marks)
    (ap (λ (v : Visited). v.number) c.in_ok-go_on.ensures.visited ∙ c.add.ensures.number) (walk_of mid) refl refl
    c.in_ok-go_on.ensures.leads (λ h. false≢true (sym c.if-has.false ∙ c.has.ensures.1 h))
