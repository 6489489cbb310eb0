use Rattle.std.proofs.Common.{take, get_or, arith}
use Rattle.std.proofs.lemmas.List.{take_more}
use Rattle.aig_base.proofs.rewires.Searches.{looks_more}
use Rattle.aig_base.proofs.rewires.VisitLemmas.{among_more, among_same, among_wider, Contains-of_take}
use Rattle.aig_base.proofs.level.transitive_fan_out.visit_below.Goals as goal
use Rattle.aig_base.proofs.level.transitive_fan_out.visit_below.Goals.{then-levels-reader, else-levels-reader}

pub returns-then-reader-sought-clause-among : goal.returns-then-reader-sought-clause-among
returns-then-reader-sought-clause-among c =
    let i = c.loop-reader.reader-index in
    among_wider (take i c.args.list.now) c.args.list.now c.args.visits.now c.loop-reader.visits
    (Contains-of_take i c.args.list.now) c.loop-reader.invariant.among

pub loop-reader-preserved : goal.loop-reader-preserved
loop-reader-preserved c =
    let xs = c.args.list.now in
    let i = c.loop-reader.reader-index in
    let v = get_or xs i 0 in
    let old = c.loop-reader.visits in
    rw (take_more xs i 0 c.loop-reader-test.true)
    (elim c.if-levels-reader.branch [
      | then-levels-reader w ↦
          rw w.visits-is (record {
            among = among_more (take i xs) v c.args.visits.now old w.visit.new.self c.loop-reader.invariant.among
                w.visit.ensures.among;
            looked = looks_more (take i xs) c.args.levels.now v c.args.sought.first c.args.sought.second
                c.args.sought.bound
                old w.visit.new.self c.if-reader-sought.false c.if-reader-sought-2.false w.visit.ensures.among.kept
                (λ lt. w.visit.ensures.visited) c.loop-reader.invariant.looked;
          })
      | else-levels-reader w ↦
          rw w.visits-is (record {
            among = among_more (take i xs) v c.args.visits.now old old c.loop-reader.invariant.among (among_same _ old);
            looked = looks_more (take i xs) c.args.levels.now v c.args.sought.first c.args.sought.second
                c.args.sought.bound
                old old c.if-reader-sought.false c.if-reader-sought-2.false (λ u h. h)
                (λ lt. absurd (let no = w.if-levels-reader.false in omega arith)) c.loop-reader.invariant.looked;
          })
    ])
