use Rattle.std.proofs.Common.{inr, refl, arith}
use Rattle.aig_reduce.proofs.Clearings.{up_to_then}
use Rattle.aig_reduce.proofs.reducer.Reducer.clear.Goals as goal

pub loop-step-init : goal.loop-step-init
loop-step-init c = record {
  clearing = λ raw given first e h. h;
  undoes = λ raw given first was e h u. u;
  on = inr (refl, omega arith);
}

pub clear_next-place-requires : goal.clear_next-place-requires
clear_next-place-requires c =
    let (raw, given, first, e, h) = c.requires.clearing in
    record { clearing = (raw, given, first, e, c.loop-step.invariant.clearing raw given first e h) }

pub loop-step-preserved : goal.loop-step-preserved
loop-step-preserved c =
    let i = c.loop-step.invariant in
    record {
      clearing = λ raw given first e h. c.clear_next-place.ensures.clearing raw given first e (i.clearing raw given first e h);
      undoes = λ raw given first was e h u.
          c.clear_next-place.ensures.undoes raw given first was e (i.clearing raw given first e h)
          (i.undoes raw given first was e h u);
      on = up_to_then c.args.from.list c.args.from.position c.loop-step.place.list c.loop-step.place.position _ _ i.on
          c.clear_next-place.ensures.on;
    }

pub returns-clause-clearing : goal.returns-clause-clearing
returns-clause-clearing c = c.loop-step.invariant.clearing

pub returns-clause-undoes : goal.returns-clause-undoes
returns-clause-undoes c = c.loop-step.invariant.undoes

pub returns-clause-on : goal.returns-clause-on
returns-clause-on c = c.loop-step.invariant.on
