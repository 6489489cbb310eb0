use Rattle.std.proofs.Common.{◌≡◌, refl, arith}
use Rattle.aig_c.proofs.EditLemmas.{none_so_far, one_more, stopped}
use Rattle.aig_c.proofs.live.many.run.Goals as goal

pub loop-i-init : goal.loop-i-init
loop-i-init c = record {
  count = refl;
  done = none_so_far c.args.bench.now c.args.entries.now (record { evaluated = 0; changed = 0 }) refl refl;
}

pub loop-i-preserved : goal.loop-i-preserved
loop-i-preserved c =
    let zero : c.step-status.result ≡ 0 = omega (arith, c.if-status-ne-DONE.false) in
    record {
      count = refl;
      done = one_more c.args.bench.now c.args.entries.now c.loop-i.i _ c.loop-i.sum c.step-status.new.sum c.loop-i.bench
          c.step-status.new.bench c.loop-i.invariant.done c.loop-i-test.true (c.step-status.ensures.done zero);
    }

pub returns-then-status-ne-DONE-clause-runs : goal.returns-then-status-ne-DONE-clause-runs
returns-then-status-ne-DONE-clause-runs c =
    stopped c.args.bench.now c.args.entries.now c.loop-i.i c.loop-i.done c.step-status.result _ c.loop-i.sum c.step-status.new.sum
    c.loop-i.bench c.step-status.new.bench c.loop-i.invariant.done c.loop-i.invariant.count c.loop-i-test.true
    c.if-status-ne-DONE.true (c.step-status.ensures.kept c.if-status-ne-DONE.true)
    (c.step-status.ensures.refused c.if-status-ne-DONE.true)
