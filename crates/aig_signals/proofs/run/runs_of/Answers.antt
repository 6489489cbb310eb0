use Rattle.std.proofs.Common.{◌-◌, length, arith}
use Rattle.aig_signals.specs.Names.{literals_of}
use Rattle.aig_signals.proofs.RunLemmas.{runs_start, runs_more}
use Rattle.aig_signals.proofs.run.runs_of.Goals as goal

pub loop-position-init : goal.loop-position-init
loop-position-init c =
    let n = length (literals_of c.args.circuit.now c.args.kind) in
    record {
      within = omega (arith, c.count_of-position.ensures.count);
      runs = runs_start c.args.circuit.now c.args.kind c.count_of-position.result n _ c.count_of-position.ensures.count c.new-runs.ensures.items;
    }

pub loop-position-preserved : goal.loop-position-preserved
loop-position-preserved c =
    let p = c.loop-position.position in
    let n = length (literals_of c.args.circuit.now c.args.kind) in
    record {
      within = omega (arith, c.loop-position.invariant.within);
      runs = runs_more c.args.circuit.now c.args.kind p (p - 1) n c.in_ok-joins.joins c.loop-position.runs.items
          c.take_joined-end.new.runs.items c.push.new.self.items _ (omega (arith, c.loop-position-test.true)) c.loop-position.invariant.within
          c.in_ok-joins.ensures c.take_joined-end.ensures c.in_ok-push.ensures.items c.loop-position.invariant.runs;
    }
