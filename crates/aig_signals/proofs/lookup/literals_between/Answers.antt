use Rattle.std.proofs.Common.{arith, ◌∙◌}
use Rattle.aig_signals.specs.Names.{literal_of}
use Rattle.aig_signals.proofs.Lookups.{literals_more, literals_none}
use Rattle.aig_signals.proofs.lookup.literals_between.Goals as goal

pub loop-position-init : goal.loop-position-init
loop-position-init c = record {
  from = omega arith;
  literals = c.new-literals.ensures ∙ literals_none (literal_of c.args.circuit.now c.args.kind) c.args.first;
}

pub loop-position-preserved : goal.loop-position-preserved
loop-position-preserved c = record {
  from = omega (arith, c.loop-position.invariant.from);
  literals = literals_more (literal_of c.args.circuit.now c.args.kind) c.args.first c.loop-position.position c.loop-position.literals _ _
      c.loop-position.invariant.from c.literal_at.ensures c.in_ok-push.ensures.ok c.loop-position.invariant.literals;
}
