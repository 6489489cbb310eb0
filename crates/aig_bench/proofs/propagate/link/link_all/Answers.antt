use Rattle.std.proofs.Common.{get_or, sym, subst, arith}
use Rattle.std.proofs.lemmas.Option.{slice_get-get_or}
use Rattle.aig_bench.specs.state.Buckets.{CanBeQueued}
use Rattle.aig_bench.proofs.queues.Linked.{contains_at, links_none, links_more, links_all}
use Rattle.aig_bench.proofs.propagate.link.link_all.Goals as goal

pub loop-variable-init : goal.loop-variable-init
loop-variable-init c = record { queues = λ levels h. h; links = links_none c.args.variables.now c.args.head.now _ }

pub link-requires : goal.link-requires
link-requires c =
    let (levels, h, fit) = c.requires in
    let x = get_or c.args.variables.now c.loop-variable.variable-index 0 in (
      levels,
      c.loop-variable.invariant.queues levels h,
      subst (λ n. CanBeQueued levels n x) (sym c.loop-variable.invariant.links.heads)
          (fit x (contains_at c.args.variables.now c.loop-variable.variable-index x
          (slice_get-get_or c.args.variables.now c.loop-variable.variable-index 0 c.loop-variable-test.true))),
    )

pub loop-variable-preserved : goal.loop-variable-preserved
loop-variable-preserved c = record {
  queues = λ levels h. c.link.ensures.queues levels (c.loop-variable.invariant.queues levels h);
  links = links_more c.args.variables.now c.loop-variable.variable-index _ c.args.head.now c.loop-variable.head c.link.new.head _ _ _
      (slice_get-get_or c.args.variables.now c.loop-variable.variable-index 0 c.loop-variable-test.true)
      c.loop-variable.invariant.links c.link.ensures.links;
}

pub returns : goal.returns
returns c = record {
  queues = c.loop-variable.invariant.queues;
  links = links_all c.args.variables.now c.loop-variable.variable-index c.args.head.now c.loop-variable.head _ _
      (omega (arith, c.loop-variable-test.false, c.loop-variable.auto.variable-index-end))
      c.loop-variable.invariant.links;
}
