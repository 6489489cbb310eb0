use Rattle.std.proofs.Common.{◌≡◌, ◌∙◌, length, sym, rules}
use Rattle.aig_base.proofs.check.tried_levels.find_pending.Goals as goal

pub loop-top-preserved : goal.loop-top-preserved
loop-top-preserved c =
    let n = length c.args.nodes.now in
    let i = c.loop-top.invariant in
    let same : c.push.new.self.items ≡ c.loop-top.pending.items = c.in_ok-push.ensures.items
    ∙ sym c.in-Some.ensures.items in
    record {
      size = search rules;
      nodes = search rules;
      below = c.in_ok-push_unmet-2.ensures.below n (search rules)
          (c.in_ok-push_unmet.ensures.below n (search rules) (rw same i.below));
    }
