use Rattle.aig_base.proofs.fan_outs.TidyLists.{none_fan_outs, none_long, none_tally}
use Rattle.aig_base.proofs.readers.fan_out_lists.FanOuts.new.Goals as goal

pub invariant_of-result : goal.invariant_of-result
invariant_of-result c =
    rw c.in_ok-new.ensures (none_fan_outs c.args.variables _ c.requires)

pub returns-clause-size : goal.returns-clause-size
returns-clause-size c = rw c.in_ok-new.ensures (none_long c.args.variables)

pub returns-clause-empty : goal.returns-clause-empty
returns-clause-empty c = rw c.in_ok-new.ensures (none_tally c.args.variables)
