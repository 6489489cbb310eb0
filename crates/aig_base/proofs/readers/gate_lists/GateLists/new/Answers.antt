use Rattle.std.proofs.Common.{[], arith}
use Rattle.aig_base.specs.state.GateLists.{slot_list}
use Rattle.aig_base.proofs.fan_outs.GateListLemmas.{map_replicate, none_slots}
use Rattle.aig_base.proofs.readers.gate_lists.GateLists.new.Goals as goal

pub invariant_of-result : goal.invariant_of-result
invariant_of-result c = rw (c.new-far.ensures.items, c.in_ok-slots.ensures)
    (none_slots c.args.variables _ (omega arith))

pub returns : goal.returns
returns c = rw (c.new-far.ensures.items, c.in_ok-slots.ensures)
    (map_replicate (slot_list []) c.args.variables _)
