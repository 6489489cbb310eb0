use Rattle.std.proofs.Common.{◌∙◌, count_by, nat_eq, ap}
use Rattle.aig_parts.specs.Literal.{variable}
use Rattle.aig_base.proofs.fan_outs.ReaderLists.{kept_items}
use Rattle.aig_base.proofs.readers.fan_out_lists.FanOuts.list_gate.Goals as goal

pub add_to_both-requires-clause-absent : goal.add_to_both-requires-clause-absent
add_to_both-requires-clause-absent c = rw c.var.ensures (λ v.
    ap (λ xs. count_by (nat_eq (variable c.args.gate.now.lhs)) xs) (kept_items _ _ c.make_room_at_both.ensures.keeps v) ∙ c.requires.absent v)
