use Rattle.std.proofs.Common.{arith, replicate}
use Rattle.std.proofs.lemmas.Slice.Zip.{AllZip-map}
use Rattle.aig_base.proofs.fan_outs.SlotTables.{slots_replicated}
use Rattle.aig_base.proofs.readers.slot_table.SlotTable.new.Goals as goal

pub invariant_of-result : goal.invariant_of-result
invariant_of-result c = omega (arith, c.in_ok-counts.ensures.len, c.in_ok-gates.ensures.len)

pub returns : goal.returns
returns c =
    rw (c.in_ok-counts.ensures.items_if_clones_equal (λ y e. e), c.in_ok-gates.ensures.items_if_clones_equal (λ y e. AllZip-map (λ x. x) (replicate 4 0) y e.whole))
    (slots_replicated c.args.variables 0 _)
