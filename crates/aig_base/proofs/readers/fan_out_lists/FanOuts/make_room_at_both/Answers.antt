use Rattle.std.proofs.Common.{◌≤◌, ℕ, List, length, subst, inr}
use Rattle.aig_bytes.proofs.Results.{on_err}
use Rattle.aig_base.proofs.fan_outs.ReaderLists.{kept_items}
use Rattle.aig_base.proofs.readers.fan_out_lists.FanOuts.make_room_at_both.Goals as goal

pub returns-in_err-make_room_at-2-clause-refused : goal.returns-in_err-make_room_at-2-clause-refused
returns-in_err-make_room_at-2-clause-refused c =
    on_err c.from_residual-in_err-make_room_at-2.result
    (inr (subst (λ (xs : List ℕ). 4 ≤ length xs) (kept_items _ _ c.make_room_at.ensures.keeps c.args.second)
    c.in_err-make_room_at-2.ensures.refused))
