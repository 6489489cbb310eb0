use Rattle.std.proofs.Common.{◌≡◌, ◌+◌, ◌<◌, ◌≤◌, ◌*◌, Bool, List, length, get_or, sym, ap, subst, ◌∙◌, arith, All}
use Rattle.aig_parts.specs.declared.gate.Gate.{Gate}
use Rattle.aig_base.specs.state.LeastFaulty.{IsLeastAmong, IsMarkedGate, IsGroundedGate, gate_variable}
use Rattle.aig_parts.specs.Literal.{variable}
use Rattle.aig_base.proofs.lists.LeastAmong.{least_same}
use Rattle.aig_base.proofs.check.least_ungrounded.Goals as goal

pub least_unmarked-requires : goal.least_unmarked-requires
least_unmarked-requires c =
    let raw = c.args.raw.now in
    let marks = c.in_ok-found.ensures.marks in
    let n = length c.as_slice.result.now in
    let size : n ≡ raw.max_var + 1 = ap length c.as_slice.ensures.value ∙ marks.size in
    subst (λ (gs : List Gate). All (λ g. variable g.lhs < n) gs) (sym c.as_slice-2.ensures)
    (λ k d l. let h : (get_or raw.gates k d).lhs ≤ 2 * raw.max_var + 1 = (c.requires.parts.range.gates k d l).0 in
    omega arith)

pub returns : goal.returns
returns c =
    let raw = c.args.raw.now in
    let r = c.least_unmarked.result in
    let marks = c.in_ok-found.ensures.marks in
    let found = subst (λ (gs : List Gate). IsLeastAmong (IsMarkedGate c.as_slice.result.now) gate_variable gs r)
    c.as_slice-2.ensures c.least_unmarked.ensures in
    let here = subst (λ (ms : List Bool). IsLeastAmong (IsMarkedGate ms) gate_variable raw.gates r)
    c.as_slice.ensures.value found in
    least_same (IsMarkedGate c.in_ok-found.found.marks.items) (IsGroundedGate raw) gate_variable raw.gates r (λ g. marks.each
    (variable g.lhs)) here
