use Rattle.std.proofs.Common.{◌≡◌, ◌<◌, ◌≤◌, ℕ, length, All}
use Rattle.aig_parts.specs.declared.raw.Raw.{Raw}
use Rattle.aig_base.specs.state.Marks.{AddsMarks, IsMarked, IsMarking, steps_left}
use Rattle.aig_base.proofs.check.grounded.Marking.close.Given as goal

abbrev pub invariant-loop-variable : goal.invariant-loop-variable
invariant-loop-variable l = record {
  size : length l.self.walk.met.items ≡ length l.initial.self.walk.met.items;
  levels : length l.levels ≡ length l.initial.levels;
  below : All (λ v. v < length l.self.walk.met.items) l.self.walk.pending.items;
  kept : (v : ℕ) → IsMarked l.initial.self.walk.met.items v → IsMarked l.self.walk.met.items v;
  marking : (raw : Raw) → raw.gates ≡ l.gates
      → IsMarking raw l.readers.next.items 0 l.initial.self.walk.met.items l.initial.self.walk.pending.items
      l.initial.levels
      → IsMarking raw l.readers.next.items 0 l.self.walk.met.items l.self.walk.pending.items l.levels;
}

-- from the variable whose readers are visited
abbrev pub invariant-loop-link : goal.invariant-loop-link
invariant-loop-link l = record {
  moves : AddsMarks l.initial.self.walk.met.items l.initial.self.walk.pending.items l.self.walk.met.items
      l.self.walk.pending.items;
  levels : length l.levels ≡ length l.initial.levels;
  within : l.link ≤ length l.readers.next.items;
  marking : (raw : Raw) → raw.gates ≡ l.gates
      → IsMarking raw l.readers.next.items l.initial.link l.initial.self.walk.met.items
      l.initial.self.walk.pending.items l.initial.levels
      → IsMarking raw l.readers.next.items l.link l.self.walk.met.items l.self.walk.pending.items l.levels;
}

abbrev pub decreases-loop-variable : goal.decreases-loop-variable
decreases-loop-variable l = steps_left l.self.walk.met.items l.self.walk.pending.items

abbrev pub decreases-loop-link : goal.decreases-loop-link
decreases-loop-link l = l.link
