use Rattle.std.proofs.Common.{◌∙◌, refl, ap, length, set, sym, false, arith, get_or-set_same}
use Rattle.std.proofs.lemmas.List.{get_or_default, length-set}
use Rattle.aig_bench.specs.state.Waiting.{idle}
use Rattle.aig_bench.proofs.queues.Chained.{first_queued, first_level, first_inside, taken_queued, taken, next_freed}
use Rattle.aig_bench.proofs.propagate.buckets.Buckets.take.Goals as goal

pub leave-slot-requires : goal.leave-slot-requires
leave-slot-requires c =
    let (levels, h) = c.requires.buckets in
    first_inside levels _ _ _ h.chained c.args.level c.requires.level _ c.requires.first c.requires.some

pub drop_first-requires-clause-some : goal.drop_first-requires-clause-some
drop_first-requires-clause-some c = λ z. c.requires.some (sym c.requires.first ∙ z)

pub overflow_mul-first : goal.overflow_mul-first
overflow_mul-first c =
    let (levels, h) = c.requires.buckets in
    let inside = first_inside levels _ _ _ h.chained c.args.level c.requires.level _ c.requires.first c.requires.some in
    omega (arith, inside, h.sizes, h.few)

pub returns-clause-takes : goal.returns-clause-takes
returns-clause-takes c levels h =
    let s = c.drop_first.ensures in
    let e = c.leave-slot.ensures in
    let k = h.chained in
    let first = c.args.first in
    let second = c.leave-slot.result.next in
    let inside = first_inside levels _ _ _ k c.args.level c.requires.level _ c.requires.first c.requires.some in
    let then = e.second ∙ get_or_default c.args.self.now.marks.next first 0 second inside in
    let queued = taken_queued levels _ _ _ k c.args.level c.requires.level _ c.requires.first c.requires.some in
    record {
      buckets = record {
        chained = rw (s.head, s.marks, e.next, e.marks)
            (next_freed levels _ c.args.self.now.marks.next (set c.args.self.now.marks.items first false)
            (taken levels _ _ _ k c.args.level c.requires.level _ c.requires.first c.requires.some second then)
            first idle (λ m. ((queued first).0 m).1 refl));
        levels_are = rw (s.marks, e.levels) h.levels_are;
        sizes = rw (s.head, s.marks, e.next)
            (length-set _ _ _ ∙ h.sizes ∙ sym (length-set c.args.self.now.head.items c.args.level second));
        few = rw s.head (omega (arith, h.few, length-set c.args.self.now.head.items c.args.level second));
        room = s.room;
        occupied = s.occupied;
      };
      heads = ap length s.head ∙ length-set _ _ _;
      sides = rw (s.marks, e.sides) refl;
      was_queued = first_queued levels _ _ _ k c.args.level c.requires.level _ c.requires.first c.requires.some;
      of_level = first_level levels _ _ _ k c.args.level c.requires.level _ c.requires.first c.requires.some;
      queued = rw (s.marks, e.marks) queued;
    }

pub returns-clause-next : goal.returns-clause-next
returns-clause-next c =
    rw c.drop_first.ensures.head (get_or-set_same c.args.self.now.head.items c.args.level c.leave-slot.result.next 0 c.requires.level)
