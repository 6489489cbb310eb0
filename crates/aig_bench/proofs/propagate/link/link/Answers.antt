use Rattle.std.proofs.Common.{◌≡◌, ◌≢◌, ◌∙◌, ◌<◌, inl, inr, ℕ, List, ap, false, length, refl, sym, subst, Some, slice_get}
use Rattle.std.proofs.Common.{arith, get_or, get_or-set_other}
use Rattle.std.proofs.lemmas.List.{get_or_default, length-map, length-set}
use Rattle.std.proofs.lemmas.Option.{slice_get_read}
use Rattle.aig_base.specs.state.Marks.{IsMarked}
use Rattle.aig_bench.specs.state.Buckets.{AreQueues, CanBeQueued, LinksIn}
use Rattle.aig_bench.specs.state.Waiting.{WaitingVariables, idle, next_of, view_of}
use Rattle.aig_bench.proofs.queues.Chained.{linked, linked_queued, first_within}
use Rattle.aig_bench.proofs.queues.Slots.{entered, level_read, rests, waits}
use Rattle.aig_bench.proofs.propagate.link.link.Goals as goal

pub bounds-slots-variable : goal.bounds-slots-variable
bounds-slots-variable c =
    let (levels, h, fits) = c.requires in
    omega (arith, length-map c.args.slots.now next_of, h.chained.next_size, fits.inside)

pub returns-then-slot-clause-links : goal.returns-then-slot-clause-links
returns-then-slot-clause-links c =
    let (levels, h, fits) = c.requires in
    let slots = c.args.slots.now in
    let v = c.args.variable in
    let lt : v < length slots = omega (arith, length-map slots next_of, h.chained.next_size, fits.inside) in
    let at = slice_get_read slots (length slots) v c.index-slots-variable.result refl lt c.index-slots-variable.is in
    let mark = waits slots v c.index-slots-variable.result at c.if-slot.true in
    record {
      heads = refl;
      kept = λ l none. refl;
      levels = refl;
      sides = refl;
      queued = λ u. (
        λ m. inl m,
        λ k. elim k [ inl m ↦ m | inr e ↦ subst (IsMarked (view_of slots false).items) (sym e) mark ],
      );
    }

pub push_first-second-requires-clause-level : goal.push_first-second-requires-clause-level
push_first-second-requires-clause-level c =
    let (levels, h, fits) = c.requires in
    let slots = c.args.slots.now in
    let v = c.args.variable in
    let lt : v < length slots = omega (arith, length-map slots next_of, h.chained.next_size, fits.inside) in
    let at = slice_get_read slots (length slots) v c.index-slots-variable.result refl lt c.index-slots-variable.is in
    fits.level _ (subst (λ (ls : List ℕ). slice_get ls v ≡ Some c.index-slots-variable.result.level) h.levels_are
    (level_read slots v c.index-slots-variable.result at))

pub push_first-second-requires-clause-first : goal.push_first-second-requires-clause-first
push_first-second-requires-clause-first c = let (levels, h, fits) = c.requires in λ z. omega (arith, fits.positive, z)

pub push_first-second-requires-clause-room : goal.push_first-second-requires-clause-room
push_first-second-requires-clause-room c = let (levels, h, fits) = c.requires in h.room

pub push_first-second-requires-clause-occupied : goal.push_first-second-requires-clause-occupied
push_first-second-requires-clause-occupied c = let (levels, h, fits) = c.requires in h.occupied

pub bounds-slots-variable-else-slot : goal.bounds-slots-variable-else-slot
bounds-slots-variable-else-slot c =
    let (levels, h, fits) = c.requires in
    omega (arith, length-map c.args.slots.now next_of, h.chained.next_size, fits.inside)

pub returns-clause-queues : goal.returns-clause-queues
returns-clause-queues c levels h =
    let (given, k, fit) = c.requires in
    let slots = c.args.slots.now in
    let head = c.args.head.now in
    let v = c.args.variable in
    let level = c.index-slots-variable.result.level in
    let second = c.push_first-second.result in
    let s = c.push_first-second.ensures in
    let lt : v < length slots = omega (arith, length-map slots next_of, k.chained.next_size, fit.inside) in
    let read = slice_get_read slots (length slots) v c.index-slots-variable.result refl lt c.index-slots-variable.is in
    let at = subst (λ (ls : List ℕ). slice_get ls v ≡ Some level) h.levels_are (level_read slots v c.index-slots-variable.result read) in
    let fits = subst (λ (ls : List ℕ). CanBeQueued ls (length head) v) (sym k.levels_are ∙ h.levels_are) fit in
    let below = fits.level _ at in
    let is = s.before ∙ get_or_default head level second 0 below in
    let some : second ≢ idle = elim (first_within levels _ _ _ h.chained level below) [
      | inl e ↦ omega (arith, is, e)
      | inr less ↦ omega (arith, is, less, h.sizes, h.few)
    ] in
    subst (λ (m : WaitingVariables). AreQueues levels c.push_first-second.new.head m c.push_first-second.new.occupied)
    (sym (entered slots v _ false (ap (get_or slots v) c.index-slots-variable-2.is) second some)) (record {
      chained = rw s.head (linked levels _ _ _ h.chained v level second at below fits.positive s.before
          (rests slots v c.index-slots-variable.result read c.if-slot.false));
      levels_are = h.levels_are;
      sizes = rw s.head (length-set _ _ _ ∙ h.sizes ∙ sym (length-set head level v));
      few = rw s.head (omega (arith, h.few, length-set head level v));
      room = s.room;
      occupied = s.occupied;
    })

pub returns-clause-links : goal.returns-clause-links
returns-clause-links c =
    let (levels, h, fits) = c.requires in
    let slots = c.args.slots.now in
    let head = c.args.head.now in
    let v = c.args.variable in
    let level = c.index-slots-variable.result.level in
    let second = c.push_first-second.result in
    let s = c.push_first-second.ensures in
    let lt : v < length slots = omega (arith, length-map slots next_of, h.chained.next_size, fits.inside) in
    let read = slice_get_read slots (length slots) v c.index-slots-variable.result refl lt c.index-slots-variable.is in
    let here = level_read slots v c.index-slots-variable.result read in
    let at = subst (λ (ls : List ℕ). slice_get ls v ≡ Some level) h.levels_are here in
    let below = fits.level _ at in
    let is = s.before ∙ get_or_default head level second 0 below in
    let some : second ≢ idle = elim (first_within levels _ _ _ h.chained level below) [
      | inl e ↦ omega (arith, is, e)
      | inr less ↦ omega (arith, is, less, h.sizes, h.few)
    ] in
    subst (λ (m : WaitingVariables). LinksIn (λ u. u ≡ v) head (view_of slots false) c.push_first-second.new.head m)
    (sym (entered slots v _ false (ap (get_or slots v) c.index-slots-variable-2.is) second some)) (record {
      heads = ap length s.head ∙ length-set _ _ _;
      kept = λ l none.
          let ne = λ (e : l ≡ level). none v refl (here ∙ ap Some (sym e)) in
          rw s.head (get_or-set_other head level l v 0 ne);
      levels = refl;
      sides = refl;
      queued = linked_queued levels _ _ _ h.chained v level second at below fits.positive s.before
          (rests slots v c.index-slots-variable.result read c.if-slot.false);
    })
