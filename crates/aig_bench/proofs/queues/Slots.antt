-- The slots of a circuit's variables.
use Rattle.std.proofs.Common.{◌≡◌, ◌≢◌, inl, inr, ℕ, ◌+◌, ◌<◌, Bool, true, List, [], ◌∷◌, ◌++◌, length, map, set, take, get_or}
use Rattle.std.proofs.Common.{Some, option_map, slice_get, refl, sym, ap, ◌∙◌, arith, length-append}
use Rattle.std.proofs.lemmas.Bool.{cases_eq, false≢true}
use Rattle.std.proofs.Math.Seq.{map-set_same}
use Rattle.std.proofs.lemmas.List.{length-map, map-append, map-set, take_more}
use Rattle.std.proofs.lemmas.Option.{get_or_from_slice_get, same_Some, slice_get-map}
use Rattle.aig_parts.specs.declared.gate.Gate.{Gate}
use Rattle.aig_parts.specs.declared.raw.Raw.{Raw}
use Rattle.aig_parts.specs.Literal.{variable}
use Rattle.aig_base.specs.Sound.{IsSound}
use Rattle.aig_base.specs.state.Marks.{IsMarked}
use Rattle.aig_base.proofs.circuits.Circuits.{gate_in_range}
use Rattle.aig_base.proofs.lists.Gets.{slice_get_last, slice_get_left}
use Rattle.aig_bench.specs.declared.propagate.waiting.EventSlot.{EventSlot}
use Rattle.aig_bench.specs.state.Buckets.{AreQueues, LinksIn}
use Rattle.aig_bench.specs.state.Waiting.{HaveSides, Sides, idle, is_waiting, level_of, marks_of, next_of, sides_in}
use Rattle.aig_bench.specs.state.Waiting.{sides_of, view_of}
use Rattle.aig_bench.proofs.growing.Lengthened.{unmarked_pushed}
use Rattle.aig_bench.proofs.queues.WaitingMarks.{marks_entered, marks_pushed, not_idle}

-- a slot that was written
module _ (slots : List EventSlot) (v : ℕ) (s : EventSlot) (room : Bool) (is : s ≡ get_or slots v s) where
  pub level_written : (level : ℕ) → view_of (set slots v (record s { level = level })) room
      ≡ record (view_of slots room) { levels = set (map level_of slots) v level }
  level_written level =
      let now : EventSlot = record s { level = level } in
      let a : map next_of (set slots v now) ≡ map next_of slots = map-set_same next_of slots v now s (ap next_of is) in
      let b = map-set level_of slots v now in
      let d : map sides_in (set slots v now) ≡ map sides_in slots = map-set_same sides_in slots v now s (ap sides_in is) in
      rw (a, b, d) refl

  pub sides_written : (r0 r1 : ℕ) → view_of (set slots v (record s { rhs0 = r0; rhs1 = r1 })) room
      ≡ record (view_of slots room) { sides = set (map sides_in slots) v (record { rhs0 = r0; rhs1 = r1 }) }
  sides_written r0 r1 =
      let now : EventSlot = record s { rhs0 = r0; rhs1 = r1 } in
      let a : map next_of (set slots v now) ≡ map next_of slots = map-set_same next_of slots v now s (ap next_of is) in
      let b : map level_of (set slots v now) ≡ map level_of slots = map-set_same level_of slots v now s (ap level_of is) in
      let d = map-set sides_in slots v now in
      rw (a, b, d) refl

  -- the variable begins to wait
  pub entered : (second : ℕ) → second ≢ idle → view_of (set slots v (record s { next = second })) room
      ≡ record (view_of slots room) {
        items = set (marks_of (map next_of slots)) v true;
        next = set (map next_of slots) v second;
      }
  entered second ne =
      let now : EventSlot = record s { next = second } in
      let a = map-set next_of slots v now in
      let b : map level_of (set slots v now) ≡ map level_of slots = map-set_same level_of slots v now s (ap level_of is) in
      let d : map sides_in (set slots v now) ≡ map sides_in slots = map-set_same sides_in slots v now s (ap sides_in is) in
      rw (a, b, d, marks_entered (map next_of slots) v second ne) refl

-- whether a variable waits, and its level, by its slot
module _ (slots : List EventSlot) (v : ℕ) (s : EventSlot) (at : slice_get slots v ≡ Some s) where
  pub level_read : slice_get (map level_of slots) v ≡ Some s.level
  level_read = slice_get-map level_of slots v ∙ ap (option_map level_of) at

  mark_read : slice_get (marks_of (map next_of slots)) v ≡ Some (is_waiting s.next)
  mark_read =
      slice_get-map is_waiting (map next_of slots) v
      ∙ ap (option_map is_waiting) (slice_get-map next_of slots v ∙ ap (option_map next_of) at)

  pub waits : s.next ≢ idle → IsMarked (marks_of (map next_of slots)) v
  waits ne = mark_read ∙ ap Some (not_idle s.next ne)

  pub rests : s.next ≡ idle → IsMarked (marks_of (map next_of slots)) v → ⊥
  rests e m = false≢true (sym (ap is_waiting e) ∙ same_Some (is_waiting s.next) true (sym mark_read ∙ m))

-- whether there is room for one more does not matter
pub queues_room : (levels head : List ℕ) (slots : List EventSlot) (old new : Bool) (words : List ℕ)
    → AreQueues levels head (view_of slots old) words → AreQueues levels head (view_of slots new) words
queues_room levels head slots old new words h = record {
  chained = h.chained;
  levels_are = h.levels_are;
  sizes = h.sizes;
  few = h.few;
  room = h.room;
  occupied = h.occupied;
}

pub links_room : (P : ℕ → Type 0) (head head' : List ℕ) (slots slots' : List EventSlot) (room before after : Bool)
    → LinksIn P head (view_of slots room) head' (view_of slots' room)
    → LinksIn P head (view_of slots before) head' (view_of slots' after)
links_room P head head' slots slots' room before after h = record {
  heads = h.heads;
  kept = h.kept;
  levels = h.levels;
  sides = h.sides;
  queued = h.queued;
}

-- the slots of the first n variables, none of which waits
pub record SlotsTo (raw : Raw) (levels : List ℕ) (n : ℕ) (slots : List EventSlot) : Type 0 where
  pub size : length slots ≡ n
  pub none : (v : ℕ) → IsMarked (marks_of (map next_of slots)) v → ⊥
  pub levels_are : map level_of slots ≡ take n levels
  pub sides : (q : ℕ) (g : Gate) → slice_get raw.gates q ≡ Some g → variable g.lhs < n
      → slice_get (map sides_in slots) (variable g.lhs) ≡ Some (sides_of g)

module _ (raw : Raw) (levels : List ℕ) where
  pub slots_none : SlotsTo raw levels 0 []
  slots_none = record {
    size = refl;
    none = λ v m. absurd (cc);
    levels_are = refl;
    sides = λ q g at lt. absurd (omega arith);
  }

  pub slots_more : (n : ℕ) (slots : List EventSlot) (s : EventSlot) → n < length levels → SlotsTo raw levels n slots
      → s.next ≡ idle → slice_get levels n ≡ Some s.level
      → ((q : ℕ) (g : Gate) → slice_get raw.gates q ≡ Some g → variable g.lhs ≡ n → s.rhs0 ≡ g.rhs0)
      → ((q : ℕ) (g : Gate) → slice_get raw.gates q ≡ Some g → variable g.lhs ≡ n → s.rhs1 ≡ g.rhs1)
      → SlotsTo raw levels (n + 1) (slots ++ s ∷ [])
  slots_more n slots s lt h free level first second = record {
    size = length-append slots (s ∷ []) ∙ ap (λ k. k + 1) h.size;
    none = unmarked_pushed (marks_of (map next_of slots)) (marks_of (map next_of (slots ++ s ∷ [])))
        (ap marks_of (map-append next_of slots (s ∷ []) ∙ ap (λ (k : ℕ). map next_of slots ++ k ∷ []) free)
        ∙ marks_pushed (map next_of slots)) h.none;
    levels_are = map-append level_of slots (s ∷ [])
        ∙ ap (λ (ls : List ℕ). ls ++ s.level ∷ []) h.levels_are
        ∙ ap (λ (k : ℕ). take n levels ++ k ∷ []) (sym (get_or_from_slice_get levels n s.level 0 level))
        ∙ sym (take_more levels n 0 lt);
    sides = λ q g at below. ap (λ (ss : List Sides). slice_get ss (variable g.lhs)) (map-append sides_in slots (s ∷ []))
        ∙ elim (cases_eq (variable g.lhs) n) [
          | inl e ↦
              let same : sides_in s ≡ sides_of g = (let a = first q g at e in let b = second q g at e in cc) in
              ap (slice_get (map sides_in slots ++ sides_in s ∷ [])) (e ∙ sym (length-map slots sides_in ∙ h.size))
              ∙ slice_get_last (map sides_in slots) (sides_in s) ∙ ap Some same
          | inr ne ↦ slice_get_left (map sides_in slots) (sides_in s ∷ []) (variable g.lhs) (sides_of g)
              (h.sides q g at (omega arith))
        ];
  }

  pub all_sides : (n : ℕ) (slots : List EventSlot) → SlotsTo raw levels n slots → IsSound raw → n ≡ raw.max_var + 1
      → HaveSides raw (map sides_in slots)
  all_sides n slots h sound is = record {
    size = length-map slots sides_in ∙ h.size ∙ is;
    each = λ q g at. h.sides q g at (let le = gate_in_range raw sound q g at in omega arith);
  }
