-- Sets of levels, buckets and readers with room for more, or with one more variable.
use Rattle.std.proofs.Common.{◌≡◌, ◌⊎◌, inl, inr, ℕ, zero, suc, ◌+◌, ◌*◌, ◌/◌, ◌<◌, ◌≤◌, Bool, false, true, List, []}
use Rattle.std.proofs.Common.{◌∷◌, ◌++◌, length, get_or, slice_get, Contains, refl, sym, ap, ◌∙◌, subst, arith}
use Rattle.std.proofs.Common.{length-append}
use Rattle.std.proofs.lemmas.Bool.{false≢true}
use Rattle.std.proofs.lemmas.List.{get_or_past}
use Rattle.aig_base.specs.state.Marks.{IsMarked}
use Rattle.aig_base.proofs.lists.Gets.{slice_get_push}
use Rattle.aig_parts.specs.declared.raw.Raw.{Raw}
use Rattle.aig_base.specs.Changes.{with_appended_gate}
use Rattle.aig_parts.specs.Literal.{variable}
use Rattle.aig_base.specs.Sound.{IsSound}
use Rattle.aig_base.proofs.circuits.Circuits.{next_in_range}
use Rattle.aig_bench.specs.declared.propagate.buckets.Buckets.{Buckets}
use Rattle.aig_bench.specs.declared.propagate.latch_readers.LatchReaders.{LatchReaders}
use Rattle.aig_bench.specs.state.Buckets.{AreBuckets, AreQueues, IsBucketChain, IsQueued}
use Rattle.aig_bench.specs.state.Latches.{AreLatchReaders, TakesNextFrom, IsLast}
use Rattle.aig_parts.specs.Formed.{limit}
use Rattle.aig_parts.specs.state.Bits.{HasBit}
use Rattle.aig_parts.proofs.BitLemmas.{same_bits}
use Rattle.aig_bench.specs.state.LevelSet.{AreFilled}
use Rattle.aig_bench.specs.state.Waiting.{WaitingVariables, idle}
use Rattle.aig_bench.proofs.queues.Chained.{head_in}

module _ (words filled : List ℕ) (level : ℕ) (i : AreFilled words filled) (low : level ≤ limit) where
  -- the second set has room for the word of a number
  pub filled_longer : (more : List ℕ) → ((w : ℕ) → get_or more w 0 ≡ get_or filled w 0) → length filled ≤ length more
      → (length more ≡ length filled) ⊎ (length more ≡ level / 64 / 64 + 1) → AreFilled words more
  filled_longer more same longer size = record {
    limit = i.limit;
    room = omega (arith, i.room);
    few = elim size [ inl e ↦ omega (arith, i.few) | inr e ↦ omega arith ];
    each = λ w. (
      λ h. (i.each w).0 ((same_bits more filled same w).0 h),
      λ ne. (same_bits more filled same w).1 ((i.each w).1 ne),
    );
  }

  -- and then the first one for the number
  pub words_longer : (more : List ℕ) → ((w : ℕ) → get_or more w 0 ≡ get_or words w 0)
      → (length more ≡ length words) ⊎ (length more ≡ level / 64 + 1) → level / 64 / 64 < length filled
      → AreFilled more filled
  words_longer more same size inside = record {
    limit = elim size [ inl e ↦ omega (arith, i.limit) | inr e ↦ omega arith ];
    room = elim size [ inl e ↦ omega (arith, i.room) | inr e ↦ omega arith ];
    few = i.few;
    each = λ w. (λ h z. (i.each w).0 h (sym (same w) ∙ z), λ ne. (i.each w).1 (λ z. ne (same w ∙ z)));
  }

get_or_pushed : (xs : List ℕ) (l : ℕ) → get_or (xs ++ 0 ∷ []) l 0 ≡ get_or xs l 0
get_or_pushed [] zero = refl
get_or_pushed [] (suc l) = refl
get_or_pushed (x ∷ xs) zero = refl
get_or_pushed (x ∷ xs) (suc l) = get_or_pushed xs l

-- a mark more, which is not set
pub unmarked_pushed : (marks more : List Bool) → more ≡ marks ++ false ∷ [] → ((v : ℕ) → IsMarked marks v → ⊥)
    → (v : ℕ) → IsMarked more v → ⊥
unmarked_pushed marks more e empty v m =
    elim (slice_get_push marks false true v (subst (λ (ms : List Bool). IsMarked ms v) e m)) [
      | inl h ↦ empty v h
      | inr k ↦ absurd (false≢true k.1)
    ]

-- where nothing waits no chain has a variable
module _ (levels : List ℕ) (b : Buckets) (h : AreBuckets levels b) (empty : (v : ℕ) → IsQueued b v → ⊥) where
  head_zero : (l : ℕ) → get_or b.head.items l 0 ≡ 0
  head_zero l = elim (or l (length b.head.items)) [
    | inl lt ↦ (let c = h.chained.chains l lt in of l c.chain c.leads (λ v k. empty v ((c.each v).0 k).0))
    | inr le ↦ get_or_past b.head.items l 0 le
  ]
    where
      or : (m n : ℕ) → (m < n) ⊎ (n ≤ m)
      or m n = grind arith

      of : (l : ℕ) (chain : List ℕ) → IsBucketChain b.marks.next (get_or b.head.items l 0) chain
          → ((v : ℕ) → Contains chain v → ⊥)
          → get_or b.head.items l 0 ≡ 0
      of l [] leads none = leads
      of l (x ∷ xs) leads none = absurd (none x (head_in x xs))

  pub buckets_longer : (level : ℕ) (head : List ℕ) (marks : WaitingVariables) (words : List ℕ)
      → length b.head.items < 64 * length b.occupied → length b.head.items ≤ limit → head ≡ b.head.items ++ 0 ∷ []
      → marks.next ≡ b.marks.next ++ idle ∷ [] → marks.items ≡ b.marks.items ++ false ∷ []
      → marks.levels ≡ b.marks.levels ++ level ∷ [] → words ≡ b.occupied
      → AreQueues (levels ++ level ∷ []) head marks words
  buckets_longer level head marks words room few eh en em el eo =
      let size = length-append levels (level ∷ []) in
      let zero_now : (l : ℕ) → get_or head l 0 ≡ 0 =
      λ l. ap (λ (xs : List ℕ). get_or xs l 0) eh ∙ get_or_pushed b.head.items l ∙ head_zero l in
      let none = unmarked_pushed b.marks.items marks.items em empty in
      let longer = length-append b.head.items (0 ∷ []) in
      record {
        chained = record {
          marks_size = ap length em ∙ length-append b.marks.items (false ∷ [])
              ∙ ap (λ n. n + 1) h.chained.marks_size ∙ sym size;
          next_size = ap length en ∙ length-append b.marks.next (idle ∷ [])
              ∙ ap (λ n. n + 1) h.chained.next_size ∙ sym size;
          chains = λ l lt. record {
            chain = [];
            leads = zero_now l;
            each = λ v. (λ k. absurd (omega (arith, k.1)), λ m. absurd (none v m.0));
          };
          placed = λ v m. absurd (none v m);
        };
        levels_are = el ∙ ap (λ (ls : List ℕ). ls ++ level ∷ []) h.levels_are;
        sizes = omega (arith, h.sizes, ap length eh, ap length en, longer, length-append b.marks.next (idle ∷ []));
        few = omega (arith, ap length eh, longer);
        room = omega (arith, ap length eh, ap length eo);
        occupied = λ l. (
          λ has. absurd ((h.occupied l).0 (subst (λ (ws : List ℕ). HasBit ws l) eo has) (head_zero l)),
          λ some. absurd (some (zero_now l)),
        );
      }

-- room is no reader
pub readers_roomy : (raw : Raw) (old new : LatchReaders) → AreLatchReaders raw old → new.last.items ≡ old.last.items
    → new.before.items ≡ old.before.items → new.read.words.items ≡ old.read.words.items → AreLatchReaders raw new
readers_roomy raw old new h e f b = record {
  variables = ap length e ∙ h.variables;
  latches = ap length f ∙ h.latches;
  last = λ v i at. h.last v i (ap (λ (xs : List ℕ). slice_get xs v) (sym e) ∙ at);
  before = λ p i x at is. h.before p i x at (ap (λ (xs : List ℕ). slice_get xs (suc p)) (sym f) ∙ is);
  read = λ v i at some. subst (λ (ws : List ℕ). HasBit ws v) (sym b)
      (h.read v i (ap (λ (xs : List ℕ). slice_get xs v) (sym e) ∙ at) some);
}

-- no latch reads the variable of a new gate
module _ (raw : Raw) (r0 r1 : ℕ) (sound : IsSound raw) where
  last_still : (v n i : ℕ) → IsLast raw v n i → IsLast (with_appended_gate raw r0 r1) v n i
  last_still v n i k = record { inside = k.inside; follows = k.follows; none_over = k.none_over }

  none_new : (i : ℕ) → TakesNextFrom raw i (raw.max_var + 1) → ⊥
  none_new i (p, x, is, at, e) = let le = next_in_range raw sound p x at in absurd (omega arith)

  pub readers_longer : (old new : LatchReaders) → AreLatchReaders raw old → new.last.items ≡ old.last.items ++ 0 ∷ []
      → new.before.items ≡ old.before.items → new.read.words.items ≡ old.read.words.items
      → AreLatchReaders (with_appended_gate raw r0 r1) new
  readers_longer old new h e f b = record {
    variables = ap length e ∙ length-append old.last.items (0 ∷ []) ∙ ap (λ n. n + 1) h.variables;
    latches = ap length f ∙ h.latches;
    last = λ v i at. elim (slice_get_push old.last.items 0 i v (ap (λ (xs : List ℕ). slice_get xs v) (sym e) ∙ at)) [
      | inl here ↦ last_still v (length raw.latches) i (h.last v i here)
      | inr k ↦ record {
        inside = omega (arith, k.1);
        follows = λ ne. absurd (ne (sym k.1));
        none_over = λ j lt le is. none_new j (subst (TakesNextFrom raw j) (k.0 ∙ h.variables) is);
      }
    ];
    before = λ p i x at is.
        last_still (variable x.next) p i (h.before p i x at (ap (λ (xs : List ℕ). slice_get xs (suc p)) (sym f) ∙ is));
    read = λ v i at some. elim (slice_get_push old.last.items 0 i v (ap (λ (xs : List ℕ). slice_get xs v) (sym e) ∙ at)) [
      | inl here ↦ subst (λ (ws : List ℕ). HasBit ws v) (sym b) (h.read v i here some)
      | inr k ↦ absurd (some (sym k.1))
    ];
  }
