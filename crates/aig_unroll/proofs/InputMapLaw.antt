-- The lines of an input map name the inputs of the unrolled circuit.
use Rattle.std.proofs.Common.{◌≡◌, ℕ, zero, suc, ◌+◌, ◌*◌, ◌<◌, Bool, true, false, if◌then◌else◌, List, ◌∷◌, ◌++◌}
use Rattle.std.proofs.Common.{length, map, take, drop, get_or, Some, slice_get, option_map, refl, sym, ◌∙◌, ap, ap₂}
use Rattle.std.proofs.Common.{arith, zero-mul}
use Rattle.std.proofs.lemmas.List.{length-map, map-append, ext_get_or, get_or-map, drop_more, drop_all}
use Rattle.std.proofs.lemmas.List.FromFn.{length-map-range_with_len, get_or-map-range_with_len}
use Rattle.std.proofs.lemmas.List.Sums.{sum_by-cons, count_by_more_yes, count_by_more_no}
use Rattle.std.proofs.lemmas.Option.{slice_get-map, get_or_from_slice_get}
use Rattle.aig_parts.specs.declared.latch.Latch.{Latch}
use Rattle.aig_parts.specs.declared.raw.Raw.{Raw}
use Rattle.aig_base.specs.Circuit.{IsCircuit}
use Rattle.aig_base.specs.Order.{IsCanonicalOrder}
use Rattle.aig_base.specs.Renumbered.{evens, evens_from}
use Rattle.aig_base.proofs.lists.Positions.{stands_at}
use Rattle.aig_base.proofs.lists.Evens.{length-evens_from, get_or-evens_from, evens-append}
use Rattle.aig_unroll.specs.FrameLiteral.{frame_literal, input_count, is_uninitialised, uninitialised}
use Rattle.aig_unroll.specs.InputMap.{Origin, input, start, frame_origins, start_origins, origins, origin_literal}
use Rattle.aig_unroll.specs.Unrolled.{frames}
use Rattle.aig_unroll.proofs.FrameLiterals.{of_input, of_first}

module _ (raw : Raw) (circuit : IsCircuit raw) (order : List ℕ) (canonical : IsCanonicalOrder raw order) (k : ℕ) where
  abbrev literal : Origin → ℕ
  literal = origin_literal raw order k

  input_at : (t p : ℕ) → p < length raw.inputs → literal (input t p) ≡ 2 * (t * length raw.inputs + p + 1)
  input_at t p lt =
      let (l, at) = stands_at raw.inputs p lt in
      ap (frame_literal raw order k t) (get_or_from_slice_get raw.inputs p l 0 at)
      ∙ of_input raw circuit.sound order canonical k t p l at

  frame_evens : (t : ℕ) → map literal (frame_origins raw t) ≡ evens_from (1 + t * length raw.inputs) (length raw.inputs)
  frame_evens t =
      let os = frame_origins raw t in
      let n = length raw.inputs in
      let v = 1 + t * n in
      let size : length os ≡ n = length-map-range_with_len (input t) 0 n in
      let same = length-map os literal ∙ size ∙ sym (length-evens_from v n) in
      ext_get_or 0 (map literal os) (evens_from v n) same (λ p lt.
      let inside : p < length os = omega (arith, lt, length-map os literal) in
      let below : p < n = omega (arith, inside, size) in
      get_or-map literal os p (input t p) 0 inside
      ∙ ap literal (get_or-map-range_with_len (input t) 0 n p p (input t p) below (omega arith))
      ∙ input_at t p below ∙ (let e : t * n + p + 1 ≡ v + p = omega arith in ap (λ u. 2 * u) e)
      ∙ sym (get_or-evens_from v n p 0 below))

  all_frames : (n : ℕ) → map literal (frames (frame_origins raw) n) ≡ evens (n * length raw.inputs)
  all_frames zero = ap evens (sym (zero-mul (length raw.inputs)))
  all_frames (suc n) =
      let e : n * length raw.inputs + length raw.inputs ≡ suc n * length raw.inputs = omega arith in
      map-append literal (frames (frame_origins raw) n) (frame_origins raw n)
      ∙ ap₂ (λ (xs ys : List ℕ). xs ++ ys) (all_frames n) (frame_evens n)
      ∙ sym (evens-append 1 (n * length raw.inputs) (length raw.inputs)) ∙ ap evens e

  latch_at : (p : ℕ) (x : Latch) → slice_get raw.latches p ≡ Some x → is_uninitialised x ≡ true
      → literal (start p) ≡ 2 * (k * length raw.inputs + uninitialised (take p raw.latches) + 1)
  latch_at p x at own =
      let f : Latch → ℕ = λ x. x.lit in
      let here : slice_get (map f raw.latches) p ≡ Some x.lit =
      slice_get-map f raw.latches p ∙ ap (option_map f) at in
      ap (frame_literal raw order k 0) (get_or_from_slice_get (map f raw.latches) p x.lit 0 here)
      ∙ of_first raw circuit.sound order canonical k p x at
      ∙ ap (λ b. if b then 2 * (k * length raw.inputs + uninitialised (take p raw.latches) + 1) else x.reset) own

  abbrev next_position : ℕ → ℕ
  next_position p = 1 + (k * length raw.inputs + uninitialised (take p raw.latches))

  count_first : (x : Latch) (xs : List Latch) (b : Bool) → is_uninitialised x ≡ b
      → uninitialised (x ∷ xs) ≡ (if b then 1 else 0) + uninitialised xs
  count_first x xs b own =
      sum_by-cons (λ z. if is_uninitialised z then 1 else 0) x xs
      ∙ ap (λ (t : Bool). (if t then 1 else 0) + uninitialised xs) own

  count_none : (x : Latch) (xs : List Latch) → is_uninitialised x ≡ false → uninitialised (x ∷ xs) ≡ uninitialised xs
  count_none x xs own =
      let e : uninitialised (x ∷ xs) ≡ 0 + uninitialised xs = count_first x xs false own in omega (arith, e)

  starts_evens : (n p : ℕ) → p + n ≡ length raw.latches
      → map literal (start_origins p (drop p raw.latches)) ≡ evens_from (next_position p) (uninitialised (drop p raw.latches))
  unfolding start_origins
  starts_evens zero p e =
      let none = drop_all p raw.latches (omega (arith, e)) in
      ap (λ (xs : List Latch). map literal (start_origins p xs)) none
      ∙ ap (λ (xs : List Latch). evens_from (next_position p) (uninitialised xs)) (sym none)
  starts_evens (suc n) p e =
      let lt : p < length raw.latches = omega (arith, e) in
      let (x, at) = stands_at raw.latches p lt in
      let is : get_or raw.latches p x ≡ x = get_or_from_slice_get raw.latches p x x at in
      let xs = drop (p + 1) raw.latches in
      let more : drop p raw.latches ≡ x ∷ xs =
      drop_more raw.latches p x lt ∙ ap (λ (y : Latch). y ∷ xs) is in
      let later = starts_evens n (p + 1) (omega (arith, e)) in
      ap (λ (ys : List Latch). map literal (start_origins p ys)) more
      ∙ go x xs lt at is (is_uninitialised x) refl later
      ∙ ap (λ (ys : List Latch). evens_from (next_position p) (uninitialised ys)) (sym more)
    where
      go : (x : Latch) (xs : List Latch) → p < length raw.latches → slice_get raw.latches p ≡ Some x
          → get_or raw.latches p x ≡ x → (b : Bool) → is_uninitialised x ≡ b
          → map literal (start_origins (p + 1) xs) ≡ evens_from (next_position (p + 1)) (uninitialised xs)
          → map literal (start_origins p (x ∷ xs)) ≡ evens_from (next_position p) (uninitialised (x ∷ xs))
      go x xs lt at is true own later =
          let s = start_origins (p + 1) xs in
          let count = count_by_more_yes is_uninitialised raw.latches p x lt (ap is_uninitialised is ∙ own) in
          let f : k * length raw.inputs + uninitialised (take p raw.latches) + 1 ≡ next_position p = omega arith in
          let first : literal (start p) ≡ 2 * next_position p = latch_at p x at own ∙ ap (λ u. 2 * u) f in
          let next : next_position (p + 1) ≡ next_position p + 1 = omega (arith, count) in
          ap (λ (t : Bool). map literal (if t then start p ∷ s else s)) own
          ∙ ap₂ (λ (l : ℕ) (ls : List ℕ). l ∷ ls) first
          (later ∙ ap (λ v. evens_from v (uninitialised xs)) next)
          ∙ sym (evens-append (next_position p) 1 (uninitialised xs))
          ∙ ap (evens_from (next_position p)) (sym (count_first x xs true own))
      go x xs lt at is false own later =
          let s = start_origins (p + 1) xs in
          let count = count_by_more_no is_uninitialised raw.latches p x lt (ap is_uninitialised is ∙ own) in
          let next : next_position (p + 1) ≡ next_position p = omega (arith, count) in
          ap (λ (t : Bool). map literal (if t then start p ∷ s else s)) own ∙ later
          ∙ ap (λ v. evens_from v (uninitialised xs)) next
          ∙ ap (evens_from (next_position p)) (sym (count_none x xs own))

  pub all_inputs : map (origin_literal raw order k) (origins raw k) ≡ evens (input_count raw k)
  all_inputs =
      map-append literal (frames (frame_origins raw) k) (start_origins 0 raw.latches)
      ∙ ap₂ (λ (xs ys : List ℕ). xs ++ ys) (all_frames k)
      (starts_evens (length raw.latches) 0 (omega arith)
      ∙ (let e : next_position 0 ≡ 1 + k * length raw.inputs = omega arith in
      ap (λ v. evens_from v (uninitialised raw.latches)) e))
      ∙ sym (evens-append 1 (k * length raw.inputs) (uninitialised raw.latches))
