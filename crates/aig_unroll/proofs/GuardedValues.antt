-- The values of chain gates and of guards.
use Rattle.std.proofs.Common.{◌≡◌, ◌⊎◌, ◌↔◌, inl, inr, ℕ, zero, suc, ◌+◌, ◌-◌, ◌*◌, ◌<◌, ◌≤◌, nat_lt, Bool, true, false}
use Rattle.std.proofs.Common.{◌&&◌, List, [], ◌∷◌, ◌++◌, length, map, slice_index, Contains, Some, slice_get}
use Rattle.std.proofs.Common.{option_map, refl, sym, ◌∙◌, ap, subst, arith}
use Rattle.std.specs.List.{range_with_len}
use Rattle.std.proofs.lemmas.Bool.Decides.{nat_tests}
use Rattle.std.proofs.lemmas.Option.{slice_get-map, slice_get_within, get_or_from_slice_get}
use Rattle.aig_parts.specs.declared.gate.Gate.{Gate}
use Rattle.aig_parts.specs.declared.raw.Raw.{Raw}
use Rattle.aig_parts.specs.declared.ternary.Tern.{Tern}
use Rattle.aig_parts.specs.declared.ternary.Tern.TheVariants.{Zero, One, X}
use Rattle.aig_base.specs.Circuit.{IsCircuit}
use Rattle.aig_parts.specs.Literal.{variable}
use Rattle.aig_base.specs.Order.{IsCanonicalOrder}
use Rattle.aig_base.specs.Renumbered.{ordered_gates, ready_gate}
use Rattle.aig_base.specs.Runs.{IsAllowed, ReachesBad}
use Rattle.aig_base.specs.Sections.{IsDefined}
use Rattle.aig_parts.specs.Ternary.{kleene_and}
use Rattle.aig_base.specs.Value as value
use Rattle.aig_base.specs.Value.{Value, Fits}
use Rattle.aig_base.proofs.values.Refined.{and-zero}
use Rattle.aig_base.proofs.circuits.EachUse.{each_use}
use Rattle.aig_base.proofs.lists.Gets.{All-at}
use Rattle.aig_base.proofs.values.NegatedValues.{of_ready}
use Rattle.aig_base.proofs.values.OneValue.{exists_value}
use Rattle.aig_base.proofs.lists.Positions.{slice_get_left, slice_get_right, Contains-from_slice_get, position_of}
use Rattle.aig_base.proofs.lists.Positions.{stands_at}
use Rattle.aig_base.proofs.values.UniqueValue.{unique}
use Rattle.aig_unroll.specs.FrameLiteral.{frame_literal, has_guards, chain_count, guard_count}
use Rattle.aig_unroll.specs.Unrolled.{unrolled, frame_bad, frame_gate, frame_gates, chain_gate, chain_literal}
use Rattle.aig_unroll.specs.Unrolled.{link_before, guard_gate, guard_literal, last_chain}
use Rattle.aig_unroll.specs.UnrolledValues.{UnrolledValue, unrolled_row, IsExcluded, GuardedValue, GuardsBad}
use Rattle.aig_unroll.proofs.Guarding.{AreGuarded, guarded}
use Rattle.aig_unroll.proofs.UnrolledCircuit.{unrolled_sound, bad_on, bad_off, length-frame_bad}
use Rattle.aig_unroll.proofs.UnrolledRow.{at_range, frames_at, place_at}
use Rattle.aig_unroll.proofs.UnrolledValues.{frame_value}

-- Kleene's AND, read backwards
and_one : (a b : Tern) → kleene_and a b ≡ One → (a ≡ One) × (b ≡ One)
and_one One One e = (refl, refl)
and_one One Zero e = cc
and_one One X e = cc
and_one Zero b e = cc
and_one X Zero e = cc
and_one X One e = cc
and_one X X e = cc

and_zero : (a b : Tern) → kleene_and a b ≡ Zero → (a ≡ Zero) ⊎ (b ≡ Zero)
and_zero Zero b e = inl refl
and_zero One Zero e = inr refl
and_zero One One e = cc
and_zero One X e = cc
and_zero X Zero e = inr refl
and_zero X One e = cc
and_zero X X e = cc

-- frame s before frame t, or t itself and position c below n
abbrev pub IsUpTo : ℕ → ℕ → ℕ → ℕ → Type 0
IsUpTo t n s c = (s < t) ⊎ ((s ≡ t) × (c < n))

up_to_cases : (t n s c : ℕ) → IsUpTo t (suc n) s c → IsUpTo t n s c ⊎ ((s ≡ t) × (c ≡ n))
up_to_cases t n s c (inl lt) = inl (inl lt)
up_to_cases t n s c (inr h) = elim (last c n h.1) [ inl below ↦ inl (inr (h.0, below)) | inr same ↦ inr (h.0, same) ]
  where
    last : (c n : ℕ) → c < suc n → (c < n) ⊎ (c ≡ n)
    last c n lt = grind arith

up_to_more : (t n s c : ℕ) → IsUpTo t n s c → IsUpTo t (suc n) s c
up_to_more t n s c (inl lt) = inl lt
up_to_more t n s c (inr h) = inr (h.0, omega arith)

-- each constraint up to the n-th of frame t is 1
abbrev pub AllOne : Raw → List Tern → List (List Tern) → ℕ → ℕ → Type 0
AllOne raw start rows t n =
    (s c l : ℕ) → slice_get raw.constraints c ≡ Some l → IsUpTo t n s c → Value raw start rows s l One

-- one of them is 0
abbrev pub SomeZero : Raw → List Tern → List (List Tern) → ℕ → ℕ → Type 0
SomeZero raw start rows t n =
    (s : ℕ) × (c : ℕ) × (l : ℕ) × (slice_get raw.constraints c ≡ Some l) × IsUpTo t n s c
    × Value raw start rows s l Zero

-- the value is 1 exactly where the first holds, and 0 exactly where the second does
pub record Decides (A B : Type 0) (w : Tern) : Type 0 where
  pub one : w ≡ One → A
  pub every : A → w ≡ One
  pub zero : w ≡ Zero → B
  pub some : B → w ≡ Zero

-- the chain literal after c constraints of frame t
abbrev pub Linked : Raw → List ℕ → List Tern → List (List Tern) → ℕ → ℕ → Type 0
Linked raw order start rows t c =
    (w : Tern) × UnrolledValue raw order start rows (link_before raw (length rows) t c) w
    × Decides (AllOne raw start rows t c) (SomeZero raw start rows t c) w

module _ (raw : Raw) (circuit : IsCircuit raw) (start : List Tern) (rows : List (List Tern)) where
  one_value : {t l : ℕ} {v w : Tern} → Value raw start rows t l v → Value raw start rows t l w → v ≡ w
  one_value a b = unique raw start rows circuit.sound a b

  step_decides : (t c l : ℕ) (u w : Tern) → slice_get raw.constraints c ≡ Some l → Value raw start rows t l u
      → Decides (AllOne raw start rows t c) (SomeZero raw start rows t c) w
      → Decides (AllOne raw start rows t (suc c)) (SomeZero raw start rows t (suc c)) (kleene_and u w)
  step_decides t c l u w at here d = record {
    one = λ e s i m stands up.
        let (eu, ew) = and_one u w e in
        elim (up_to_cases t c s i up) [
          | inl before ↦ d.one ew s i m stands before
          | inr same ↦ moved s i m One stands same (subst (λ x. Value raw start rows t l x) eu here)
        ];
    every = λ h.
        let ew = d.every (λ s i m stands up. h s i m stands (up_to_more t c s i up)) in
        let eu = one_value here (h t c l at (inr (refl, omega arith))) in
        rw (eu, ew) refl;
    zero = λ e. elim (and_zero u w e) [
      | inl eu ↦ (t, c, l, at, inr (refl, omega arith), subst (λ x. Value raw start rows t l x) eu here)
      | inr ew ↦ (let (s, i, m, stands, up, v) = d.zero ew in (s, i, m, stands, up_to_more t c s i up, v))
    ];
    some = λ h. let (s, i, m, stands, up, v) = h in elim (up_to_cases t c s i up) [
      | inl before ↦ ap (kleene_and u) (d.some (s, i, m, stands, before, v)) ∙ and-zero u
      | inr same ↦ ap (λ x. kleene_and x w) (one_value here (back s i m Zero stands same v))
    ];
  }
    where
      literal_is : (i m : ℕ) → slice_get raw.constraints i ≡ Some m → i ≡ c → m ≡ l
      literal_is i m stands e =
          let f : slice_get raw.constraints c ≡ Some m = subst (λ n. slice_get raw.constraints n ≡ Some m) e stands in
          cc

      moved : (s i m : ℕ) (x : Tern) → slice_get raw.constraints i ≡ Some m → (s ≡ t) × (i ≡ c)
          → Value raw start rows t l x → Value raw start rows s m x
      moved s i m x stands same v =
          subst (λ n. Value raw start rows n m x) (sym same.0)
          (subst (λ n. Value raw start rows t n x) (sym (literal_is i m stands same.1)) v)

      back : (s i m : ℕ) (x : Tern) → slice_get raw.constraints i ≡ Some m → (s ≡ t) × (i ≡ c)
          → Value raw start rows s m x → Value raw start rows t l x
      back s i m x stands same v =
          subst (λ n. Value raw start rows t n x) (literal_is i m stands same.1)
          (subst (λ n. Value raw start rows n m x) same.0 v)

  -- all constraints of frame t are those before the next frame
  next_decides : (t : ℕ) (w : Tern)
      → Decides (AllOne raw start rows t (length raw.constraints)) (SomeZero raw start rows t (length raw.constraints)) w
      → Decides (AllOne raw start rows (suc t) 0) (SomeZero raw start rows (suc t) 0) w
  next_decides t w d = record {
    one = λ e s i m stands up. d.one e s i m stands (down s i m stands up);
    every = λ h. d.every (λ s i m stands up. h s i m stands (over s i up));
    zero = λ e. let (s, i, m, stands, up, v) = d.zero e in (s, i, m, stands, over s i up, v);
    some = λ h. let (s, i, m, stands, up, v) = h in d.some (s, i, m, stands, down s i m stands up, v);
  }
    where
      last : (s : ℕ) → s < suc t → (s < t) ⊎ (s ≡ t)
      last s lt = grind arith

      down : (s i m : ℕ) → slice_get raw.constraints i ≡ Some m → IsUpTo (suc t) 0 s i
          → IsUpTo t (length raw.constraints) s i
      down s i m stands (inl lt) = elim (last s lt) [
        | inl before ↦ inl before
        | inr same ↦ inr (same, slice_get_within raw.constraints i m stands)
      ]
      down s i m stands (inr h) = absurd (omega (arith, h.1))

      over : (s i : ℕ) → IsUpTo t (length raw.constraints) s i → IsUpTo (suc t) 0 s i
      over s i (inl lt) = inl (omega arith)
      over s i (inr h) = inl (omega (arith, h.0))

  -- a bad literal and all constraints up to its frame
  guard_decides : (t b : ℕ) (u w : Tern) → Value raw start rows t b u
      → Decides (AllOne raw start rows t (length raw.constraints)) (SomeZero raw start rows t (length raw.constraints)) w
      → Decides (ReachesBad raw start rows t b) (IsExcluded raw start rows t b) (kleene_and u w)
  guard_decides t b u w here d = record {
    one = λ e.
        let (eu, ew) = and_one u w e in (
          subst (λ x. Value raw start rows t b x) eu here,
          λ s c le has. let (i, stands) = position_of raw.constraints c has in
              d.one ew s i c stands (up s i c le stands),
        );
    every = λ h.
        let eu = one_value here h.0 in
        let ew = d.every (λ s i m stands upto.
        h.1 s m (within s i upto) (Contains-from_slice_get raw.constraints i m stands)) in
        rw (eu, ew) refl;
    zero = λ e. elim (and_zero u w e) [
      | inl eu ↦ inl (subst (λ x. Value raw start rows t b x) eu here)
      | inr ew ↦
          (let (s, i, m, stands, upto, v) = d.zero ew in
          inr (s, m, within s i upto, Contains-from_slice_get raw.constraints i m stands, v))
    ];
    some = λ h. excluded h;
  }
    where
      cases : (s : ℕ) → s ≤ t → (s < t) ⊎ (s ≡ t)
      cases s le = grind arith

      up : (s i c : ℕ) → s ≤ t → slice_get raw.constraints i ≡ Some c → IsUpTo t (length raw.constraints) s i
      up s i c le stands = elim (cases s le) [
        | inl before ↦ inl before
        | inr same ↦ inr (same, slice_get_within raw.constraints i c stands)
      ]

      within : (s i : ℕ) → IsUpTo t (length raw.constraints) s i → s ≤ t
      within s i (inl lt) = omega arith
      within s i (inr h) = omega (arith, h.0)

      excluded : IsExcluded raw start rows t b → kleene_and u w ≡ Zero
      excluded (inl v) = ap (λ x. kleene_and x w) (one_value here v)
      excluded (inr h) =
          let (s, c, le, has, v) = h in
          let (i, stands) = position_of raw.constraints c has in
          ap (kleene_and u) (d.some (s, i, c, stands, up s i c le stands, v)) ∙ and-zero u

  guarded_value : (t b : ℕ) (w : Tern)
      → Decides (ReachesBad raw start rows t b) (IsExcluded raw start rows t b) w → GuardedValue raw start rows t b w
  guarded_value t b One d = d.one refl
  guarded_value t b Zero d = d.zero refl
  guarded_value t b X d =
      (λ h. let e : X ≡ One = d.every h in cc, λ h. let e : X ≡ Zero = d.some h in cc)

  one_guarded_value : (t b : ℕ) (v w : Tern)
      → Decides (ReachesBad raw start rows t b) (IsExcluded raw start rows t b) w → GuardedValue raw start rows t b v
      → w ≡ v
  one_guarded_value t b One w d h = d.every h
  one_guarded_value t b Zero w d h = d.some h
  one_guarded_value t b X X d h = refl
  one_guarded_value t b X One d h = absurd (h.0 (d.one refl))
  one_guarded_value t b X Zero d h = absurd (h.1 (d.zero refl))

  module _ (order : List ℕ) (canonical : IsCanonicalOrder raw order) (fits : Fits raw start rows)
      (allowed : IsAllowed raw start) where
    -- the value of a literal that is used
    used_value : (t l : ℕ) → t < length rows → IsDefined raw (variable l)
        → (u : Tern) × Value raw start rows t l u
        × UnrolledValue raw order start rows (frame_literal raw order (length rows) t l) u
    used_value t l lt defined =
        let (u, here) = exists_value raw start rows circuit.sound circuit.acyclic fits t lt l defined in
        (u, here, frame_value raw circuit order canonical start rows fits allowed lt here)

    -- without constraints a bad literal is what it is in the circuit
    alone_decides : length raw.constraints ≡ 0 → (t b : ℕ) (u : Tern) → Value raw start rows t b u
        → Decides (ReachesBad raw start rows t b) (IsExcluded raw start rows t b) u
    alone_decides none t b u here = record {
      one = λ e. (subst (λ x. Value raw start rows t b x) e here, λ s c le has. absurd (omega (arith, has.1)));
      every = λ h. one_value here h.0;
      zero = λ e. inl (subst (λ x. Value raw start rows t b x) e here);
      some = λ h. elim h [ inl v ↦ one_value here v | inr x ↦ absurd (nothing x) ];
    }
      where
        nothing : (s : ℕ) × (c : ℕ) × (s ≤ t) × Contains raw.constraints c × Value raw start rows s c Zero → ⊥
        nothing (s, c, le, has, v) = omega (arith, has.1)

    pub alone_bad : has_guards raw ≡ false → length raw.constraints ≡ 0 → GuardsBad raw order start rows
    alone_bad off none t p b lt at =
        let uses = each_use (λ l. IsDefined raw (variable l)) raw circuit.sound.defined in
        let defined = All-at (λ l. IsDefined raw (variable l)) raw.bad p b uses.bad at in
        let (u, here, there) = used_value t b lt defined in
        let decides = alone_decides none t b u here in
        let f : ℕ → ℕ = frame_literal raw order (length rows) t in (
          f b,
          place_at (frame_bad raw order (length rows)) (length raw.bad) (length rows) t p (f b)
              (length-frame_bad raw order (length rows)) lt
              (ap (λ (ls : List ℕ). slice_get ls p) (bad_off raw order (length rows) t off)
              ∙ slice_get-map f raw.bad p ∙ ap (option_map f) at),
          λ x. (
            λ h. let e : u ≡ x = unique (unrolled raw order (length rows)) []
                (unrolled_row raw start rows ∷ []) (unrolled_sound raw circuit order canonical (length rows)) there h in
                subst (GuardedValue raw start rows t b) e (guarded_value t b u decides),
            λ h. subst (λ y. UnrolledValue raw order start rows (f b) y) (one_guarded_value t b x u decides h) there,
          ),
        )

  module _ (order : List ℕ) (canonical : IsCanonicalOrder raw order) (fits : Fits raw start rows)
      (allowed : IsAllowed raw start) (on : AreGuarded raw) where
    ordinary : ℕ → List Gate
    ordinary t = map (frame_gate raw order (length rows) t) (ordered_gates raw order)

    chain : ℕ → List Gate
    chain t = map (chain_gate raw order (length rows) t) (range_with_len 0 (chain_count raw))

    guards : ℕ → List Gate
    guards t = map (guard_gate raw order (length rows) t) (range_with_len 0 (guard_count raw))

    -- where chain gates and guard gates stand
    chain_at : (t c : ℕ) → t < length rows → c < chain_count raw
        → (j : ℕ) × (slice_get (unrolled raw order (length rows)).gates j ≡ Some (chain_gate raw order (length rows) t c))
    unfolding ordinary chain guards
    chain_at t c lt below =
        frames_at (frame_gates raw order (length rows)) (length rows) t (length (ordinary t) + c)
        (chain_gate raw order (length rows) t c) lt
        (slice_get_left (ordinary t ++ chain t) (guards t) (length (ordinary t) + c)
        (chain_gate raw order (length rows) t c)
        (slice_get_right (ordinary t) (chain t) c (chain_gate raw order (length rows) t c)
        (at_range (chain_gate raw order (length rows) t) (chain_count raw) c below)))

    guard_at : (t p : ℕ) → t < length rows → p < guard_count raw
        → (j : ℕ) × (slice_get (unrolled raw order (length rows)).gates j ≡ Some (guard_gate raw order (length rows) t p))
    unfolding ordinary chain guards
    guard_at t p lt below =
        frames_at (frame_gates raw order (length rows)) (length rows) t (length (ordinary t ++ chain t) + p)
        (guard_gate raw order (length rows) t p) lt
        (slice_get_right (ordinary t ++ chain t) (guards t) p (guard_gate raw order (length rows) t p)
        (at_range (guard_gate raw order (length rows) t) (guard_count raw) p below))

    gate_value : (j lhs a b : ℕ) (u w : Tern)
        → slice_get (unrolled raw order (length rows)).gates j ≡ Some (ready_gate lhs a b)
        → UnrolledValue raw order start rows a u → UnrolledValue raw order start rows b w
        → UnrolledValue raw order start rows lhs (kleene_and u w)
    gate_value j lhs a b u w at va vb =
        of_ready (unrolled raw order (length rows)) [] (unrolled_row raw start rows ∷ [])
        (unrolled_sound raw circuit order canonical (length rows)).definitions 0 j lhs a b u w at va vb

    first_link : Linked raw order start rows 0 0
    first_link = (
      One,
      value.constant_true 0,
      record {
        one = λ e s i m stands up. absurd (nothing s i up);
        every = λ h. refl;
        zero = λ e. cc;
        some = λ h. let (s, i, m, stands, up, v) = h in absurd (nothing s i up);
      },
    )
      where
        nothing : (s i : ℕ) → IsUpTo 0 0 s i → ⊥
        nothing s i (inl lt) = omega arith
        nothing s i (inr h) = omega (arith, h.1)

    next_link : (t c : ℕ) → t < length rows → c < length raw.constraints → Linked raw order start rows t c
        → Linked raw order start rows t (suc c)
    next_link t c lt below (w, v, d) =
        let uses = each_use (λ l. IsDefined raw (variable l)) raw circuit.sound.defined in
        let (l, at) = stands_at raw.constraints c below in
        let defined = All-at (λ l. IsDefined raw (variable l)) raw.constraints c l uses.constraints at in
        let (u, here, there) = used_value order canonical fits allowed t l lt defined in
        let is : l ≡ slice_index raw.constraints c = sym (get_or_from_slice_get raw.constraints c l 0 at) in
        let (j, stands) = chain_at t c lt (omega (arith, on.chain)) in (
          kleene_and u w,
          gate_value j (chain_literal raw (length rows) t c)
              (frame_literal raw order (length rows) t (slice_index raw.constraints c))
              (link_before raw (length rows) t c) u w stands
              (subst (λ n. UnrolledValue raw order start rows (frame_literal raw order (length rows) t n) u) is there) v,
          step_decides t c l u w at here d,
        )

    along : (t c : ℕ) → t < length rows → c ≤ length raw.constraints → Linked raw order start rows t 0
        → Linked raw order start rows t c
    along t zero lt le first = first
    along t (suc c) lt le first = next_link t c lt (omega arith) (along t c lt (omega arith) first)

    last_link : (t n : ℕ) → n ≡ length raw.constraints → link_before raw (length rows) t n ≡ last_chain raw (length rows) t
    last_link t zero e = absurd (omega (arith, on.constraints))
    last_link t (suc n) e =
        let f : n ≡ chain_count raw - 1 = omega (arith, on.chain) in ap (chain_literal raw (length rows) t) f

    -- the last chain literal of a frame
    full_chain : (t : ℕ) → Linked raw order start rows t (length raw.constraints)
        → (w : Tern) × UnrolledValue raw order start rows (last_chain raw (length rows) t) w
        × Decides (AllOne raw start rows t (length raw.constraints))
        (SomeZero raw start rows t (length raw.constraints)) w
    full_chain t (w, v, d) =
        (w, subst (λ n. UnrolledValue raw order start rows n w) (last_link t (length raw.constraints) refl) v, d)

    first_of_frame : (t : ℕ) → t < length rows → Linked raw order start rows t 0
    first_of_frame zero lt = first_link
    first_of_frame (suc t) lt =
        let (w, v, d) = full_chain t (along t (length raw.constraints) (omega arith) (omega arith)
        (first_of_frame t (omega arith))) in
        (w, v, next_decides t w d)

    -- each bad literal of each frame is what its guard is
    pub guards_bad : GuardsBad raw order start rows
    guards_bad t p b lt at =
        let uses = each_use (λ l. IsDefined raw (variable l)) raw circuit.sound.defined in
        let defined = All-at (λ l. IsDefined raw (variable l)) raw.bad p b uses.bad at in
        let (u, here, there) = used_value order canonical fits allowed t b lt defined in
        let (w, v, d) = full_chain t (along t (length raw.constraints) lt (omega arith) (first_of_frame t lt)) in
        let below : p < guard_count raw = omega (arith, on.guards, slice_get_within raw.bad p b at) in
        let (j, stands) = guard_at t p lt below in
        let is : b ≡ slice_index raw.bad p = sym (get_or_from_slice_get raw.bad p b 0 at) in
        let known : UnrolledValue raw order start rows (guard_literal raw (length rows) t p) (kleene_and u w) =
        gate_value j (guard_literal raw (length rows) t p)
        (frame_literal raw order (length rows) t (slice_index raw.bad p)) (last_chain raw (length rows) t) u w stands
        (subst (λ n. UnrolledValue raw order start rows (frame_literal raw order (length rows) t n) u) is there) v in
        let decides = guard_decides t b u w here d in (
          guard_literal raw (length rows) t p,
          place_at (frame_bad raw order (length rows)) (length raw.bad) (length rows) t p
              (guard_literal raw (length rows) t p) (length-frame_bad raw order (length rows)) lt
              (ap (λ (ls : List ℕ). slice_get ls p) (bad_on raw order (length rows) t on.on)
              ∙ at_range (guard_literal raw (length rows) t) (guard_count raw) p below),
          λ x. (
            λ h. let e : kleene_and u w ≡ x = unique (unrolled raw order (length rows)) []
                (unrolled_row raw start rows ∷ []) (unrolled_sound raw circuit order canonical (length rows)) known h in
                subst (GuardedValue raw start rows t b) e (guarded_value t b (kleene_and u w) decides),
            λ h. subst (λ y. UnrolledValue raw order start rows (guard_literal raw (length rows) t p) y)
                (one_guarded_value t b x (kleene_and u w) decides h) known,
          ),
        )

-- with constraints or without, each bad literal of each frame is what its guard is
pub all_bad : (raw : Raw) → IsCircuit raw → (order : List ℕ) → IsCanonicalOrder raw order
    → (start : List Tern) (rows : List (List Tern)) → Fits raw start rows → IsAllowed raw start
    → GuardsBad raw order start rows
all_bad raw circuit order canonical start rows fits allowed t p b lt at = go (has_guards raw) refl
  where
    below : 0 < length raw.bad
    below = let k = slice_get_within raw.bad p b at in omega arith

    none : has_guards raw ≡ false → length raw.constraints ≡ 0
    none off =
        let e : nat_lt 0 (length raw.bad) ≡ true = (let k = below in grind (arith, nat_tests)) in
        let f : (true && nat_lt 0 (length raw.constraints)) ≡ false = rw e at off in
        grind (arith, nat_tests)

    go : (d : Bool) → has_guards raw ≡ d
        → (g : ℕ) × (slice_get (unrolled raw order (length rows)).bad (t * length raw.bad + p) ≡ Some g)
        × ((w : Tern) → UnrolledValue raw order start rows g w ↔ GuardedValue raw start rows t b w)
    go true e = guards_bad raw circuit start rows order canonical fits allowed (guarded raw e) t p b lt at
    go false e = alone_bad raw circuit start rows order canonical fits allowed e (none e) t p b lt at
