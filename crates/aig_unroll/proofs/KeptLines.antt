-- The lines of the inputs of an unrolled circuit whose variable has a mark.
use Rattle.std.proofs.Common.{◌≡◌, ℕ, suc, ◌+◌, ◌<◌, ◌≤◌, Bool, true, false, ◌&&◌, List, [], ◌∷◌, ◌++◌, length, drop, get_or}
use Rattle.std.proofs.Common.{map, Option, None, Ok, Err, IsErr, Result, refl, sym, ap, ◌∙◌, arith, add-one, length-append}
use Rattle.std.specs.Prelude.{if◌then◌else◌, slice_index}
use Rattle.std.specs.List.{filter}
use Rattle.std.proofs.lemmas.List.{append-nil, drop_more, drop_all, get_or-map}
use Rattle.std.proofs.lemmas.List.Elements.{filter-append}
use Rattle.std.proofs.lemmas.List.FromFn.{length-map-range_with_len, get_or-map-range_with_len}
use Rattle.std.proofs.lemmas.Option.{get_or_from_slice_get}
use Rattle.aig_bytes.specs.Bytes.{Writes}
use Rattle.aig_bytes.proofs.WriteLemmas.{writes_same}
use Rattle.aig_parts.specs.Literal.{variable}
use Rattle.aig_parts.specs.declared.latch.Latch.{Latch}
use Rattle.aig_parts.specs.declared.raw.Raw.{Raw}
use Rattle.aig_base.proofs.lists.Positions.{stands_at}
use Rattle.aig_unroll.specs.FrameLiteral.{is_uninitialised}
use Rattle.aig_unroll.specs.InputMap.{Origin, input, start, frame_origins, has_mark, is_of, origin_line, origin_lines}
use Rattle.aig_unroll.specs.InputMap.{start_origins}
use Rattle.aig_unroll.specs.state.MapLines.{after_kept, is_kept_start, kept, kept_lines, line_if, number_after}
use Rattle.aig_unroll.specs.Unrolled.{frames}
use Rattle.aig_unroll.proofs.InputMapLines.{Partly, partly_more, partly_stops, lines_append, lines_first, lines_none}
use Rattle.aig_unroll.proofs.InputMapLines.{frames_split}

-- without marks all are kept
pub all_kept : (raw : Raw) (os : List Origin) → filter (is_of (has_mark None) raw) os ≡ os
all_kept raw [] = refl
all_kept raw (input t p ∷ os) = ap (λ (ps : List Origin). input t p ∷ ps) (all_kept raw os)
all_kept raw (start p ∷ os) = ap (λ (ps : List Origin). start p ∷ ps) (all_kept raw os)

module _ (marks : Option (List Bool)) (prefix : List ℕ) (raw : Raw) where
  -- of two lists
  pub kept_append : (n m : ℕ) (os ps : List Origin) → m ≡ after_kept marks raw n os
      → kept_lines marks prefix raw n (os ++ ps) ≡ kept_lines marks prefix raw n os ++ kept_lines marks prefix raw m ps
  kept_append n m os ps e =
      ap (origin_lines prefix raw n) (filter-append (is_of (has_mark marks) raw) os ps)
      ∙ lines_append prefix raw n (kept marks raw os) (kept marks raw ps)
      ∙ ap (λ i. origin_lines prefix raw n (kept marks raw os) ++ origin_lines prefix raw i (kept marks raw ps)) (sym e)

  pub after_append : (n m : ℕ) (os ps : List Origin) → m ≡ after_kept marks raw n os
      → after_kept marks raw n (os ++ ps) ≡ after_kept marks raw m ps
  after_append n m os ps e =
      let both = ap (λ (qs : List Origin). length qs) (filter-append (is_of (has_mark marks) raw) os ps) in
      omega (arith, e, both, length-append (kept marks raw os) (kept marks raw ps))

  -- of one, and of none
  one_line : (n : ℕ) (o : Origin) (b : Bool)
      → origin_lines prefix raw n (if b then o ∷ [] else []) ≡ line_if b prefix raw n o
  one_line n o true =
      lines_first prefix raw n o []
      ∙ ap (λ (t : List ℕ). (prefix ++ origin_line raw n o) ++ t) (lines_none prefix raw (n + 1))
      ∙ append-nil (prefix ++ origin_line raw n o)
  one_line n o false = lines_none prefix raw n

  one_after : (n : ℕ) (o : Origin) (b : Bool) → n + length (if b then o ∷ [] else []) ≡ number_after b n
  one_after n o true = omega arith
  one_after n o false = omega arith

  rest_lines : (m next : ℕ) (o : Origin) (rest rest' : List Origin) (b : Bool)
      → filter (is_of (has_mark marks) raw) rest ≡ (if b then o ∷ [] else []) ++ filter (is_of (has_mark marks) raw) rest'
      → next ≡ number_after b m
      → kept_lines marks prefix raw m rest ≡ line_if b prefix raw m o ++ kept_lines marks prefix raw next rest'
  rest_lines m next o rest rest' b is e =
      ap (origin_lines prefix raw m) is
      ∙ lines_append prefix raw m (if b then o ∷ [] else []) (kept marks raw rest')
      ∙ ap (λ (t : List ℕ). t ++ origin_lines prefix raw (m + length (if b then o ∷ [] else [])) (kept marks raw rest'))
      (one_line m o b)
      ∙ ap (λ i. line_if b prefix raw m o ++ origin_lines prefix raw i (kept marks raw rest')) (one_after m o b ∙ sym e)

  rest_after : (m next : ℕ) (o : Origin) (rest rest' : List Origin) (b : Bool)
      → filter (is_of (has_mark marks) raw) rest ≡ (if b then o ∷ [] else []) ++ filter (is_of (has_mark marks) raw) rest'
      → next ≡ number_after b m → after_kept marks raw m rest ≡ after_kept marks raw next rest'
  rest_after m next o rest rest' b is e =
      let both = ap (λ (qs : List Origin). length qs) is in
      let joined = length-append (if b then o ∷ [] else []) (kept marks raw rest') in
      let one = one_after m o b in
      omega (arith, e, both, joined, one)

  -- ---- all but the rest

  -- the lines of these inputs are written but for those of the rest, of which the first has the number m
  pub record Midway {X : Type 0} (written : X → Option (List ℕ)) (failures : X → ℕ) (old new : X) (n : ℕ) (whole : List Origin)
      (m : ℕ) (rest : List Origin) : Type 0 where
    pub partly : Partly written failures old new (kept_lines marks prefix raw n whole) (kept_lines marks prefix raw m rest)
    pub number : after_kept marks raw m rest ≡ after_kept marks raw n whole

  module _ {X : Type 0} {written : X → Option (List ℕ)} {failures : X → ℕ} where
    -- the number is not too large
    pub midway_few : {old new : X} {n m : ℕ} {whole rest : List Origin} → Midway written failures old new n whole m rest
        → m ≤ n + length whole
    midway_few {n} {m} {whole} {rest} h =
        let some = few_kept whole in omega (arith, h.number, some)
      where
        few_kept : (os : List Origin) → length (kept marks raw os) ≤ length os
        few_kept [] = omega arith
        few_kept (o ∷ os) =
            elim (is_of (has_mark marks) raw o) as (λ (b : Bool). length (if b then o ∷ kept marks raw os else kept marks raw os) ≤ suc (length os)) [
              | true ↦ omega (arith, few_kept os)
              | false ↦ omega (arith, few_kept os)
            ]

    -- one more, which is kept if b is true
    pub midway_more : {T E : Type 0} {old mid new : X} {n m next : ℕ} {whole rest : List Origin} {x : T} (o : Origin)
        (rest' : List Origin) (b : Bool) → Midway written failures old mid n whole m rest
        → filter (is_of (has_mark marks) raw) rest ≡ (if b then o ∷ [] else []) ++ filter (is_of (has_mark marks) raw) rest'
        → next ≡ number_after b m → Writes {E = E} written failures mid new (line_if b prefix raw m o) (Ok x)
        → Midway written failures old new n whole next rest'
    midway_more {m} {next} {rest} o rest' b h is e w = record {
      partly = partly_more h.partly (rest_lines m next o rest rest' b is e) w;
      number = sym (rest_after m next o rest rest' b is e) ∙ h.number;
    }

    -- the one that failed
    pub midway_stops : {T E S F : Type 0} {old mid new : X} {n m : ℕ} {whole rest : List Origin} {e : E} {s : Result S F}
        (o : Origin) (rest' : List Origin) (b : Bool) → Midway written failures old mid n whole m rest
        → filter (is_of (has_mark marks) raw) rest ≡ (if b then o ∷ [] else []) ++ filter (is_of (has_mark marks) raw) rest'
        → Writes {T = T} written failures mid new (line_if b prefix raw m o) (Err e) → IsErr s
        → Writes written failures old new (kept_lines marks prefix raw n whole) s
    midway_stops {m} {rest} o rest' b h is w k =
        partly_stops (kept_lines marks prefix raw (number_after b m) rest') h.partly
        (rest_lines m (number_after b m) o rest rest' b is refl) w k

    pub midway_done : {S F : Type 0} {old new : X} {n m : ℕ} {whole rest : List Origin} (x : S)
        → Midway written failures old new n whole m rest → rest ≡ []
        → Writes {E = F} written failures old new (kept_lines marks prefix raw n whole) (Ok x)
    midway_done {S} {F} {m} {rest} x h e =
        let w = h.partly.writes in
        writes_same {S = S} {F = F} (record { ok = w.ok; err = tt; count = w.count })
        (sym (append-nil h.partly.done)
        ∙ ap (λ (t : List ℕ). h.partly.done ++ t) (sym (ap (kept_lines marks prefix raw m) e ∙ lines_none prefix raw m))
        ∙ sym h.partly.whole_is)

    pub midway_number : {old new : X} {n m : ℕ} {whole rest : List Origin} → Midway written failures old new n whole m rest
        → rest ≡ [] → m ≡ after_kept marks raw n whole
    midway_number {m} {rest} h e =
        let none = ap (λ (os : List Origin). after_kept marks raw m os) e in omega (arith, none, h.number)

  -- ---- the inputs of a frame, and the starts of latches

  split : (o : Origin) (os : List Origin) (b : Bool) → is_of (has_mark marks) raw o ≡ b
      → filter (is_of (has_mark marks) raw) (o ∷ os) ≡ (if b then o ∷ [] else []) ++ filter (is_of (has_mark marks) raw) os
  split o os true e = ap (λ (c : Bool). if c then o ∷ kept marks raw os else kept marks raw os) e
  split o os false e = ap (λ (c : Bool). if c then o ∷ kept marks raw os else kept marks raw os) e

  pub frame_step : (t i l : ℕ) → i < length raw.inputs → l ≡ get_or raw.inputs i l
      → filter (is_of (has_mark marks) raw) (drop i (frame_origins raw t))
      ≡ (if has_mark marks (variable l) then input t i ∷ [] else [])
      ++ filter (is_of (has_mark marks) raw) (drop (i + 1) (frame_origins raw t))
  frame_step t i l lt is =
      let os = frame_origins raw t in
      let below : i < length os = omega (arith, lt, length-map-range_with_len (input t) 0 (length raw.inputs)) in
      let e : drop i os ≡ input t i ∷ drop (i + 1) os =
      drop_more os i (input t i) below
      ∙ ap (λ (o : Origin). o ∷ drop (i + 1) os)
      (get_or-map-range_with_len (input t) 0 (length raw.inputs) i i (input t i) lt (omega arith)) in
      let (m, at) = stands_at raw.inputs i lt in
      let same : slice_index raw.inputs i ≡ l =
      get_or_from_slice_get raw.inputs i m 0 at ∙ sym (is ∙ get_or_from_slice_get raw.inputs i m l at) in
      ap (filter (is_of (has_mark marks) raw)) e
      ∙ split (input t i) (drop (i + 1) os) (has_mark marks (variable l)) (ap (λ m. has_mark marks (variable m)) same)

  -- the lines of some frames, and of one more
  pub frames_more : (n m t : ℕ) → m ≡ after_kept marks raw n (frames (frame_origins raw) t)
      → kept_lines marks prefix raw n (frames (frame_origins raw) t) ++ kept_lines marks prefix raw m (frame_origins raw t)
      ≡ kept_lines marks prefix raw n (frames (frame_origins raw) (t + 1))
  frames_more n m t e =
      sym (kept_append n m (frames (frame_origins raw) t) (frame_origins raw t) e)
      ∙ ap (λ i. kept_lines marks prefix raw n (frames (frame_origins raw) i)) (sym (add-one t))

  pub frames_number : (n m next t : ℕ) → m ≡ after_kept marks raw n (frames (frame_origins raw) t)
      → next ≡ after_kept marks raw m (frame_origins raw t) → next ≡ after_kept marks raw n (frames (frame_origins raw) (t + 1))
  frames_number n m next t e is =
      is ∙ sym (after_append n m (frames (frame_origins raw) t) (frame_origins raw t) e)
      ∙ ap (λ i. after_kept marks raw n (frames (frame_origins raw) i)) (sym (add-one t))

  -- and those after it
  pub frames_rest : (n m k t : ℕ) → t < k → m ≡ after_kept marks raw n (frames (frame_origins raw) t)
      → (rest : List ℕ) × (kept_lines marks prefix raw n (frames (frame_origins raw) t)
      ++ (kept_lines marks prefix raw m (frame_origins raw t) ++ rest)
      ≡ kept_lines marks prefix raw n (frames (frame_origins raw) k))
  frames_rest n m k t lt e =
      let f = frame_origins raw in
      let (rest, is) = frames_split f k t lt in
      let next = after_kept marks raw m (f t) in (
        kept_lines marks prefix raw next rest,
        ap (λ (ls : List ℕ). kept_lines marks prefix raw n (frames f t) ++ ls) (sym (kept_append m next (f t) rest refl))
            ∙ sym (kept_append n m (frames f t) (f t ++ rest) e) ∙ ap (kept_lines marks prefix raw n) (sym is),
      )

  pub frame_end : (t i : ℕ) → length raw.inputs ≤ i → drop i (frame_origins raw t) ≡ []
  frame_end t i le =
      drop_all i (frame_origins raw t) (omega (arith, le, length-map-range_with_len (input t) 0 (length raw.inputs)))

  start_one : (p : ℕ) (x : Latch) (xs : List Latch) (u : Bool) → is_uninitialised x ≡ u
      → is_of (has_mark marks) raw (start p) ≡ has_mark marks (variable x.lit)
      → filter (is_of (has_mark marks) raw) (start_origins p (x ∷ xs))
      ≡ (if u && has_mark marks (variable x.lit) then start p ∷ [] else [])
      ++ filter (is_of (has_mark marks) raw) (start_origins (p + 1) xs)
  unfolding start_origins
  start_one p x xs u own same =
      let s = start_origins (p + 1) xs in
      ap (λ (t : Bool). filter (is_of (has_mark marks) raw) (if t then start p ∷ s else s)) own ∙ go u
    where
      go : (t : Bool)
          → filter (is_of (has_mark marks) raw) (if t then start p ∷ start_origins (p + 1) xs else start_origins (p + 1) xs)
          ≡ (if t && has_mark marks (variable x.lit) then start p ∷ [] else [])
          ++ filter (is_of (has_mark marks) raw) (start_origins (p + 1) xs)
      go true = split (start p) (start_origins (p + 1) xs) (has_mark marks (variable x.lit)) same
      go false = refl

  pub starts_step : (p : ℕ) (x : Latch) → p < length raw.latches → x ≡ get_or raw.latches p x
      → filter (is_of (has_mark marks) raw) (start_origins p (drop p raw.latches))
      ≡ (if is_kept_start marks x then start p ∷ [] else [])
      ++ filter (is_of (has_mark marks) raw) (start_origins (p + 1) (drop (p + 1) raw.latches))
  starts_step p x lt is =
      let xs = raw.latches in
      let lit : slice_index (map (λ (y : Latch). y.lit) xs) p ≡ x.lit =
      get_or-map (λ (y : Latch). y.lit) xs p x 0 lt ∙ ap (λ (y : Latch). y.lit) (sym is) in
      ap (λ (ys : List Latch). filter (is_of (has_mark marks) raw) (start_origins p ys))
      (drop_more xs p x lt ∙ ap (λ (y : Latch). y ∷ drop (p + 1) xs) (sym is))
      ∙ start_one p x (drop (p + 1) xs) (is_uninitialised x) refl (ap (λ l. has_mark marks (variable l)) lit)

  pub starts_end : (p : ℕ) → length raw.latches ≤ p → start_origins p (drop p raw.latches) ≡ []
  unfolding start_origins
  starts_end p le = ap (start_origins p) (drop_all p raw.latches le)

  few_starts : (p : ℕ) (xs : List Latch) → length (start_origins p xs) ≤ length xs
  unfolding start_origins
  few_starts p [] = omega arith
  few_starts p (x ∷ xs) =
      elim (is_uninitialised x) as (λ (b : Bool). length (if b then start p ∷ start_origins (p + 1) xs else start_origins (p + 1) xs) ≤ suc (length xs)) [
        | true ↦ omega (arith, few_starts (p + 1) xs)
        | false ↦ omega (arith, few_starts (p + 1) xs)
      ]

  pub starts_few : length (start_origins 0 raw.latches) ≤ length raw.latches
  starts_few = few_starts 0 raw.latches

  pub frame_size : (t : ℕ) → length (frame_origins raw t) ≡ length raw.inputs
  frame_size t = length-map-range_with_len (input t) 0 (length raw.inputs)
