-- The comment lines of a formula over a part name the inputs of the unrolled part.
use Rattle.std.proofs.Common.{◌≡◌, ℕ, zero, suc, ◌+◌, ◌<◌, Bool, true, false, ◌&&◌, List, [], ◌∷◌, ◌++◌, length, map, drop}
use Rattle.std.proofs.Common.{slice_index, Some, slice_get, refl, sym, ◌∙◌, ap, ap₂, arith}
use Rattle.std.specs.Prelude.{None, if◌then◌else◌}
use Rattle.std.specs.List.{filter}
use Rattle.std.proofs.lemmas.List.{map-append, drop_more, drop_all}
use Rattle.std.proofs.lemmas.List.Elements.{filter-append}
use Rattle.std.proofs.lemmas.List.FromFn.{length-map-range_with_len, get_or-map-range_with_len}
use Rattle.std.proofs.lemmas.Option.{slice_get-map, get_or_from_slice_get}
use Rattle.std.specs.Option.{option_map}
use Rattle.aig_parts.specs.Literal.{variable}
use Rattle.aig_parts.specs.declared.latch.Latch.{Latch}
use Rattle.aig_parts.specs.declared.raw.Raw.{Raw}
use Rattle.aig_base.specs.Circuit.{IsCircuit}
use Rattle.aig_base.specs.Order.{IsCanonicalOrder}
use Rattle.aig_base.specs.Part.{TestsRead, input_marks, latch_marks, part, picked}
use Rattle.aig_base.proofs.lists.Positions.{stands_at}
use Rattle.aig_unroll.specs.FrameLiteral.{frame_literal, is_uninitialised}
use Rattle.aig_unroll.specs.InputMap.{Origin, input, start, frame_origins, has_mark, is_of, origin_literal, origins}
use Rattle.aig_unroll.specs.InputMap.{read_origins, start_origins}
use Rattle.aig_unroll.specs.Unrolled.{frames, unrolled}
use Rattle.aig_unroll.proofs.InputMapLaw.{all_inputs}
use Rattle.aig_unroll.proofs.KeptLines.{all_kept}
use Rattle.aig_cnf.specs.Query.{subject, uninitialised_latch}
use Rattle.aig_cnf.specs.ReadMap.{ReportsReadInputs, literal_by}
use Rattle.aig_cnf.specs.declared.query.Goal.{Goal}
use Rattle.aig_cnf.specs.declared.query.Goal.TheVariants as asked
use Rattle.aig_cnf.proofs.AnyCircuit.{subject_circuit}
use Rattle.aig_cnf.proofs.PartCircuit.{part_circuit}

-- the items that pass a test
abbrev passing : {A : Type 0} → (A → Bool) → List A → List A
passing test xs = picked (map test xs) xs

-- one more, if it does
abbrev more : {A : Type 0} → Bool → A → List A → List A
more b x xs = if b then x ∷ xs else xs

passing_more : {A : Type 0} (test : A → Bool) (x : A) (xs : List A) (b : Bool) → test x ≡ b
    → passing test (x ∷ xs) ≡ more b x (passing test xs)
unfolding picked
passing_more test x xs b e = ap (λ (c : Bool). if c then x ∷ passing test xs else passing test xs) e

passing_none : {A : Type 0} (test : A → Bool) → passing test [] ≡ []
unfolding picked
passing_none test = refl

passing_all : {A : Type 0} (xs : List A) → passing (λ x. true) xs ≡ xs
passing_all [] = passing_none (λ x. true)
passing_all (x ∷ xs) =
    passing_more (λ y. true) x xs true refl ∙ ap (λ (ys : List _). x ∷ ys) (passing_all xs)

-- a circuit, a test of its variables, and a literal of each literal at each frame
module _ (raw : Raw) (test : ℕ → Bool) (at : ℕ → ℕ → ℕ) where
  abbrev literal : Origin → ℕ
  literal = literal_by at raw

  abbrev reads : ℕ → Bool
  reads l = test (variable l)

  abbrev holds : Latch → Bool
  holds x = test (variable x.lit)

  filter_more : (o : Origin) (os : List Origin) (b : Bool) → is_of test raw o ≡ b
      → filter (is_of test raw) (o ∷ os) ≡ more b o (filter (is_of test raw) os)
  filter_more o os b e =
      ap (λ (c : Bool). if c then o ∷ filter (is_of test raw) os else filter (is_of test raw) os) e

  -- ---- inputs

  next_input : (t p l : ℕ) (ls : List ℕ) (os : List Origin) (b : Bool) → slice_index raw.inputs p ≡ l → test (variable l) ≡ b
      → map literal (filter (is_of test raw) os) ≡ map (at t) (passing reads ls)
      → map literal (filter (is_of test raw) (input t p ∷ os)) ≡ map (at t) (passing reads (l ∷ ls))
  next_input t p l ls os true is e later =
      ap (map literal) (filter_more (input t p) os true (ap (λ m. test (variable m)) is ∙ e))
      ∙ ap₂ (λ (m : ℕ) (ms : List ℕ). m ∷ ms) (ap (at t) is) later
      ∙ ap (map (at t)) (sym (passing_more reads l ls true e))
  next_input t p l ls os false is e later =
      ap (map literal) (filter_more (input t p) os false (ap (λ m. test (variable m)) is ∙ e))
      ∙ later ∙ ap (map (at t)) (sym (passing_more reads l ls false e))

  inputs_from : (t n p : ℕ) → p + n ≡ length raw.inputs
      → map literal (filter (is_of test raw) (drop p (frame_origins raw t))) ≡ map (at t) (passing reads (drop p raw.inputs))
  inputs_from t zero p e =
      let size = length-map-range_with_len (input t) 0 (length raw.inputs) in
      ap (λ (os : List Origin). map literal (filter (is_of test raw) os)) (drop_all p (frame_origins raw t) (omega (arith, e, size)))
      ∙ ap (map (at t)) (sym (passing_none reads))
      ∙ ap (λ (ls : List ℕ). map (at t) (passing reads ls)) (sym (drop_all p raw.inputs (omega (arith, e))))
  inputs_from t (suc n) p e =
      let os = frame_origins raw t in
      let lt : p < length raw.inputs = omega (arith, e) in
      let below : p < length os = omega (arith, lt, length-map-range_with_len (input t) 0 (length raw.inputs)) in
      let (l, there) = stands_at raw.inputs p lt in
      let left : drop p os ≡ input t p ∷ drop (p + 1) os =
      drop_more os p (input t p) below
      ∙ ap (λ (o : Origin). o ∷ drop (p + 1) os)
      (get_or-map-range_with_len (input t) 0 (length raw.inputs) p p (input t p) lt (omega arith)) in
      let right : drop p raw.inputs ≡ l ∷ drop (p + 1) raw.inputs =
      drop_more raw.inputs p l lt ∙ ap (λ m. m ∷ drop (p + 1) raw.inputs) (get_or_from_slice_get raw.inputs p l l there) in
      ap (λ (qs : List Origin). map literal (filter (is_of test raw) qs)) left
      ∙ next_input t p l (drop (p + 1) raw.inputs) (drop (p + 1) os) (test (variable l))
      (get_or_from_slice_get raw.inputs p l 0 there) refl (inputs_from t n (p + 1) (omega (arith, e)))
      ∙ ap (λ (ls : List ℕ). map (at t) (passing reads ls)) (sym right)

  frames_are : (k : ℕ) → map literal (filter (is_of test raw) (frames (frame_origins raw) k))
      ≡ frames (λ t. map (at t) (passing reads raw.inputs)) k
  frames_are zero = refl
  frames_are (suc k) =
      ap (map literal) (filter-append (is_of test raw) (frames (frame_origins raw) k) (frame_origins raw k))
      ∙ map-append literal (filter (is_of test raw) (frames (frame_origins raw) k)) (filter (is_of test raw) (frame_origins raw k))
      ∙ ap₂ (λ (ls ms : List ℕ). ls ++ ms) (frames_are k) (inputs_from k (length raw.inputs) 0 (omega arith))

  -- ---- starts of latches

  abbrev starts : List Latch → List ℕ
  starts xs = map (λ (x : Latch). at 0 x.lit) (filter is_uninitialised (passing holds xs))

  starts_more : (x : Latch) (xs : List Latch) (u b : Bool) → is_uninitialised x ≡ u → test (variable x.lit) ≡ b
      → starts (x ∷ xs) ≡ more (u && b) (at 0 x.lit) (starts xs)
  starts_more x xs u true own e =
      ap (λ (ys : List Latch). map (λ (y : Latch). at 0 y.lit) (filter is_uninitialised ys)) (passing_more holds x xs true e)
      ∙ go u own
    where
      go : (v : Bool) → is_uninitialised x ≡ v
          → map (λ (y : Latch). at 0 y.lit) (filter is_uninitialised (x ∷ passing holds xs)) ≡ more (v && true) (at 0 x.lit) (starts xs)
      go true k =
          ap (λ (c : Bool). map (λ (y : Latch). at 0 y.lit)
          (if c then x ∷ filter is_uninitialised (passing holds xs) else filter is_uninitialised (passing holds xs))) k
      go false k =
          ap (λ (c : Bool). map (λ (y : Latch). at 0 y.lit)
          (if c then x ∷ filter is_uninitialised (passing holds xs) else filter is_uninitialised (passing holds xs))) k
  starts_more x xs true false own e =
      ap (λ (ys : List Latch). map (λ (y : Latch). at 0 y.lit) (filter is_uninitialised ys)) (passing_more holds x xs false e)
  starts_more x xs false false own e =
      ap (λ (ys : List Latch). map (λ (y : Latch). at 0 y.lit) (filter is_uninitialised ys)) (passing_more holds x xs false e)

  origins_more : (p : ℕ) (x : Latch) (xs : List Latch) (u b : Bool) → slice_index (map (λ (y : Latch). y.lit) raw.latches) p ≡ x.lit
      → is_uninitialised x ≡ u → test (variable x.lit) ≡ b
      → map literal (filter (is_of test raw) (start_origins p (x ∷ xs)))
      ≡ more (u && b) (at 0 x.lit) (map literal (filter (is_of test raw) (start_origins (p + 1) xs)))
  unfolding start_origins
  origins_more p x xs true true is own e =
      let s = start_origins (p + 1) xs in
      ap (λ (c : Bool). map literal (filter (is_of test raw) (if c then start p ∷ s else s))) own
      ∙ ap (map literal) (filter_more (start p) s true (ap (λ m. test (variable m)) is ∙ e))
      ∙ ap (λ m. at 0 m ∷ map literal (filter (is_of test raw) s)) is
  origins_more p x xs true false is own e =
      let s = start_origins (p + 1) xs in
      ap (λ (c : Bool). map literal (filter (is_of test raw) (if c then start p ∷ s else s))) own
      ∙ ap (map literal) (filter_more (start p) s false (ap (λ m. test (variable m)) is ∙ e))
  origins_more p x xs false b is own e =
      let s = start_origins (p + 1) xs in
      ap (λ (c : Bool). map literal (filter (is_of test raw) (if c then start p ∷ s else s))) own

  starts_none : (p : ℕ) → map literal (filter (is_of test raw) (start_origins p [])) ≡ starts []
  unfolding picked start_origins
  starts_none p = refl

  starts_from : (n p : ℕ) → p + n ≡ length raw.latches
      → map literal (filter (is_of test raw) (start_origins p (drop p raw.latches))) ≡ starts (drop p raw.latches)
  starts_from zero p e =
      let none = drop_all p raw.latches (omega (arith, e)) in
      ap (λ (xs : List Latch). map literal (filter (is_of test raw) (start_origins p xs))) none
      ∙ starts_none p ∙ ap starts (sym none)
  starts_from (suc n) p e =
      let lt : p < length raw.latches = omega (arith, e) in
      let (x, there) = stands_at raw.latches p lt in
      let xs = drop (p + 1) raw.latches in
      let more_are : drop p raw.latches ≡ x ∷ xs =
      drop_more raw.latches p x lt ∙ ap (λ (y : Latch). y ∷ xs) (get_or_from_slice_get raw.latches p x x there) in
      let lit : slice_index (map (λ (y : Latch). y.lit) raw.latches) p ≡ x.lit =
      get_or_from_slice_get (map (λ (y : Latch). y.lit) raw.latches) p x.lit 0
      (slice_get-map (λ (y : Latch). y.lit) raw.latches p ∙ ap (option_map (λ (y : Latch). y.lit)) there) in
      let u = is_uninitialised x in
      let b = test (variable x.lit) in
      ap (λ (ys : List Latch). map literal (filter (is_of test raw) (start_origins p ys))) more_are
      ∙ origins_more p x xs u b lit refl refl
      ∙ ap (more (u && b) (at 0 x.lit)) (starts_from n (p + 1) (omega (arith, e)))
      ∙ sym (starts_more x xs u b refl refl) ∙ ap starts (sym more_are)

  -- ---- all

  all_are : (k : ℕ) → map literal (read_origins test raw k)
      ≡ frames (λ t. map (at t) (passing reads raw.inputs)) k ++ starts raw.latches
  all_are k =
      ap (map literal) (filter-append (is_of test raw) (frames (frame_origins raw) k) (start_origins 0 raw.latches))
      ∙ map-append literal (filter (is_of test raw) (frames (frame_origins raw) k)) (filter (is_of test raw) (start_origins 0 raw.latches))
      ∙ ap₂ (λ (ls ms : List ℕ). ls ++ ms) (frames_are k) (starts_from (length raw.latches) 0 (omega arith))

-- ---- the part

passing_map : {A : Type 0} (test : A → Bool) (f : A → A) (xs : List A) → ((x : A) → test (f x) ≡ test x)
    → passing test (map f xs) ≡ map f (passing test xs)
passing_map test f [] same = passing_none test ∙ ap (map f) (sym (passing_none test))
passing_map test f (x ∷ xs) same =
    passing_more test (f x) (map f xs) (test x) (same x)
    ∙ ap (more (test x) (f x)) (passing_map test f xs same)
    ∙ go (test x) ∙ ap (map f) (sym (passing_more test x xs (test x) refl))
  where
    go : (b : Bool) → more b (f x) (map f (passing test xs)) ≡ map f (more b x (passing test xs))
    go true = refl
    go false = refl

module _ (raw : Raw) (bad : ℕ) (test : ℕ → Bool) where
  same_inputs : (goal : Goal) → passing (λ l. test (variable l)) (subject goal raw).inputs ≡ (subject goal (part raw bad test)).inputs
  same_inputs asked.Within = refl
  same_inputs asked.Last = refl
  same_inputs asked.Step = refl
  same_inputs asked.Induction = refl

  same_latches : (goal : Goal)
      → passing (λ (x : Latch). test (variable x.lit)) (subject goal raw).latches ≡ (subject goal (part raw bad test)).latches
  same_latches asked.Within = refl
  same_latches asked.Last = refl
  same_latches asked.Step = passing_map (λ (x : Latch). test (variable x.lit)) uninitialised_latch raw.latches (λ x. refl)
  same_latches asked.Induction = passing_map (λ (x : Latch). test (variable x.lit)) uninitialised_latch raw.latches (λ x. refl)

  pub reads_map : IsCircuit raw → (p : ℕ) → slice_get raw.bad p ≡ Some bad → TestsRead raw bad test → (goal : Goal)
      (order : List ℕ) → IsCanonicalOrder (subject goal (part raw bad test)) order → (k : ℕ)
      → ReportsReadInputs raw bad test goal order k (unrolled (subject goal (part raw bad test)) order k).inputs
  reads_map circuit p is exact goal order canonical k =
      let small : Raw = subject goal (part raw bad test) in
      let at = frame_literal small order k in
      let as_latch : List Latch → List ℕ = λ xs. map (λ (x : Latch). at 0 x.lit) (filter is_uninitialised xs) in
      all_are (subject goal raw) test at k
      ∙ ap₂ (λ (ls : List ℕ) (xs : List Latch). frames (λ t. map (at t) ls) k ++ as_latch xs) (same_inputs goal) (same_latches goal)
      ∙ sym (ap₂ (λ (ls : List ℕ) (xs : List Latch). frames (λ t. map (at t) ls) k ++ as_latch xs)
      (passing_all small.inputs) (passing_all small.latches))
      ∙ sym (all_are small (has_mark None) at k)
      ∙ ap (map (literal_by at small)) (all_kept small (origins small k))
      ∙ by_origin small order k (origins small k)
      ∙ all_inputs small (subject_circuit goal (part raw bad test) (part_circuit raw bad test exact circuit p is)) order canonical k
    where
      by_origin : (small : Raw) (order : List ℕ) (k : ℕ) (os : List Origin)
          → map (literal_by (frame_literal small order k) small) os ≡ map (origin_literal small order k) os
      by_origin small order k [] = refl
      by_origin small order k (input t p ∷ os) =
          ap (λ (ls : List ℕ). frame_literal small order k t (slice_index small.inputs p) ∷ ls) (by_origin small order k os)
      by_origin small order k (start p ∷ os) =
          ap (λ (ls : List ℕ). frame_literal small order k 0 (slice_index (map (λ (x : Latch). x.lit) small.latches) p) ∷ ls)
          (by_origin small order k os)
