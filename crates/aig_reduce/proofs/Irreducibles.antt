-- What is known of a reduced witness.
use Rattle.std.proofs.Common.{◌≡◌, inl, inr, ℕ, zero, suc, ◌<◌, ◌≤◌, List, [], ◌∷◌, ◌++◌, length, map, take, drop}
use Rattle.std.proofs.Common.{get_or, Some, slice_get, slice_set, refl, sym, ap, ◌∙◌, subst, arith}
use Rattle.std.specs.List.{AllZip}
use Rattle.std.proofs.lemmas.Option.{same_Some, slice_get-get_or}
use Rattle.std.proofs.lemmas.List.{append-nil, length-map, nil_from_length}
use Rattle.std.proofs.lemmas.Slice.Zip.{AllZip-long}
use Rattle.aig_parts.specs.declared.ternary.Tern.{Tern}
use Rattle.aig_parts.specs.declared.ternary.Tern.TheVariants.{X}
use Rattle.aig_parts.specs.declared.raw.Raw.{Raw}
use Rattle.aig_base.specs.Circuit.{IsCircuit}
use Rattle.aig_sim.specs.declared.witness.verdict.Verdict.TheVariants as verdict
use Rattle.aig_sim.specs.Verdict.{IsVerdict}
use Rattle.aig_sim.specs.WitnessText.{Witness}
use Rattle.aig_sim.proofs.Completions.{confirmed}
use Rattle.aig_values.specs.InputRows.{HaveWidth, row_at, with_cell}
use Rattle.aig_reduce.specs.Irreducible.{IsConfirmedWitness, IsSameOrX, HoldsReduced}
use Rattle.aig_reduce.specs.Reduction.{values_of, witness_of, with_x_between, IsKept, IsReduced}
use Rattle.aig_reduce.specs.state.Reducing.{IsRunOf}
use Rattle.aig_reduce.proofs.RunLemmas.{confirmed_reaches, reaches_confirmed, reaches_still}

-- ---- lists of values

-- the values of each list are those of the other or x
abbrev pub CoverRow : List Tern → List Tern → Type 0
CoverRow = AllZip IsSameOrX

abbrev pub CoverRows : List (List Tern) → List (List Tern) → Type 0
CoverRows = AllZip CoverRow

same_or_x_then : (a b c : Tern) → IsSameOrX a b → IsSameOrX b c → IsSameOrX a c
same_or_x_then a b c (inl e) q = inl e
same_or_x_then a b c (inr e) (inl f) = inl (e ∙ f)
same_or_x_then a b c (inr e) (inr f) = inr (e ∙ f)

row_then : (xs ys zs : List Tern) → CoverRow xs ys → CoverRow ys zs → CoverRow xs zs
row_then [] [] [] p q = tt
row_then [] [] (z ∷ zs) p q = absurd q
row_then [] (y ∷ ys) zs p q = absurd p
row_then (x ∷ xs) [] zs p q = absurd p
row_then (x ∷ xs) (y ∷ ys) [] p q = absurd q
row_then (x ∷ xs) (y ∷ ys) (z ∷ zs) p q = (same_or_x_then x y z p.0 q.0, row_then xs ys zs p.1 q.1)

pub rows_then : (xs ys zs : List (List Tern)) → CoverRows xs ys → CoverRows ys zs → CoverRows xs zs
rows_then [] [] [] p q = tt
rows_then [] [] (z ∷ zs) p q = absurd q
rows_then [] (y ∷ ys) zs p q = absurd p
rows_then (x ∷ xs) [] zs p q = absurd p
rows_then (x ∷ xs) (y ∷ ys) [] p q = absurd q
rows_then (x ∷ xs) (y ∷ ys) (z ∷ zs) p q = (row_then x y z p.0 q.0, rows_then xs ys zs p.1 q.1)

-- values that have x at a place cover those that have x there and the other's values after it
covers_row : (v new given : List Tern) (p : ℕ) → CoverRow v new → CoverRow new given → slice_get v p ≡ Some X
    → CoverRow v (take p new ++ (X ∷ drop (suc p) given))
covers_row [] new given p a b at = let no : ⊥ = cc in absurd no
covers_row (x ∷ v) [] given p a b at = absurd a
covers_row (x ∷ v) (y ∷ new) [] p a b at = absurd b
covers_row (x ∷ v) (y ∷ new) (z ∷ given) zero a b at = (inl (same_Some x X at), row_then v new given a.1 b.1)
covers_row (x ∷ v) (y ∷ new) (z ∷ given) (suc p) a b at = (a.0, covers_row v new given p a.1 b.1 at)

covers_tried : (v new given : List (List Tern)) (t p : ℕ) → CoverRows v new → CoverRows new given
    → slice_get (row_at v t) p ≡ Some X → CoverRows v (with_x_between new given t p)
covers_tried [] new given zero p a b at = let no : ⊥ = cc in absurd no
covers_tried [] new given (suc t) p a b at = let no : ⊥ = cc in absurd no
covers_tried (x ∷ v) [] given t p a b at = absurd a
covers_tried (x ∷ v) (y ∷ new) [] t p a b at = absurd b
covers_tried (x ∷ v) (y ∷ new) (z ∷ given) zero p a b at = (covers_row x y z p a.0 b.0 at, rows_then v new given a.1 b.1)
covers_tried (x ∷ v) (y ∷ new) (z ∷ given) (suc t) p a b at = (a.0, covers_tried v new given t p a.1 b.1 at)

-- such lists have the same lengths
pub cover_shape : (v w : List (List Tern)) → CoverRows v w → map length w ≡ map length v
cover_shape [] [] h = refl
cover_shape [] (y ∷ w) h = absurd h
cover_shape (x ∷ v) [] h = absurd h
cover_shape (x ∷ v) (y ∷ w) h =
    ap (λ (n : ℕ). n ∷ map length w) (AllZip-long IsSameOrX x y h.0) ∙ ap (λ (ns : List ℕ). length x ∷ ns) (cover_shape v w h.1)

-- lists of the same lengths, from what holds at each place
row_covers : (new given : List Tern) → length new ≡ length given
    → ((p : ℕ) (a b : Tern) → slice_get given p ≡ Some a → slice_get new p ≡ Some b → IsSameOrX b a) → CoverRow new given
row_covers [] [] e h = tt
row_covers [] (z ∷ given) e h = absurd (omega (arith, e))
row_covers (y ∷ new) [] e h = absurd (omega (arith, e))
row_covers (y ∷ new) (z ∷ given) e h =
    (h 0 z y refl refl, row_covers new given (omega (arith, e)) (λ p a b at is. h (suc p) a b at is))

pub rows_cover : (new given : List (List Tern)) → map length new ≡ map length given
    → ((t p : ℕ) (a b : Tern) → slice_get (row_at given t) p ≡ Some a → slice_get (row_at new t) p ≡ Some b → IsSameOrX b a)
    → CoverRows new given
rows_cover [] [] e h = tt
rows_cover [] (z ∷ given) e h = let no : ⊥ = cc in absurd no
rows_cover (y ∷ new) [] e h = let no : ⊥ = cc in absurd no
rows_cover (y ∷ new) (z ∷ given) e h =
    let first : length y ≡ length z = cc in
    let more : map length new ≡ map length given = cc in
    (row_covers y z first (h 0), rows_cover new given more (λ t p a b at is. h (suc t) p a b at is))

-- values that cover others and have x nowhere else are the same
row_is : (v new : List Tern) → CoverRow v new
    → ((p : ℕ) (b : Tern) → slice_get v p ≡ Some X → slice_get new p ≡ Some b → b ≡ X) → v ≡ new
row_is [] [] a h = refl
row_is [] (y ∷ new) a h = absurd a
row_is (x ∷ v) [] a h = absurd a
row_is (x ∷ v) (y ∷ new) a h =
    ap (λ (z : Tern). z ∷ v) (first a.0) ∙ ap (λ (zs : List Tern). y ∷ zs) (row_is v new a.1 (λ p b at is. h (suc p) b at is))
  where
    first : IsSameOrX x y → x ≡ y
    first (inl e) = e ∙ sym (h 0 y (ap Some e) refl)
    first (inr e) = e

rows_are : (v new : List (List Tern)) → CoverRows v new
    → ((t p : ℕ) (b : Tern) → slice_get (row_at v t) p ≡ Some X → slice_get (row_at new t) p ≡ Some b → b ≡ X) → v ≡ new
rows_are [] [] a h = refl
rows_are [] (y ∷ new) a h = absurd a
rows_are (x ∷ v) [] a h = absurd a
rows_are (x ∷ v) (y ∷ new) a h =
    ap (λ (z : List Tern). z ∷ v) (row_is x y a.0 (h 0))
    ∙ ap (λ (zs : List (List Tern)). y ∷ zs) (rows_are v new a.1 (λ t p b at is. h (suc t) p b at is))

-- the other value at a place where the first has one
row_other : (new given : List Tern) (p : ℕ) (b : Tern) → length new ≡ length given → slice_get new p ≡ Some b
    → (a : Tern) × (slice_get given p ≡ Some a)
row_other [] given p b e at = let no : ⊥ = cc in absurd no
row_other (y ∷ new) [] p b e at = absurd (omega (arith, e))
row_other (y ∷ new) (z ∷ given) zero b e at = (z, refl)
row_other (y ∷ new) (z ∷ given) (suc p) b e at = row_other new given p b (omega (arith, e)) at

other : (new given : List (List Tern)) (t p : ℕ) (b : Tern) → map length new ≡ map length given
    → slice_get (row_at new t) p ≡ Some b → (a : Tern) × (slice_get (row_at given t) p ≡ Some a)
other [] given zero p b e at = let no : ⊥ = cc in absurd no
other [] given (suc t) p b e at = let no : ⊥ = cc in absurd no
other (y ∷ new) [] t p b e at = let no : ⊥ = cc in absurd no
other (y ∷ new) (z ∷ given) zero p b e at = let first : length y ≡ length z = cc in row_other y z p b first at
other (y ∷ new) (z ∷ given) (suc t) p b e at = let more : map length new ≡ map length given = cc in other new given t p b more at

-- ---- the values up to a place are the new ones

take_snoc : {A : Type 0} (xs : List A) (p : ℕ) (x : A) (rest : List A) → slice_get xs p ≡ Some x
    → take (suc p) xs ++ rest ≡ take p xs ++ (x ∷ rest)
take_snoc [] p x rest at = let no : ⊥ = cc in absurd no
take_snoc (y ∷ xs) zero x rest at = ap (λ (z : _). z ∷ rest) (same_Some y x at)
take_snoc (y ∷ xs) (suc p) x rest at = ap (λ (zs : List _). y ∷ zs) (take_snoc xs p x rest at)

drop_cons : {A : Type 0} (xs : List A) (p : ℕ) (x : A) → slice_get xs p ≡ Some x → drop p xs ≡ x ∷ drop (suc p) xs
drop_cons [] p x at = let no : ⊥ = cc in absurd no
drop_cons (y ∷ xs) zero x at = ap (λ (z : _). z ∷ xs) (same_Some y x at)
drop_cons (y ∷ xs) (suc p) x at = drop_cons xs p x at

take_whole : {A : Type 0} (xs : List A) → take (length xs) xs ≡ xs
take_whole [] = refl
take_whole (x ∷ xs) = ap (λ (zs : List _). x ∷ zs) (take_whole xs)

drop_whole : {A : Type 0} (xs : List A) → drop (length xs) xs ≡ []
drop_whole [] = refl
drop_whole (x ∷ xs) = drop_whole xs

row_of : (rows : List (List Tern)) (t : ℕ) → t < length rows → slice_get rows t ≡ Some (row_at rows t)
row_of rows t lt = slice_get-get_or rows t [] lt

pub lengths : (new given : List (List Tern)) → map length new ≡ map length given → length new ≡ length given
lengths new given e = sym (length-map new length) ∙ ap length e ∙ length-map given length

pub row_lengths : (new given : List (List Tern)) (t : ℕ) → map length new ≡ map length given
    → length (row_at new t) ≡ length (row_at given t)
row_lengths [] [] t e = refl
row_lengths [] (z ∷ given) t e = let no : ⊥ = cc in absurd no
row_lengths (y ∷ new) [] t e = let no : ⊥ = cc in absurd no
row_lengths (y ∷ new) (z ∷ given) zero e = cc
row_lengths (y ∷ new) (z ∷ given) (suc t) e =
    let more : map length new ≡ map length given = cc in row_lengths new given t more

module _ (C : List (List Tern) → Type 0) (given new : List (List Tern)) (shape : map length new ≡ map length given)
    (kept : (t p : ℕ) (a b : Tern) → slice_get (row_at given t) p ≡ Some a → slice_get (row_at new t) p ≡ Some b
    → IsKept (C (with_x_between new given t p)) a b) where
  module _ (t : ℕ) (lt : t < length new) where
    abbrev r : List Tern
    r = row_at new t

    abbrev g : List Tern
    g = row_at given t

    within : List Tern → List (List Tern)
    within row = take t new ++ (row ∷ drop (suc t) given)

    lt_given : t < length given
    lt_given = omega (arith, lt, lengths new given shape)

    begins : within g ≡ take t new ++ drop t given
    unfolding within
    begins = ap (λ (rows : List (List Tern)). take t new ++ rows) (sym (drop_cons given t g (row_of given t lt_given)))

    ends : within r ≡ take (suc t) new ++ drop (suc t) given
    unfolding within
    ends = sym (take_snoc new t r (drop (suc t) given) (row_of new t lt))

    one_more : (p : ℕ) → p < length r → C (within (take p r ++ drop p g)) → C (within (take (suc p) r ++ drop (suc p) g))
    unfolding within
    one_more p below c =
        let b = get_or r p X in
        let a = get_or g p X in
        let is : slice_get r p ≡ Some b = slice_get-get_or r p X below in
        let at : slice_get g p ≡ Some a = slice_get-get_or g p X (omega (arith, below, row_lengths new given t shape)) in
        let step : take (suc p) r ++ drop (suc p) g ≡ take p r ++ (b ∷ drop (suc p) g) = take_snoc r p b (drop (suc p) g) is in
        elim (kept t p a b at is) [
          | inl k ↦
              subst (λ (row : List Tern). C (within row))
              (ap (λ (x : Tern). take p r ++ (x ∷ drop (suc p) g)) (sym k.1) ∙ sym step) k.0
          | inr k ↦
              subst (λ (row : List Tern). C (within row))
              (ap (λ (row : List Tern). take p r ++ row) (drop_cons g p a at)
              ∙ ap (λ (x : Tern). take p r ++ (x ∷ drop (suc p) g)) (sym k.1) ∙ sym step) c
        ]

    up_to : C (within g) → (p : ℕ) → p ≤ length r → C (within (take p r ++ drop p g))
    up_to c zero le = c
    up_to c (suc p) le = one_more p (omega (arith, le)) (up_to c p (omega (arith, le)))

    list_more : C (take t new ++ drop t given) → C (take (suc t) new ++ drop (suc t) given)
    list_more c =
        subst C ends
        (subst (λ (row : List Tern). C (within row)) all
        (up_to (subst C (sym begins) c) (length r) (omega arith)))
      where
        all : take (length r) r ++ drop (length r) g ≡ r
        all =
            ap (λ (n : ℕ). take (length r) r ++ drop n g) (row_lengths new given t shape)
            ∙ ap (λ (rest : List Tern). take (length r) r ++ rest) (drop_whole g)
            ∙ append-nil (take (length r) r) ∙ take_whole r

  lists_up_to : C given → (t : ℕ) → t ≤ length new → C (take t new ++ drop t given)
  lists_up_to c zero le = c
  lists_up_to c (suc t) le = list_more t (omega (arith, le)) (lists_up_to c t (omega (arith, le)))

  -- the reduced values are confirmed
  pub reduced_confirmed : C given → C new
  reduced_confirmed c = subst C all (lists_up_to c (length new) (omega arith))
    where
      all : take (length new) new ++ drop (length new) given ≡ new
      all =
          ap (λ (n : ℕ). take (length new) new ++ drop n given) (lengths new given shape)
          ∙ ap (λ (rest : List (List Tern)). take (length new) new ++ rest) (drop_whole given)
          ∙ append-nil (take (length new) new) ∙ take_whole new

  pub reduced_covers : CoverRows new given
  reduced_covers = rows_cover new given shape
      (λ t p a b at is. elim (kept t p a b at is) [ inl k ↦ inl k.1 | inr k ↦ inr k.1 ])

  -- no other values that cover the reduced ones are confirmed, where what has fewer x is confirmed too
  pub reduced_irreducible : ((v w : List (List Tern)) → CoverRows v w → map length v ≡ map length given → C v → C w)
      → (v : List (List Tern)) → CoverRows v new → C v → v ≡ new
  reduced_irreducible monotone v covers c = rows_are v new covers
      (λ t p b at is.
      let (a, was) = other new given t p b shape is in
      elim (kept t p a b was is) [
        | inl k ↦ k.1
        | inr k ↦
            absurd (k.0 (monotone v (with_x_between new given t p) (covers_tried v new given t p covers reduced_covers at)
            (sym (cover_shape v new covers) ∙ shape) c))
      ])

-- ---- witnesses

-- what the length of a row says, place by place
get_length : (rows : List (List Tern)) (k : ℕ) (d : List Tern) → k < length rows
    → length (get_or rows k d) ≡ get_or (map length rows) k 0
get_length [] k d lt = absurd (omega arith)
get_length (row ∷ rows) zero d lt = refl
get_length (row ∷ rows) (suc k) d lt = get_length rows k d (omega (arith, lt))

pub shaped_widths : (n : ℕ) (v w : List (List Tern)) → map length v ≡ map length w → HaveWidth n w → HaveWidth n v
shaped_widths n v w e h k d lt =
    let lt' : k < length w = omega (arith, lt, lengths v w e) in
    get_length v k d lt ∙ ap (λ (ns : List ℕ). get_or ns k 0) e ∙ sym (get_length w k d lt') ∙ h k d lt'

pub run_of : (raw : Raw) (w : Witness) → IsConfirmedWitness raw w → IsRunOf raw w
run_of raw w h = record { latches = h.latches; widths = h.widths; some = h.some; property = h.property }

-- a witness of the same shape as one of the circuit is one
pub run_shaped : (raw : Raw) (property : ℕ) (v w : List (List Tern)) → map length v ≡ map length w
    → IsRunOf raw (witness_of property w) → IsRunOf raw (witness_of property v)
run_shaped raw property [] [] e h = h
run_shaped raw property [] (y ∷ w) e h = let no : ⊥ = cc in absurd no
run_shaped raw property (x ∷ v) [] e h = let no : ⊥ = cc in absurd no
run_shaped raw property (x ∷ v) (y ∷ w) e h =
    let first : length x ≡ length y = cc in
    let more : map length v ≡ map length w = cc in
    record {
      latches = first ∙ h.latches;
      widths = shaped_widths (length raw.inputs) v w more h.widths;
      some = λ none. h.some (nil_from_length w (sym (lengths v w more) ∙ ap length none));
      property = h.property;
    }

-- values with fewer x are confirmed too
pub fewer_x : (raw : Raw) (property : ℕ) (v w : List (List Tern)) → IsCircuit raw → IsRunOf raw (witness_of property w)
    → CoverRows v w → IsVerdict raw (witness_of property v) verdict.Confirmed
    → IsVerdict raw (witness_of property w) verdict.Confirmed
fewer_x raw property [] [] circuit run covers c = c
fewer_x raw property [] (y ∷ w) circuit run covers c = absurd covers
fewer_x raw property (x ∷ v) [] circuit run covers c = absurd covers
fewer_x raw property (x ∷ v) (y ∷ w) circuit run covers c =
    reaches_confirmed raw circuit (witness_of property (y ∷ w)) run
    (reaches_still raw circuit.sound (witness_of property (x ∷ v)) (witness_of property (y ∷ w)) refl covers.0 covers.1
    (confirmed_reaches raw circuit (witness_of property (x ∷ v))
    (run_shaped raw property (x ∷ v) (y ∷ w) (sym (cover_shape (x ∷ v) (y ∷ w) covers)) run) c))

same_row : (xs : List Tern) → CoverRow xs xs
same_row [] = tt
same_row (x ∷ xs) = (inr refl, same_row xs)

same_rows : (rows : List (List Tern)) → CoverRows rows rows
same_rows [] = tt
same_rows (row ∷ rows) = (same_row row, same_rows rows)

x_covers : (xs : List Tern) (p : ℕ) → CoverRow (slice_set xs p X) xs
x_covers [] p = tt
x_covers (x ∷ xs) zero = (inl refl, same_row xs)
x_covers (x ∷ xs) (suc p) = (inr refl, x_covers xs p)

-- the values with x at a place have more x
pub cell_covers : (rows : List (List Tern)) (t p : ℕ) → CoverRows (with_cell rows t p X) rows
cell_covers [] t p = tt
cell_covers (row ∷ rows) zero p = (x_covers row p, same_rows rows)
cell_covers (row ∷ rows) (suc t) p = (same_row row, cell_covers rows t p)

module _ (raw : Raw) (circuit : IsCircuit raw) (given : Witness) (g : IsConfirmedWitness raw given) where
  abbrev C : List (List Tern) → Type 0
  C values = IsVerdict raw (witness_of given.property values) verdict.Confirmed

  run_like : (v : List (List Tern)) → map length v ≡ map length (values_of given) → IsRunOf raw (witness_of given.property v)
  run_like v e = run_shaped raw given.property v (values_of given) e (run_of raw given g)

  monotone : (v w : List (List Tern)) → CoverRows v w → map length v ≡ map length (values_of given) → C v → C w
  monotone [] w covers e c = let no : ⊥ = cc in absurd no
  monotone (x ∷ v) [] covers e c = absurd covers
  monotone (x ∷ v) (y ∷ w) covers e c =
      reaches_confirmed raw circuit (witness_of given.property (y ∷ w))
      (run_like (y ∷ w) (cover_shape (x ∷ v) (y ∷ w) covers ∙ e))
      (reaches_still raw circuit.sound (witness_of given.property (x ∷ v)) (witness_of given.property (y ∷ w)) refl covers.0 covers.1
      (confirmed_reaches raw circuit (witness_of given.property (x ∷ v)) (run_like (x ∷ v) e) c))

  named : (v : Witness) → v.property ≡ given.property → witness_of given.property (values_of v) ≡ v
  named v e = ap (λ (n : ℕ). witness_of n (values_of v)) (sym e)

  pub holds_reduced : (new : Witness) → IsReduced raw given new → HoldsReduced raw given new
  holds_reduced new h =
      let c : C (values_of new) = reduced_confirmed C (values_of given) (values_of new) h.shape h.values g.verdict in
      let covers : CoverRows (values_of new) (values_of given) =
      reduced_covers C (values_of given) (values_of new) h.shape h.values in
      let is = named new h.property in
      let run : IsRunOf raw new = subst (IsRunOf raw) is (run_like (values_of new) h.shape) in
      let confirms : IsVerdict raw new verdict.Confirmed = subst (λ (w : Witness). IsVerdict raw w verdict.Confirmed) is c in
      record {
        confirmed = record {
          latches = run.latches;
          widths = run.widths;
          some = run.some;
          property = run.property;
          verdict = confirms;
        };
        completions = confirmed raw circuit new run.latches run.widths run.some run.property confirms;
        covers = record { property = h.property; values = covers };
        irreducible = λ v k is_confirmed.
            let same : values_of v ≡ values_of new =
            reduced_irreducible C (values_of given) (values_of new) h.shape h.values monotone (values_of v) k.values
            (subst (λ (w : Witness). IsVerdict raw w verdict.Confirmed) (sym (named v (k.property ∙ h.property))) is_confirmed) in
            ap (λ (n : ℕ). witness_of n (values_of v)) k.property ∙ ap (witness_of new.property) same;
      }
