-- Values that are cut into rows, and those that fill in a start.
use Rattle.std.proofs.Common.{◌≡◌, ◌≢◌, inl, inr, ℕ, zero, suc, ◌+◌, ◌*◌, ◌≤◌, Bool, true, false, if◌then◌else◌, List}
use Rattle.std.proofs.Common.{[], ◌∷◌, ◌++◌, length, take, drop, flat_map, All, Some, slice_get, get_or, refl, sym, ◌∙◌}
use Rattle.std.proofs.Common.{ap, ap₂, subst, arith, zero-mul, append_assoc, length-drop}
use Rattle.std.proofs.lemmas.Bool.Decides.{nat_tests}
use Rattle.std.proofs.lemmas.List.{take-append-drop, drop-drop, length-take-le, take_at, drop_at}
use Rattle.std.proofs.lemmas.List.Concat.{flat_map-cons}
use Rattle.std.proofs.lemmas.List.Elements.{All-nil, All-cons, All-head, All-tail, All-append, All-take, All-drop}
use Rattle.std.proofs.lemmas.List.Sums.{sum_by-cons}
use Rattle.aig_parts.specs.declared.latch.Latch.{Latch}
use Rattle.aig_parts.specs.declared.ternary.Tern.{Tern}
use Rattle.aig_parts.specs.declared.ternary.Tern.TheVariants.{Zero, One, X}
use Rattle.aig_base.specs.Runs.{Allows}
use Rattle.aig_base.specs.Sound.{IsReset}
use Rattle.aig_base.specs.Value.{reset_value}
use Rattle.aig_refute.specs.Models.{AreKnown}
use Rattle.aig_refute.specs.UnrolledWitness.{cut, filled}
use Rattle.aig_unroll.specs.FrameLiteral.{is_uninitialised, uninitialised}
use Rattle.aig_unroll.specs.UnrolledValues.{free_values}

abbrev flat : List (List Tern) → List Tern
flat rows = flat_map (λ row. row) rows

-- ---- rows that are cut from values

pub length-cut : (width k : ℕ) (values : List Tern) → length (cut width k values) ≡ k
unfolding cut
length-cut width zero values = refl
length-cut width (suc k) values = ap suc (length-cut width k (drop width values))

-- there are enough values for each row
pub cut_wide : (width k : ℕ) (values : List Tern) → k * width ≤ length values
    → All (λ row. length row ≡ width) (cut width k values)
unfolding cut
cut_wide width zero values le = All-nil (λ (row : List Tern). length row ≡ width)
cut_wide width (suc k) values le =
    All-cons (λ (row : List Tern). length row ≡ width) (take width values) (cut width k (drop width values))
    (length-take-le width values (omega arith))
    (cut_wide width k (drop width values) (omega (arith, length-drop width values)))

-- the rows, and the values that are left
pub cut_all : (width k : ℕ) (values : List Tern) → flat (cut width k values) ++ drop (k * width) values ≡ values
unfolding cut
cut_all width zero values = ap (λ n. drop n values) (zero-mul width)
cut_all width (suc k) values =
    let e : suc k * width ≡ width + k * width = omega arith in
    let left : drop (suc k * width) values ≡ drop (k * width) (drop width values) =
    ap (λ n. drop n values) e ∙ sym (drop-drop (k * width) width values) in
    append_assoc (take width values) (flat (cut width k (drop width values))) (drop (suc k * width) values)
    ∙ ap (λ (vs : List Tern). take width values ++ (flat (cut width k (drop width values)) ++ vs)) left
    ∙ ap (λ (vs : List Tern). take width values ++ vs) (cut_all width k (drop width values))
    ∙ take-append-drop width values

-- rows in turn are cut into these rows
pub cut_flat : (width : ℕ) (rows : List (List Tern)) (rest : List Tern) → All (λ row. length row ≡ width) rows
    → cut width (length rows) (flat rows ++ rest) ≡ rows
unfolding cut
cut_flat width [] rest wide = refl
cut_flat width (r ∷ rows) rest wide =
    let long = All-head (λ (row : List Tern). length row ≡ width) r rows wide in
    let later = cut_flat width rows rest (All-tail (λ (row : List Tern). length row ≡ width) r rows wide) in
    let e : (r ++ flat rows) ++ rest ≡ r ++ (flat rows ++ rest) = append_assoc r (flat rows) rest in
    rw e (ap₂ (λ (a : List Tern) (b : List (List Tern)). a ∷ b) (take_at r (flat rows ++ rest) width long)
    (ap (cut width (length rows)) (drop_at r (flat rows ++ rest) width long) ∙ later))

-- ---- values that fill in a start

uninitialised_yes : (x : Latch) (xs : List Latch) → is_uninitialised x ≡ true
    → uninitialised (x ∷ xs) ≡ suc (uninitialised xs)
uninitialised_yes x xs e =
    sum_by-cons (λ z. if is_uninitialised z then 1 else 0) x xs
    ∙ ap (λ b. (if b then 1 else 0) + uninitialised xs) e ∙ omega arith

uninitialised_no : (x : Latch) (xs : List Latch) → is_uninitialised x ≡ false
    → uninitialised (x ∷ xs) ≡ uninitialised xs
uninitialised_no x xs e =
    sum_by-cons (λ z. if is_uninitialised z then 1 else 0) x xs
    ∙ ap (λ b. (if b then 1 else 0) + uninitialised xs) e ∙ omega arith

filled_yes : (x : Latch) (xs : List Latch) (values : List Tern) → is_uninitialised x ≡ true
    → filled (x ∷ xs) values ≡ get_or values 0 X ∷ filled xs (drop 1 values)
unfolding filled
filled_yes x xs values e =
    ap (λ b. if b then get_or values 0 X ∷ filled xs (drop 1 values) else reset_value x.reset ∷ filled xs values) e

filled_no : (x : Latch) (xs : List Latch) (values : List Tern) → is_uninitialised x ≡ false
    → filled (x ∷ xs) values ≡ reset_value x.reset ∷ filled xs values
unfolding filled
filled_no x xs values e =
    ap (λ b. if b then get_or values 0 X ∷ filled xs (drop 1 values) else reset_value x.reset ∷ filled xs values) e

free_yes : (x : Latch) (xs : List Latch) (w : Tern) (start : List Tern) → is_uninitialised x ≡ true
    → free_values (x ∷ xs) (w ∷ start) ≡ w ∷ free_values xs start
free_yes x xs w start e = ap (λ b. if b then w ∷ free_values xs start else free_values xs start) e

free_no : (x : Latch) (xs : List Latch) (w : Tern) (start : List Tern) → is_uninitialised x ≡ false
    → free_values (x ∷ xs) (w ∷ start) ≡ free_values xs start
free_no x xs w start e = ap (λ b. if b then w ∷ free_values xs start else free_values xs start) e

pub length-filled : (xs : List Latch) (values : List Tern) → length (filled xs values) ≡ length xs
unfolding filled
length-filled [] values = refl
length-filled (x ∷ xs) values =
    go (is_uninitialised x) refl (length-filled xs (drop 1 values)) (length-filled xs values)
  where
    go : (b : Bool) → is_uninitialised x ≡ b → length (filled xs (drop 1 values)) ≡ length xs
        → length (filled xs values) ≡ length xs → length (filled (x ∷ xs) values) ≡ suc (length xs)
    go true e taken kept = ap length (filled_yes x xs values e) ∙ ap suc taken
    go false e taken kept = ap length (filled_no x xs values e) ∙ ap suc kept

-- the free values of a start that was filled in
pub free_filled : (xs : List Latch) (values : List Tern) → length values ≡ uninitialised xs
    → free_values xs (filled xs values) ≡ values
unfolding filled
free_filled [] [] is = refl
free_filled [] (v ∷ values) is = absurd (omega arith)
free_filled (x ∷ xs) values is =
    go (is_uninitialised x) refl values is (λ vs. free_filled xs vs)
  where
    go : (b : Bool) → is_uninitialised x ≡ b → (values : List Tern) → length values ≡ uninitialised (x ∷ xs)
        → ((vs : List Tern) → length vs ≡ uninitialised xs → free_values xs (filled xs vs) ≡ vs)
        → free_values (x ∷ xs) (filled (x ∷ xs) values) ≡ values
    go true e [] is later = absurd (omega (arith, uninitialised_yes x xs e, is))
    go true e (v ∷ vs) is later =
        ap (free_values (x ∷ xs)) (filled_yes x xs (v ∷ vs) e) ∙ free_yes x xs v (filled xs vs) e
        ∙ ap (λ (us : List Tern). v ∷ us) (later vs (omega (arith, uninitialised_yes x xs e, is)))
    go false e values is later =
        ap (free_values (x ∷ xs)) (filled_no x xs values e)
        ∙ free_no x xs (reset_value x.reset) (filled xs values) e
        ∙ later values (is ∙ uninitialised_no x xs e)

pub length-free : (xs : List Latch) (start : List Tern) → length start ≡ length xs
    → length (free_values xs start) ≡ uninitialised xs
length-free [] [] is = refl
length-free [] (w ∷ start) is = absurd (omega arith)
length-free (x ∷ xs) [] is = absurd (omega arith)
length-free (x ∷ xs) (w ∷ start) is =
    go (is_uninitialised x) refl (length-free xs start (omega arith))
  where
    go : (b : Bool) → is_uninitialised x ≡ b → length (free_values xs start) ≡ uninitialised xs
        → length (free_values (x ∷ xs) (w ∷ start)) ≡ uninitialised (x ∷ xs)
    go true e later = ap length (free_yes x xs w start e) ∙ ap suc later ∙ sym (uninitialised_yes x xs e)
    go false e later = ap length (free_no x xs w start e) ∙ later ∙ sym (uninitialised_no x xs e)

-- each latch may start at its value
abbrev pub Allowed : List Latch → List Tern → Type 0
Allowed xs start =
    (p : ℕ) (x : Latch) (w : Tern) → slice_get xs p ≡ Some x → slice_get start p ≡ Some w → Allows x w

-- an allowed start is the one that its free values fill in
pub filled_free : (xs : List Latch) (start : List Tern) → length start ≡ length xs → Allowed xs start
    → filled xs (free_values xs start) ≡ start
unfolding filled
filled_free [] [] is allowed = refl
filled_free [] (w ∷ start) is allowed = absurd (omega arith)
filled_free (x ∷ xs) [] is allowed = absurd (omega arith)
filled_free (x ∷ xs) (w ∷ start) is allowed =
    go (is_uninitialised x) refl
    (filled_free xs start (omega arith) (λ p y u at here. allowed (suc p) y u at here)) (allowed 0 x w refl refl)
  where
    own : is_uninitialised x ≡ false → x.reset ≡ x.lit → ⊥
    own e same = grind (arith, nat_tests)

    go : (b : Bool) → is_uninitialised x ≡ b → filled xs (free_values xs start) ≡ start
        → Allows x w
        → filled (x ∷ xs) (free_values (x ∷ xs) (w ∷ start)) ≡ w ∷ start
    go true e later here =
        ap (filled (x ∷ xs)) (free_yes x xs w start e) ∙ filled_yes x xs (w ∷ free_values xs start) e
        ∙ ap (λ (us : List Tern). w ∷ us) later
    go false e later (inl same) = absurd (own e same)
    go false e later (inr same) =
        ap (filled (x ∷ xs)) (free_no x xs w start e) ∙ filled_no x xs (free_values xs start) e
        ∙ ap₂ (λ (u : Tern) (us : List Tern). u ∷ us) (sym same) later

-- a start that was filled in is allowed
pub filled_allowed : (xs : List Latch) (values : List Tern) → Allowed xs (filled xs values)
unfolding filled
filled_allowed [] values p x w at here = cc
filled_allowed (y ∷ ys) values p x w at here =
    go (is_uninitialised y) refl (filled_allowed ys (drop 1 values)) (filled_allowed ys values) p at here
  where
    own : is_uninitialised y ≡ true → y.reset ≡ y.lit
    own e = grind (arith, nat_tests)

    go : (b : Bool) → is_uninitialised y ≡ b → Allowed ys (filled ys (drop 1 values)) → Allowed ys (filled ys values)
        → (p : ℕ) → slice_get (y ∷ ys) p ≡ Some x → slice_get (filled (y ∷ ys) values) p ≡ Some w
        → Allows x w
    go true e taken kept zero at here =
        let same : y ≡ x = cc in inl (subst (λ (z : Latch). z.reset ≡ z.lit) same (own e))
    go true e taken kept (suc p) at here =
        taken p x w at (ap (λ (us : List Tern). slice_get us (suc p)) (sym (filled_yes y ys values e)) ∙ here)
    go false e taken kept zero at here =
        let same : y ≡ x = cc in
        let first : Some (reset_value y.reset) ≡ Some w =
        ap (λ (us : List Tern). slice_get us 0) (sym (filled_no y ys values e)) ∙ here in
        let is : reset_value y.reset ≡ w = cc in
        inr (sym is ∙ ap (λ (z : Latch). reset_value z.reset) same)
    go false e taken kept (suc p) at here =
        kept p x w at (ap (λ (us : List Tern). slice_get us (suc p)) (sym (filled_no y ys values e)) ∙ here)

-- ---- values without x

abbrev Known : Tern → Type 0
Known w = w ≢ X

pub cut_known : (width k : ℕ) (values : List Tern) → AreKnown values → All AreKnown (cut width k values)
unfolding cut
cut_known width zero values all = All-nil AreKnown
cut_known width (suc k) values all =
    All-cons AreKnown (take width values) (cut width k (drop width values)) (All-take Known width values all)
    (cut_known width k (drop width values) (All-drop Known width values all))

-- a latch that is not uninitialised starts at a value that is no x
reset_known : (x : Latch) → is_uninitialised x ≡ false → IsReset x → reset_value x.reset ≢ X
reset_known x e (inl is) = subst (λ n. reset_value n ≢ X) (sym is) zero_known
  where
    zero_known : Zero ≢ X
    zero_known h = cc
reset_known x e (inr (inl is)) = subst (λ n. reset_value n ≢ X) (sym is) one_known
  where
    one_known : One ≢ X
    one_known h = cc
reset_known x e (inr (inr own)) = absurd (no_own e own)
  where
    no_own : is_uninitialised x ≡ false → x.reset ≡ x.lit → ⊥
    no_own e same = grind (arith, nat_tests)

pub filled_known : (xs : List Latch) (values : List Tern) → All IsReset xs → length values ≡ uninitialised xs
    → AreKnown values → AreKnown (filled xs values)
unfolding filled
filled_known [] values resets is all = All-nil Known
filled_known (x ∷ xs) values resets is all =
    go (is_uninitialised x) refl values is all (λ vs. filled_known xs vs (All-tail IsReset x xs resets))
  where
    go : (b : Bool) → is_uninitialised x ≡ b → (values : List Tern) → length values ≡ uninitialised (x ∷ xs)
        → AreKnown values
        → ((vs : List Tern) → length vs ≡ uninitialised xs → AreKnown vs → AreKnown (filled xs vs))
        → AreKnown (filled (x ∷ xs) values)
    go true e [] is all later = absurd (omega (arith, uninitialised_yes x xs e, is))
    go true e (v ∷ vs) is all later =
        subst AreKnown (sym (filled_yes x xs (v ∷ vs) e))
        (All-cons Known v (filled xs vs) (All-head Known v vs all)
        (later vs (omega (arith, uninitialised_yes x xs e, is)) (All-tail Known v vs all)))
    go false e values is all later =
        subst AreKnown (sym (filled_no x xs values e))
        (All-cons Known (reset_value x.reset) (filled xs values)
        (reset_known x e (All-head IsReset x xs resets)) (later values (is ∙ uninitialised_no x xs e) all))

pub flat_known : (rows : List (List Tern)) → All AreKnown rows → AreKnown (flat rows)
flat_known [] all = All-nil Known
flat_known (row ∷ rows) all =
    subst AreKnown (sym (flat_map-cons (λ (r : List Tern). r) row rows))
    (All-append Known row (flat rows) (All-head AreKnown row rows all) (flat_known rows (All-tail AreKnown row rows all)))

free_more : (b : Bool) (w : Tern) (ws : List Tern) → w ≢ X → AreKnown ws → AreKnown (if b then w ∷ ws else ws)
free_more true w ws p all = All-cons Known w ws p all
free_more false w ws p all = all

pub free_known : (xs : List Latch) (start : List Tern) → AreKnown start → AreKnown (free_values xs start)
free_known [] start all = All-nil Known
free_known (x ∷ xs) [] all = All-nil Known
free_known (x ∷ xs) (w ∷ start) all =
    free_more (is_uninitialised x) w (free_values xs start) (All-head Known w start all)
    (free_known xs start (All-tail Known w start all))
