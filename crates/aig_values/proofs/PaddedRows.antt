-- Rows with room for more than n cells, seen as rows of n.
use Rattle.std.proofs.Common.{◌≡◌, inl, inr, ℕ, suc, zero, ◌+◌, ◌-◌, ◌<◌, ◌≤◌, Bool, true, List, [], ◌∷◌, ◌++◌, Some}
use Rattle.std.proofs.Common.{slice_get, length, map, replicate, take, drop, nat_lt, All, get_or, set, refl, sym, ap}
use Rattle.std.proofs.Common.{◌∙◌, subst, arith, get_or-set_other, length-append}
use Rattle.std.proofs.Math.Seq.{take-set-lt}
use Rattle.std.proofs.lemmas.Bool.{cases_eq}
use Rattle.std.proofs.lemmas.Bool.Decides.{nat_tests}
use Rattle.std.proofs.lemmas.List.{length-set, length-map, length_push, length-replicate, length-take, get_or-set_same}
use Rattle.std.proofs.lemmas.List.{get_or-take, get_or-map, get_or_default, take-replicate, take-append-le, take_more}
use Rattle.std.proofs.lemmas.List.{drop-replicate, drop-append-le, drop-set-lt, map-set, map_push}
use Rattle.std.proofs.lemmas.List.{replicate-append-replicate, append_assoc, ext_get_or}
use Rattle.std.proofs.lemmas.Option.{slice_get_within}
use Rattle.std.proofs.lemmas.List.Elements.{All-set, All-push}
use Rattle.aig_parts.specs.declared.ternary.Tern.{Tern}
use Rattle.aig_parts.specs.declared.ternary.Tern.TheVariants.{Zero, X}
use Rattle.aig_parts.specs.declared.gate.Gate.{Gate}
use Rattle.aig_parts.specs.Literal.{variable}
use Rattle.aig_values.specs.Cells.{Cells, literal_value, gate_value, fresh_row, with_new_cell}
use Rattle.aig_values.specs.InputRows.{with_cell, row_at}
use Rattle.aig_values.specs.state.Padded.{ArePadded, AreLengthened, IsLengthened, IsPadded}

pub padded_set : (n room : ℕ) (row : List Tern) (v : ℕ) (x : Tern) → IsPadded n room row → v < n → IsPadded n room (set row v x)
padded_set n room row v x padded lt = (
  omega (arith, length-set row v x, padded.0),
  drop-set-lt n row v x lt ∙ padded.1 ∙ ap (λ (k : ℕ). replicate (k - n) X) (sym (length-set row v x)),
)

pub literal_of_row : (n : ℕ) (row : List Tern) (l : ℕ) → variable l < n → literal_value (take n row) l ≡ literal_value row l
literal_of_row n row l lt = rw (get_or-take n row (variable l) X lt) refl

-- what contracts see of a grid
abbrev pub seen : ℕ → ℕ → List (List Tern) → List Bool → ℕ → Cells
seen n room rows flags count =
    record { cells = map (take n) rows; gate_flags = flags; evaluations = count; room = nat_lt n room }

-- a cell of a grid that a caller names, and the row in which it stands
pub record Reached (n : ℕ) (rows : List (List Tern)) (grid : Cells) (t : ℕ) (row : List Tern) (v : ℕ) : Type 0 where
  pub cells : map (take n) rows ≡ grid.cells
  pub size : length grid.gate_flags ≡ n
  pub frame : t < length rows
  pub row_is : row ≡ get_or rows t row
  pub place : v < n

pub reached : (n room count : ℕ) (rows : List (List Tern)) (flags : List Bool) (grid : Cells)
    → seen n room rows flags count ≡ grid → ArePadded n room flags rows
    → (t : ℕ) → t < length grid.cells → (row : List Tern) → row ≡ get_or rows t row
    → (v : ℕ) (b : Bool) → slice_get grid.gate_flags v ≡ Some b → Reached n rows grid t row v
reached n room count rows flags grid view are t frame row is v b flag =
    let cells : map (take n) rows ≡ grid.cells = ap (λ (g : Cells). g.cells) view in
    let sizes : length grid.gate_flags ≡ n = sym (ap (λ (g : Cells). length g.gate_flags) view) ∙ are.flagged in
    record {
      cells = cells;
      size = sizes;
      frame = omega (arith, ap length cells, length-map rows (take n));
      row_is = is;
      place = omega (arith, slice_get_within grid.gate_flags v b flag, sizes);
    }

module _ {n : ℕ} {rows : List (List Tern)} {grid : Cells} {t : ℕ} {row : List Tern} {v : ℕ}
    (r : Reached n rows grid t row v) where
  row_of : row_at grid.cells t ≡ take n row
  row_of =
      ap (λ (c : List (List Tern)). row_at c t) (sym r.cells) ∙ get_or-map (take n) rows t row [] r.frame
      ∙ ap (take n) (sym r.row_is)

  padded_of : (room : ℕ) → All (IsPadded n room) rows → IsPadded n room row
  padded_of room padded = subst (IsPadded n room) (sym r.row_is) (padded t row r.frame)

  -- a cell of the row is there, also after the variables
  pub row_within : (room : ℕ) (flags : List Bool) → ArePadded n room flags rows → n ≤ length row
  row_within room flags are = let p = padded_of room are.each in let fits = are.fits in omega arith

  -- the rows with another cell
  pub rows_padded : (room : ℕ) (flags : List Bool) (x : Tern) (new : List Tern) → new ≡ set row v x
      → ArePadded n room flags rows → ArePadded n room flags (set rows t new)
  rows_padded room flags x new e are = record {
    count = omega (arith, length-set rows t new, are.count);
    constant = are.constant;
    fits = are.fits;
    limit = are.limit;
    flagged = are.flagged;
    each = All-set (IsPadded n room) rows t new
        (subst (IsPadded n room) (sym e) (padded_set n room row v x (padded_of room are.each) r.place)) are.each;
  }

  pub rows_written : (x : Tern) (new : List Tern) → new ≡ set row v x
      → map (take n) (set rows t new) ≡ with_cell grid.cells t v x
  rows_written x new e =
      map-set (take n) rows t new ∙ ap (λ (c : List (List Tern)). set c t (take n new)) r.cells
      ∙ ap (set grid.cells t)
      (ap (take n) e ∙ take-set-lt n row v x r.place ∙ ap (λ (k : List Tern). set k v x) (sym row_of))

  pub gate_of_row : (g : Gate) → variable g.rhs0 < length grid.gate_flags → variable g.rhs1 < length grid.gate_flags
      → gate_value row g ≡ gate_value (row_at grid.cells t) g
  gate_of_row g lt0 lt1 =
      let below0 : variable g.rhs0 < n = omega (arith, r.size) in
      let below1 : variable g.rhs1 < n = omega (arith, r.size) in
      sym (ap (λ (k : List Tern). gate_value k g) row_of
      ∙ rw (literal_of_row n row g.rhs0 below0, literal_of_row n row g.rhs1 below1) refl)

  pub cell_before : get_or (row_at grid.cells t) v X ≡ get_or row v X
  cell_before = ap (λ (k : List Tern). get_or k v X) row_of ∙ get_or-take n row v X r.place

  pub cell_after : (room : ℕ) (flags : List Bool) (x : Tern) (new : List Tern) → new ≡ set row v x
      → ArePadded n room flags rows → get_or (row_at (map (take n) (set rows t new)) t) v X ≡ x
  cell_after room flags x new e are =
      let there : t < length (set rows t new) = omega (arith, length-set rows t new) in
      let room : v < length row = let w = row_within room flags are in let place = r.place in omega arith in
      let here : row_at (map (take n) (set rows t new)) t ≡ take n (set row v x) =
      get_or-map (take n) (set rows t new) t row [] there ∙ ap (take n) (get_or-set_same rows t new row r.frame ∙ e) in
      ap (λ (k : List Tern). get_or k v X) here ∙ get_or-take n (set row v x) v X r.place
      ∙ get_or-set_same row v x X room

-- a new row with room for m cells
taken_fresh : (n m : ℕ) → 0 < n → n ≤ m → take n (fresh_row m) ≡ fresh_row n
taken_fresh n m pos le =
    let e : n ≡ suc (n - 1) = omega arith in
    ap (λ (k : ℕ). take k (fresh_row m)) e
    ∙ ap (λ (r : List Tern). Zero ∷ r) (take-replicate (n - 1) (m - 1) X (omega arith))

padded_fresh : (n room m : ℕ) → 0 < n → n ≤ room → room ≤ m → IsPadded n room (fresh_row m)
padded_fresh n room m pos fits le =
    let e : n ≡ suc (n - 1) = omega arith in
    let r : length (fresh_row m) ≡ m = omega (arith, length-replicate (m - 1) X) in
    let k : (m - 1) - (n - 1) ≡ length (fresh_row m) - n = omega arith in (
      omega arith,
      ap (λ (k : ℕ). drop k (fresh_row m)) e ∙ drop-replicate (n - 1) (m - 1) X
          ∙ ap (λ (k : ℕ). replicate k X) k,
    )

-- the first k rows
pub first_padded : (n room : ℕ) (flags : List Bool) (rows : List (List Tern)) (k : ℕ) → ArePadded n room flags rows
    → ArePadded n room flags (take k rows)
first_padded n room flags rows k are =
    let size = length-take k rows in
    record {
      count = omega (arith, are.count);
      constant = are.constant;
      fits = are.fits;
      limit = are.limit;
      flagged = are.flagged;
      each = λ t d lt.
          subst (IsPadded n room) (sym (get_or-take k rows t d (omega arith))) (are.each t d (omega arith));
    }

-- one more row of m cells
module _ (n room m : ℕ) (flags : List Bool) (rows : List (List Tern)) (are : ArePadded n room flags rows) (le : room ≤ m) where
  pub rows_more : map (take n) (rows ++ fresh_row m ∷ []) ≡ map (take n) rows ++ fresh_row n ∷ []
  rows_more =
      let fits = are.fits in
      map_push (take n) rows (fresh_row m)
      ∙ ap (λ (row : List Tern). map (take n) rows ++ row ∷ []) (taken_fresh n m are.constant (omega arith))

  pub padded_more : length rows < 65536 → ArePadded n room flags (rows ++ fresh_row m ∷ [])
  padded_more lt = record {
    count = omega (arith, length_push rows (fresh_row m));
    constant = are.constant;
    fits = are.fits;
    limit = are.limit;
    flagged = are.flagged;
    each = All-push (IsPadded n room) rows (fresh_row m) are.each (padded_fresh n room m are.constant are.fits le);
  }

-- rows with more cells than they had
pub longer_same : (row : List Tern) → IsLengthened row row
longer_same row = (0, sym (append_nil row))
  where
    append_nil : (xs : List Tern) → xs ++ [] ≡ xs
    append_nil [] = refl
    append_nil (x ∷ xs) = ap (λ ys. x ∷ ys) (append_nil xs)

longer_more : (a b c : List Tern) → IsLengthened a b → IsLengthened b c → IsLengthened a c
longer_more a b c (j, e) (k, f) = (
  j + k,
  f ∙ ap (λ (xs : List Tern). xs ++ replicate k X) e ∙ append_assoc a (replicate j X) (replicate k X)
      ∙ ap (λ xs. a ++ xs) (replicate-append-replicate j k X),
)

longer_length : (a b : List Tern) → IsLengthened a b → length a ≤ length b
longer_length a b (k, e) = omega (arith, ap length e, length-append a (replicate k X))

pub rows_same : (rows : List (List Tern)) → AreLengthened rows rows
rows_same rows = record { size = refl; each = λ t. longer_same (row_at rows t) }

-- so far as a loop has come, each row has cells for so many variables
pub record Longer (old now : List (List Tern)) (size done : ℕ) : Type 0 where
  pub rows : AreLengthened old now
  pub wide : (t : ℕ) → t < done → size ≤ length (row_at now t)
  pub near : (t : ℕ) → t < length now → size ≤ length (row_at now t) + 1

pub longer_start : (rows : List (List Tern)) (size : ℕ) → All (λ row. size ≤ length row + 1) rows → Longer rows rows size 0
longer_start rows size near = record {
  rows = rows_same rows;
  wide = λ t lt. absurd (omega arith);
  near = λ t lt. near t [] lt;
}

module _ {old now : List (List Tern)} {size t : ℕ} (l : Longer old now size t) (row : List Tern) (lt : t < length now)
    (is : row ≡ get_or now t row) where
  row_here : row_at now t ≡ row
  row_here = get_or_default now t [] row lt ∙ sym is

  pub near_here : size ≤ length row + 1
  near_here = subst (λ (xs : List Tern). size ≤ length xs + 1) row_here (l.near t lt)

  module _ (new : List Tern) (more : IsLengthened row new) where
    there : row_at (set now t new) t ≡ new
    there = get_or-set_same now t new [] lt

    elsewhere : (u : ℕ) → (u ≡ t → ⊥) → row_at (set now t new) u ≡ row_at now u
    elsewhere u ne = get_or-set_other now t u new [] ne

    pub longer_rows : AreLengthened old (set now t new)
    longer_rows = record {
      size = length-set now t new ∙ l.rows.size;
      each = λ u. elim (cases_eq u t) [
        | inl e ↦ subst (λ k. IsLengthened (row_at old k) (row_at (set now t new) k)) (sym e)
            (subst (IsLengthened (row_at old t)) (sym there)
            (longer_more (row_at old t) row new (subst (IsLengthened (row_at old t)) row_here (l.rows.each t)) more))
        | inr ne ↦ subst (IsLengthened (row_at old u)) (sym (elsewhere u ne)) (l.rows.each u)
      ];
    }

    pub longer_set : size ≤ length new → Longer old (set now t new) size (t + 1)
    longer_set wide = record {
      rows = longer_rows;
      wide = λ u below. elim (cases_eq u t) [
        | inl e ↦ subst (λ k. size ≤ length (row_at (set now t new) k)) (sym e)
            (subst (λ (xs : List Tern). size ≤ length xs) (sym there) wide)
        | inr ne ↦ subst (λ (xs : List Tern). size ≤ length xs) (sym (elsewhere u ne)) (l.wide u (omega arith))
      ];
      near = λ u below. elim (cases_eq u t) [
        | inl e ↦ subst (λ k. size ≤ length (row_at (set now t new) k) + 1) (sym e)
            (subst (λ (xs : List Tern). size ≤ length xs + 1) (sym there) (omega arith))
        | inr ne ↦ subst (λ (xs : List Tern). size ≤ length xs + 1) (sym (elsewhere u ne))
            (l.near u (let n = length-set now t new in omega arith))
      ];
    }

pub longer_all : {old now : List (List Tern)} {size done : ℕ} → Longer old now size done → length now ≤ done
    → All (λ row. size ≤ length row) now
longer_all {now = now} {size = size} l past k d lt =
    subst (λ (xs : List Tern). size ≤ length xs) (get_or_default now k [] d lt) (l.wide k (omega arith))

-- rows that were made longer are seen as they were
module _ (n room : ℕ) (flags : List Bool) (old new : List (List Tern)) (are : ArePadded n room flags old)
    (long : AreLengthened old new) where
  at_old : (t : ℕ) → t < length old → IsPadded n room (row_at old t)
  at_old t lt = are.each t [] lt

  taken_same : (row row' : List Tern) → n ≤ length row → IsLengthened row row' → take n row' ≡ take n row
  taken_same row row' le (k, e) = ap (take n) e ∙ take-append-le n row (replicate k X) le

  pub seen_same : map (take n) new ≡ map (take n) old
  seen_same =
      ext_get_or [] (map (take n) new) (map (take n) old)
      (length-map new (take n) ∙ long.size ∙ sym (length-map old (take n))) (λ t lt.
      let within : t < length new = omega (arith, length-map new (take n)) in
      let was : t < length old = omega (arith, long.size) in
      let p = at_old t was in
      let fits = are.fits in
      get_or-map (take n) new t [] [] within
      ∙ taken_same (row_at old t) (row_at new t) (omega arith) (long.each t)
      ∙ sym (get_or-map (take n) old t [] [] was))

  padded_longer : (wide : ℕ) (row row' : List Tern) → n ≤ length row → IsPadded n room row → IsLengthened row row'
      → wide ≤ length row' → IsPadded n wide row'
  padded_longer wide row row' le p (k, e) w = (
    w,
    ap (drop n) e ∙ drop-append-le n row (replicate k X) le ∙ ap (λ xs. xs ++ replicate k X) p.1
        ∙ replicate-append-replicate (length row - n) k X
        ∙ ap (λ (m : ℕ). replicate m X)
        (let size : length row' ≡ length row + length (replicate k X) = ap length e ∙ length-append row (replicate k X) in
        let more = length-replicate k X in
        omega arith),
  )

  pub longer_padded : (wide : ℕ) → n ≤ wide → wide ≤ 4194304 → All (λ row. wide ≤ length row) new → ArePadded n wide flags new
  longer_padded wide le limit all = record {
    count = omega (arith, long.size, are.count);
    constant = are.constant;
    fits = le;
    limit = limit;
    flagged = are.flagged;
    each = λ t d lt.
        let was : t < length old = omega (arith, long.size) in
        let p = at_old t was in
        let fits = are.fits in
        subst (IsPadded n wide) (get_or_default new t [] d lt)
        (padded_longer wide (row_at old t) (row_at new t) (omega arith) p (long.each t) (all t [] lt));
  }

  -- also where some rows have no more cells
  pub still_padded : ArePadded n room flags new
  still_padded = longer_padded room are.fits are.limit (λ t d lt.
      let was : t < length old = omega (arith, long.size) in
      let p = at_old t was in
      let more = longer_length (row_at old t) (row_at new t) (long.each t) in
      subst (λ (xs : List Tern). room ≤ length xs) (get_or_default new t [] d lt) (omega arith))

-- the cell after the last variable becomes that of a variable
lt_tested : (a b : ℕ) → nat_lt a b ≡ true → a + 1 ≤ b
lt_tested a b h = grind (arith, nat_tests)

module _ (n room : ℕ) (flags : List Bool) (rows : List (List Tern)) (are : ArePadded n room flags rows)
    (spare : nat_lt n room ≡ true) where
  later : (row : List Tern) → IsPadded n room row → get_or row n X ≡ X
  later row p = from_drop n row (length row - n) p.1
    where
      from_drop : (k : ℕ) (xs : List Tern) (m : ℕ) → drop k xs ≡ replicate m X → get_or xs k X ≡ X
      from_drop k [] m e = refl
      from_drop zero (x ∷ xs) zero e = cc
      from_drop zero (x ∷ xs) (suc m) e = ap (λ (ys : List Tern). get_or ys 0 X) e
      from_drop (suc k) (x ∷ xs) m e = from_drop k xs m e

  one_after : (row : List Tern) → IsPadded n room row → take (n + 1) row ≡ with_new_cell (take n row)
  one_after row p =
      let wide = lt_tested n room spare in
      take_more row n X (omega arith) ∙ ap (λ (x : Tern). take n row ++ x ∷ []) (later row p)

  none : (m : ℕ) → [] ≡ replicate m X → replicate (m - 1) X ≡ []
  none m e =
      let size : 0 ≡ length (replicate m X) = ap (λ (xs : List Tern). length xs) e in
      let z : m - 1 ≡ 0 = omega (arith, length-replicate m X) in
      ap (λ (k : ℕ). replicate k X) z

  dropped : (k : ℕ) (xs : List Tern) (m : ℕ) → drop k xs ≡ replicate m X → drop (suc k) xs ≡ replicate (m - 1) X
  dropped zero [] m e = sym (none m e)
  dropped zero (x ∷ xs) zero e = absurd (let l : suc (length xs) ≡ 0 = ap (λ (ys : List Tern). length ys) e in omega arith)
  dropped zero (x ∷ xs) (suc m) e = ap (drop 1) e ∙ ap (λ (k : ℕ). replicate k X) (omega arith)
  dropped (suc k) [] m e = sym (none m e)
  dropped (suc k) (x ∷ xs) m e = dropped k xs m e

  pub rows_wider : map (take (n + 1)) rows ≡ map with_new_cell (map (take n) rows)
  rows_wider = of rows are.each
    where
      of : (rs : List (List Tern)) → All (IsPadded n room) rs → map (take (n + 1)) rs ≡ map with_new_cell (map (take n) rs)
      of [] all = refl
      of (r ∷ rs) all =
          ap (λ (x : List Tern). x ∷ map (take (n + 1)) rs) (one_after r (all 0 [] (omega arith)))
          ∙ ap (λ (xs : List (List Tern)). with_new_cell (take n r) ∷ xs) (of rs (λ k d lt. all (suc k) d (omega arith)))

  pub wider_padded : ArePadded (n + 1) room (flags ++ true ∷ []) rows
  wider_padded = record {
    count = are.count;
    constant = omega arith;
    fits = lt_tested n room spare;
    limit = are.limit;
    flagged = length_push flags true ∙ ap (λ k. k + 1) are.flagged;
    each = λ k d lt.
        let p = are.each k d lt in
        let row : List Tern = get_or rows k d in
        let next : n + 1 ≡ suc n = omega arith in
        let fewer : length row - n - 1 ≡ length row - (n + 1) = omega arith in (
          p.0,
          ap (λ (j : ℕ). drop j row) next ∙ dropped n row (length row - n) p.1 ∙ ap (λ (m : ℕ). replicate m X) fewer,
        );
  }
