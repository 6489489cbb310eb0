-- The signals that differ, with two rows each.
use Rattle.std.proofs.Common.{◌≡◌, ◌≢◌, ◌⊎◌, ℕ, zero, suc, ◌+◌, ◌-◌, ◌<◌, ◌≤◌, List, [], ◌∷◌, ◌++◌, length, map, take}
use Rattle.std.proofs.Common.{get_or, min, append_assoc, Option, None, Some, IfNone, IfSome, OnOk, Result, Ok, Err, Bool}
use Rattle.std.proofs.Common.{true, false, ◌==◌, inl, inr, refl, sym, ap, subst, ◌∙◌, arith}
use Rattle.std.specs.Prelude.{Contains}
use Rattle.std.specs.Option.{is_some}
use Rattle.std.proofs.lemmas.Bool.{eqb-false, eqb-true, false≢true}
use Rattle.std.proofs.lemmas.List.{map-append, take_all, take_more}
use Rattle.std.proofs.lemmas.List.Elements.{Contains-append_cases, Contains-append_left, Contains-push}
use Rattle.aig_bench.specs.BenchState.{CircuitAndRows}
use Rattle.aig_prompt.specs.Table.{TableRow, IsTable, row_of}
use Rattle.aig_prompt.specs.declared.table.Row.{Row}
use Rattle.aig_signals.specs.Signals.{signals_of}
use Rattle.aig_signals.specs.declared.signal.Signal.{Signal}
use Rattle.aig_shell.specs.Answers.{DiffersFrames}
use Rattle.aig_shell.specs.Compared.{AreAllSame, AreSame, NoneOutside, OneDiffers, IsDifferenceText}
use Rattle.aig_shell.specs.Tables.{AreRowsOf, AreTwoRows, Differs, IsDifference}

-- ---- items
none_there : {X : Type 0} (x : X) → Contains [] x → ⊥
none_there x (k, lt, is) = absurd (omega (arith, lt))

only_there : {X : Type 0} (x y : X) → Contains (x ∷ []) y → x ≡ y
only_there x y (zero, lt, is) = is
only_there x y (suc k, lt, is) = absurd (omega (arith, lt))

pub signals_more : (items : List Signal) (i : ℕ) (signal : Signal) → i < length items → signal ≡ get_or items i signal
    → take i items ++ signal ∷ [] ≡ take (i + 1) items
signals_more items i signal lt is = ap (λ (x : Signal). take i items ++ x ∷ []) is ∙ sym (take_more items i signal lt)

pub signals_all : (items all : List Signal) (i : ℕ) → items ≡ all → length items ≤ i → take i items ≡ all
signals_all items all i is le = take_all i items le ∙ is

-- what is found, or not
pub none_found : {P : Type 0} (found : Option ℕ) → IfNone found P → ((t : ℕ) → found ≡ Some t → ⊥) → P
none_found None h not = h
none_found (Some t) h not = absurd (not t refl)

pub some_found : (P : ℕ → Type 0) (found : Option ℕ) (t : ℕ) → found ≡ Some t → IfSome found P → P t
some_found P found t is h = subst (λ (o : Option ℕ). IfSome o P) is h

pub is_none : {P : Type 0} (found : Option ℕ) (r : Bool) → r ≡ is_some found → r ≡ false → IfNone found P → P
is_none None r is h k = k
is_none (Some t) r is h k = absurd (false≢true (sym h ∙ is))

pub is_one : (found : Option ℕ) (r : Bool) → r ≡ is_some found → r ≡ true → (t : ℕ) × (found ≡ Some t)
is_one None r is h = absurd (false≢true (sym is ∙ h))
is_one (Some t) r is h = (t, refl)

-- no rows, or some
pub no_row : (rows : List Row) (r : Bool) → r ≡ (length rows == 0) → r ≡ true → map row_of rows ≡ []
no_row [] r is h = refl
no_row (row ∷ rows) r is h = absurd (omega (arith, eqb-true (length (row ∷ rows)) 0 (sym is ∙ h)))

pub some_row : (rows : List Row) (r : Bool) → r ≡ (length rows == 0) → r ≡ false → map row_of rows ≢ []
some_row [] r is h e = absurd (eqb-false 0 0 (sym is ∙ h) refl)
some_row (row ∷ rows) r is h e = cc e

-- ---- frames
module _ (now was : CircuitAndRows) where
  -- what differs at a frame differs at more frames
  pub differs_wider : (signal : Signal) (t first n : ℕ) → first ≤ t → t < first + n → Differs now was t 1 signal
      → Differs now was first n signal
  differs_wider signal t first n le lt (u, a, b, from, to, here, there, other) =
      (u, a, b, omega (arith, le, from), omega (arith, lt, to), here, there, other)

  same_or_differs : (signal : Signal) (first n end : ℕ) → first + n ≤ end → AreSame now was signal first end
      → Differs now was first n signal → ⊥
  same_or_differs signal first n end le same (u, a, b, from, to, here, there, other) =
      other (same u a b from (omega (arith, le, to)) here there)

  -- ---- rows
  -- a signal more that is the same
  rows_same_more : (first n : ℕ) (all : List Signal) (signal : Signal) (rows : List TableRow) → (Differs now was first n signal → ⊥)
      → AreRowsOf now was first n all rows → AreRowsOf now was first n (all ++ signal ∷ []) rows
  unfolding AreRowsOf
  rows_same_more first n [] signal rows same h = inl (same, h)
  rows_same_more first n (x ∷ all) signal rows same (inl (same', h)) = inl (same', rows_same_more first n all signal rows same h)
  rows_same_more first n (x ∷ all) signal rows same (inr (above, below, more, differs, two, h, is)) =
      inr (above, below, more, differs, two, rows_same_more first n all signal more same h, is)

  -- one that differs
  rows_differ_more : (first n : ℕ) (all : List Signal) (signal : Signal) (rows : List TableRow) (above below : TableRow)
      → Differs now was first n signal → AreTwoRows now was first n signal above below → AreRowsOf now was first n all rows
      → AreRowsOf now was first n (all ++ signal ∷ []) (rows ++ above ∷ (below ∷ []))
  unfolding AreRowsOf
  rows_differ_more first n [] signal rows above below differs two h =
      inr (above, below, [], differs, two, refl, ap (λ (rs : List TableRow). rs ++ above ∷ (below ∷ [])) h)
  rows_differ_more first n (x ∷ all) signal rows above below differs two (inl (same, h)) =
      inl (same, rows_differ_more first n all signal rows above below differs two h)
  rows_differ_more first n (x ∷ all) signal rows above below differs two (inr (a, b, more, other, those, h, is)) = inr (
    a,
    b,
    more ++ above ∷ (below ∷ []),
    other,
    those,
    rows_differ_more first n all signal more above below differs two h,
    ap (λ (rs : List TableRow). rs ++ above ∷ (below ∷ [])) is,
  )

  -- ---- none
  no_rows : (first n : ℕ) (all : List Signal) → ((signal : Signal) → Contains all signal → Differs now was first n signal → ⊥)
      → AreRowsOf now was first n all []
  unfolding AreRowsOf
  no_rows first n [] none = refl
  no_rows first n (x ∷ all) none =
      inl (none x (zero, omega arith, refl), no_rows first n all (λ s (k, lt, is). none s (suc k, omega (arith, lt), is)))

  none_shown : (first n : ℕ) (all : List Signal) (signal : Signal) → AreRowsOf now was first n all [] → Contains all signal
      → Differs now was first n signal → ⊥
  unfolding AreRowsOf
  none_shown first n [] signal h there differs = none_there signal there
  none_shown first n (x ∷ all) signal (inl (same, h)) (zero, lt, is) differs = same (subst (Differs now was first n) (sym is) differs)
  none_shown first n (x ∷ all) signal (inl (same, h)) (suc k, lt, is) differs =
      none_shown first n all signal h (k, omega (arith, lt), is) differs
  none_shown first n (x ∷ all) signal (inr (above, below, more, other, two, h, is)) there differs = cc is

  pub none_outside : (first n count : ℕ) → AreAllSame now was (signals_of now.circuit) 0 count → NoneOutside now was count first n
  none_outside first n count same nothing =
      no_rows 0 count (signals_of now.circuit) (λ s there. same_or_differs s 0 count count (omega arith) (same s there))

  -- one that differs in the frames
  pub one_inside : (t first n count : ℕ) → first ≤ t → t < first + n → OneDiffers now was (signals_of now.circuit) t 1
      → NoneOutside now was count first n
  one_inside t first n count le lt (signal, there, differs) nothing =
      absurd (none_shown first n (signals_of now.circuit) signal nothing there (differs_wider signal t first n le lt differs))

  -- ---- the frames that are shown
  none_before : (first end : ℕ) → AreAllSame now was (signals_of now.circuit) 0 end → first ≤ end → IsDifference now was 0 first []
  none_before first end same le =
      no_rows 0 first (signals_of now.circuit) (λ s there. same_or_differs s 0 first end (omega (arith, le)) (same s there))

  -- all of a short run
  pub shows_all : (count : ℕ) → count ≤ 64 → DiffersFrames None now was count 0 (count - 0)
  shows_all count le = (
    omega (arith, le),
    omega arith,
    no_rows 0 0 (signals_of now.circuit) (λ s there (t, a, b, from, to, here, there', other). omega (arith, from, to)),
    inl (omega (arith, le)),
  )

  -- the last ones
  pub shows_last : (count : ℕ) → 64 < count → AreAllSame now was (signals_of now.circuit) 0 count
      → DiffersFrames None now was count (count - 64) (count - (count - 64))
  shows_last count lt same =
      (omega (arith, lt), omega arith, none_before (count - 64) count same (omega arith), inl refl)

  le_or_lt : (m n : ℕ) → (m ≤ n) ⊎ (n < m)
  le_or_lt m n = grind arith

  -- those from the first difference on
  pub shows_from : (count t first : ℕ) → 64 < count → first ≡ min t (count - 64) → AreAllSame now was (signals_of now.circuit) 0 t
      → OneDiffers now was (signals_of now.circuit) t 1 → DiffersFrames None now was count first (first + 64 - first)
  shows_from count t first lt is same (signal, there, differs) = (
    omega (arith, lt),
    omega (arith, is),
    none_before first t same (omega (arith, is)),
    elim (le_or_lt t (count - 64)) [
      | inl le ↦
          let here : first ≡ t = omega (arith, is, le) in
          inr (λ nothing. none_shown first 1 (signals_of now.circuit) signal nothing there (subst (λ f. Differs now was f 1 signal) (sym here) differs))
      | inr more ↦ inl (omega (arith, is, more))
    ],
  )

-- ---- the loop over signals
module _ (now was : CircuitAndRows) (first end : ℕ) (items : List Signal) where
  -- rows of the signals before one
  abbrev pub AreRowsBefore : ℕ → List Row → Type 0
  AreRowsBefore i rows = AreRowsOf now was first (end - first) (take i items) (map row_of rows)

  pub rows_begin : (rows : List Row) → rows ≡ [] → AreRowsBefore 0 rows
  rows_begin rows is =
      subst (AreRowsBefore 0) (sym is) (no_rows now was first (end - first) [] (λ s there differs. none_there s there))

  pub rows_same : (i : ℕ) (signal : Signal) (rows : List Row) → first ≤ end → i < length items → signal ≡ get_or items i signal
      → AreSame now was signal first end → AreRowsBefore i rows → AreRowsBefore (i + 1) rows
  rows_same i signal rows le lt is same h =
      subst (λ (ss : List Signal). AreRowsOf now was first (end - first) ss (map row_of rows)) (signals_more items i signal lt is)
      (rows_same_more now was first (end - first) (take i items) signal (map row_of rows)
      (same_or_differs now was signal first (end - first) end (omega (arith, le)) same) h)

  pub rows_differ : (i : ℕ) (signal : Signal) (t : ℕ) (rows half whole : List Row) (above below : Row) → i < length items
      → signal ≡ get_or items i signal → (first ≤ t) × (t < end) → Differs now was t 1 signal
      → AreTwoRows now was first (end - first) signal (row_of above) (row_of below) → half ≡ rows ++ above ∷ []
      → whole ≡ half ++ below ∷ [] → AreRowsBefore i rows → AreRowsBefore (i + 1) whole
  rows_differ i signal t rows half whole above below lt is range differs two e f h =
      let n = end - first in
      let all : map row_of rows ++ row_of above ∷ (row_of below ∷ []) ≡ map row_of whole =
      sym (map-append row_of rows (above ∷ (below ∷ [])))
      ∙ ap (map row_of) (sym (append_assoc rows (above ∷ []) (below ∷ [])) ∙ ap (λ (rs : List Row). rs ++ below ∷ []) (sym e) ∙ sym f) in
      subst (λ (ss : List Signal). AreRowsOf now was first n ss (map row_of whole)) (signals_more items i signal lt is)
      (subst (AreRowsOf now was first n (take i items ++ signal ∷ [])) all
      (rows_differ_more now was first n (take i items) signal (map row_of rows) (row_of above) (row_of below)
      (differs_wider now was signal t first n range.0 (omega (arith, range.0, range.1)) differs) two h))

  pub rows_end : (i : ℕ) (rows : List Row) → length items ≤ i → items ≡ signals_of now.circuit → AreRowsBefore i rows
      → IsDifference now was first (end - first) (map row_of rows)
  rows_end i rows le is h =
      subst (λ (ss : List Signal). AreRowsOf now was first (end - first) ss (map row_of rows))
      (signals_all items (signals_of now.circuit) i is le) h

-- ---- the first frame
-- the end so far, which is the least frame at which a signal before one differs
abbrev pub IsEndSoFar : ℕ → ℕ → Option ℕ → ℕ → Type 0
IsEndSoFar first given None end = end ≡ given
IsEndSoFar first given (Some t) end = (end ≡ t) × (first ≤ t) × (t < given)

pub end_same : (first given : ℕ) (least least' : Option ℕ) (end end' : ℕ) → least' ≡ least → end' ≡ end
    → IsEndSoFar first given least end → IsEndSoFar first given least' end'
end_same first given least least' end end' e f h =
    subst (λ (o : Option ℕ). IsEndSoFar first given o end') (sym e) (subst (IsEndSoFar first given least) (sym f) h)

end_within : (first given : ℕ) (least : Option ℕ) (end : ℕ) → IsEndSoFar first given least end → end ≤ given
end_within first given None end h = omega (arith, h)
end_within first given (Some t) end h = omega (arith, h.0, h.2)

pub end_less : (first given : ℕ) (least least' : Option ℕ) (end end' t : ℕ) → least' ≡ Some t → end' ≡ t → (first ≤ t) × (t < end)
    → IsEndSoFar first given least end → IsEndSoFar first given least' end'
end_less first given least least' end end' t e f range h =
    end_same first given (Some t) least' t end' e f (refl, range.0, omega (arith, range.1, end_within first given least end h))

module _ (now was : CircuitAndRows) (first given : ℕ) (items : List Signal) where
  abbrev pub IsLeast : ℕ → Option ℕ → Type 0
  IsLeast i None = AreAllSame now was (take i items) first given
  IsLeast i (Some t) = OneDiffers now was (take i items) t 1 × AreAllSame now was (take i items) first t

  -- one more signal that is the same up to an end, at which all before it are
  all_same_more : (i : ℕ) (signal : Signal) (end : ℕ) → i < length items → signal ≡ get_or items i signal
      → AreSame now was signal first end → AreAllSame now was (take i items) first end → AreAllSame now was (take (i + 1) items) first end
  all_same_more i signal end lt is same h = λ s there.
      elim (Contains-append_cases (take i items) (signal ∷ []) s
      (subst (λ (ss : List Signal). Contains ss s) (sym (signals_more items i signal lt is)) there)) [
        | inl before ↦ h s before
        | inr here ↦ subst (λ (x : Signal). AreSame now was x first end) (only_there signal s here) same
      ]

  -- a signal that is the same
  pub least_same : (i : ℕ) (signal : Signal) (least : Option ℕ) (end : ℕ) → i < length items → signal ≡ get_or items i signal
      → IsEndSoFar first given least end → AreSame now was signal first end → IsLeast i least → IsLeast (i + 1) least
  least_same i signal None end lt is at same h =
      all_same_more i signal given lt is (subst (AreSame now was signal first) at same) h
  least_same i signal (Some t) end lt is at same ((s, there, differs), before) = (
    (
      s,
      subst (λ (ss : List Signal). Contains ss s) (signals_more items i signal lt is)
          (Contains-append_left (take i items) (signal ∷ []) s there),
      differs,
    ),
    all_same_more i signal t lt is (subst (AreSame now was signal first) at.0 same) before,
  )

  -- all signals before it are the same up to an end
  same_so_far : (i : ℕ) (least : Option ℕ) (end t : ℕ) → IsEndSoFar first given least end → t < end → IsLeast i least
      → AreAllSame now was (take i items) first t
  same_so_far i None end t at lt h = λ s there u a b from to. h s there u a b from (omega (arith, at, lt, to))
  same_so_far i (Some e) end t at lt h = λ s there u a b from to. h.1 s there u a b from (omega (arith, at.0, lt, to))

  -- one that differs
  pub least_differs : (i : ℕ) (signal : Signal) (least : Option ℕ) (end t : ℕ) → i < length items → signal ≡ get_or items i signal
      → IsEndSoFar first given least end → t < end → Differs now was t 1 signal → AreSame now was signal first t → IsLeast i least
      → IsLeast (i + 1) (Some t)
  least_differs i signal least end t lt is at less differs same h = (
    (
      signal,
      subst (λ (ss : List Signal). Contains ss signal) (signals_more items i signal lt is)
          (Contains-push (take i items) signal),
      differs,
    ),
    all_same_more i signal t lt is same (same_so_far i least end t at less h),
  )

  -- all signals
  pub least_some : (i : ℕ) (least : Option ℕ) (all : List Signal) → items ≡ all → length items ≤ i → IsLeast i least
      → IfSome least (λ t. OneDiffers now was all t 1)
  least_some i None all is le h = tt
  least_some i (Some t) all is le h = subst (λ (ss : List Signal). OneDiffers now was ss t 1) (signals_all items all i is le) h.0

  pub least_before : (i : ℕ) (least : Option ℕ) (all : List Signal) → items ≡ all → length items ≤ i → IsLeast i least
      → IfSome least (λ t. AreAllSame now was all first t)
  least_before i None all is le h = tt
  least_before i (Some t) all is le h = subst (λ (ss : List Signal). AreAllSame now was ss first t) (signals_all items all i is le) h.1

  pub least_none : (i : ℕ) (least : Option ℕ) (all : List Signal) → items ≡ all → length items ≤ i → IsLeast i least
      → IfNone least (AreAllSame now was all first given)
  least_none i None all is le h = subst (λ (ss : List Signal). AreAllSame now was ss first given) (signals_all items all i is le) h
  least_none i (Some t) all is le h = tt

-- ---- the text
pub difference_shown : {A E : Type 0} (now was : CircuitAndRows) (note : List ℕ) (first n first' n' : ℕ) (rows : List TableRow)
    (result : Result A E) (old noted new : List ℕ) → first' ≡ first → n' ≡ n → IsDifference now was first n rows → rows ≢ []
    → noted ≡ old ++ note
    → OnOk result ((table : List ℕ) × IsTable first' n' rows table × (new ≡ noted ++ table))
    → OnOk result ((said : List ℕ) × IsDifferenceText now was note first n said × (new ≡ old ++ said))
difference_shown now was note first n first' n' rows (Err e) old noted new same size is some said h = tt
difference_shown now was note first n first' n' rows (Ok x) old noted new same size is some said (table, shown, text) =
    let all : IsTable first n rows table =
    subst (λ f. IsTable f n rows table) same (subst (λ k. IsTable first' k rows table) size shown) in (
      note ++ table,
      (rows, is, inr (some, table, all, refl)),
      text ∙ ap (λ (front : List ℕ). front ++ table) said ∙ append_assoc old note table,
    )
