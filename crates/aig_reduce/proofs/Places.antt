-- Places of a list of lists that are tried one after the other.
use Rattle.std.proofs.Common.{◌≡◌, ◌⊎◌, inl, inr, ℕ, zero, suc, ◌<◌, ◌≤◌, List, [], ◌∷◌, ◌++◌, length, map, take, drop}
use Rattle.std.proofs.Common.{Some, slice_get, slice_set, refl, sym, ap, ◌∙◌, subst, arith}
use Rattle.std.proofs.lemmas.Bool.{cases_eq}
use Rattle.std.proofs.lemmas.List.{length-set, take-set-le, drop-set-lt}
use Rattle.std.proofs.lemmas.Option.{same_Some, slice_get_within}
use Rattle.aig_parts.specs.declared.ternary.Tern.{Tern}
use Rattle.aig_parts.specs.declared.ternary.Tern.TheVariants.{X}
use Rattle.aig_values.specs.InputRows.{row_at, with_cell}
use Rattle.aig_bench.proofs.cells.CellLemmas.{get_set_same, get_set_other, row_written, row_other}
use Rattle.aig_reduce.specs.Reduction.{with_x_between, IsKept}
use Rattle.aig_reduce.specs.state.Places.{IsBefore, AreTried, Tries}

-- ---- lists

-- a list with another item is what is before it, the item, and what is after it
set_split : {A : Type 0} (xs : List A) (i : ℕ) (y : A) → i < length xs
    → slice_set xs i y ≡ take i xs ++ (y ∷ drop (suc i) xs)
set_split [] i y lt = absurd (omega arith)
set_split (x ∷ xs) zero y lt = refl
set_split (x ∷ xs) (suc i) y lt = ap (λ (zs : List _). x ∷ zs) (set_split xs i y (omega arith))

drop_suc : {A : Type 0} (xs : List A) (i : ℕ) → drop (suc i) xs ≡ drop 1 (drop i xs)
drop_suc [] zero = refl
drop_suc [] (suc i) = refl
drop_suc (x ∷ xs) zero = refl
drop_suc (x ∷ xs) (suc i) = drop_suc xs i

drop_one : {A : Type 0} (xs ys : List A) (i : ℕ) → drop i xs ≡ drop i ys → drop (suc i) xs ≡ drop (suc i) ys
drop_one xs ys i e = drop_suc xs i ∙ ap (drop 1) e ∙ sym (drop_suc ys i)

get_first : {A : Type 0} (xs : List A) (i : ℕ) → slice_get xs i ≡ slice_get (drop i xs) 0
get_first [] zero = refl
get_first [] (suc i) = refl
get_first (x ∷ xs) zero = refl
get_first (x ∷ xs) (suc i) = get_first xs i

row_first : (rows : List (List Tern)) (t : ℕ) → row_at rows t ≡ row_at (drop t rows) 0
row_first [] zero = refl
row_first [] (suc t) = refl
row_first (row ∷ rows) zero = refl
row_first (row ∷ rows) (suc t) = row_first rows t

-- a row that has a value is there
pub row_within : (rows : List (List Tern)) (t p : ℕ) (w : Tern) → slice_get (row_at rows t) p ≡ Some w → t < length rows
row_within [] zero p w at = let no : ⊥ = cc in absurd no
row_within [] (suc t) p w at = let no : ⊥ = cc in absurd no
row_within (row ∷ rows) zero p w at = omega arith
row_within (row ∷ rows) (suc t) p w at = let lt = row_within rows t p w at in omega arith

pub lengths_written : (rows : List (List Tern)) (t p : ℕ) (w : Tern) → map length (with_cell rows t p w) ≡ map length rows
lengths_written [] t p w = refl
lengths_written (row ∷ rows) zero p w = ap (λ (n : ℕ). n ∷ map length rows) (length-set row p w)
lengths_written (row ∷ rows) (suc t) p w = ap (λ (ns : List ℕ). length row ∷ ns) (lengths_written rows t p w)

-- ---- x at a place

-- where what is after the place is the same, only x is written
pub x_written : (now given : List (List Tern)) (t p : ℕ) → t < length now → p < length (row_at now t)
    → drop (suc t) now ≡ drop (suc t) given → drop (suc p) (row_at now t) ≡ drop (suc p) (row_at given t)
    → with_x_between now given t p ≡ with_cell now t p X
x_written now given t p lt lt' later here =
    ap (λ (rows : List (List Tern)). take t now ++ ((take p (row_at now t) ++ (X ∷ drop (suc p) (row_at given t))) ∷ rows)) (sym later)
    ∙ ap (λ (row : List Tern). take t now ++ ((take p (row_at now t) ++ (X ∷ row)) ∷ drop (suc t) now)) (sym here)
    ∙ ap (λ (row : List Tern). take t now ++ (row ∷ drop (suc t) now)) (sym (set_split (row_at now t) p X lt'))
    ∙ sym (set_split now t (slice_set (row_at now t) p X) lt)

x_same : (now new given : List (List Tern)) (u q : ℕ) → take u new ≡ take u now
    → take q (row_at new u) ≡ take q (row_at now u) → with_x_between new given u q ≡ with_x_between now given u q
x_same now new given u q e f =
    ap (λ (rows : List (List Tern)). rows ++ ((take q (row_at new u) ++ (X ∷ drop (suc q) (row_at given u))) ∷ drop (suc u) given)) e
    ∙ ap (λ (row : List Tern). take u now ++ ((row ++ (X ∷ drop (suc q) (row_at given u))) ∷ drop (suc u) given)) f

-- a write does not change what is tried up to it
x_kept : (now given : List (List Tern)) (t p u q : ℕ) (w : Tern) → t < length now → IsBefore u q t (suc p)
    → with_x_between (with_cell now t p w) given u q ≡ with_x_between now given u q
x_kept now given t p u q w lt (inl below) =
    x_same now (with_cell now t p w) given u q (take-set-le u now t _ (omega arith))
    (ap (take q) (row_other now t p w u (λ e. absurd (omega arith))))
x_kept now given t p u q w lt (inr (e, below)) =
    subst (λ (n : ℕ). with_x_between (with_cell now t p w) given n q ≡ with_x_between now given n q) (sym e)
    (x_same now (with_cell now t p w) given t q (take-set-le t now t _ (omega arith))
    (ap (take q) (row_written now t p w lt) ∙ take-set-le q (row_at now t) p w (omega arith)))

value_before : (now : List (List Tern)) (t p u q : ℕ) (w : Tern) → t < length now → IsBefore u q t p
    → slice_get (row_at (with_cell now t p w) u) q ≡ slice_get (row_at now u) q
value_before now t p u q w lt (inl below) =
    ap (λ (row : List Tern). slice_get row q) (row_other now t p w u (λ e. absurd (omega arith)))
value_before now t p u q w lt (inr (e, below)) =
    subst (λ (n : ℕ). slice_get (row_at (with_cell now t p w) n) q ≡ slice_get (row_at now n) q) (sym e)
    (ap (λ (row : List Tern). slice_get row q) (row_written now t p w lt)
    ∙ get_set_other (row_at now t) p q w (λ k. absurd (omega arith)))

-- ---- places that are tried

-- a place up to another is before it, or it
split : (u q t p : ℕ) → IsBefore u q t (suc p) → IsBefore u q t p ⊎ ((u ≡ t) × (q ≡ p))
split u q t p (inl below) = inl (inl below)
split u q t p (inr (e, below)) = elim (cases_eq q p) [
  | inl same ↦ inr (e, same)
  | inr ne ↦ inl (inr (e, omega arith))
]

module _ (C : List (List Tern) → Type 0) (given : List (List Tern)) where
  pub tried_none : C given → AreTried C given given 0 0
  tried_none c = record {
    shape = refl;
    later = refl;
    here = refl;
    confirmed = c;
    kept = λ u q a b before at is. elim before [ inl lt ↦ absurd (omega arith) | inr h ↦ absurd (omega (arith, h.1)) ];
  }

  module _ (now : List (List Tern)) (t p : ℕ) (lt : t < length now) (lt' : p < length (row_at now t)) (h : AreTried C given now t p) where
    tried_here : with_x_between now given t p ≡ with_cell now t p X
    tried_here = x_written now given t p lt lt' h.later (drop_one (row_at now t) (row_at given t) p h.here)

    stays : (C (with_cell now t p X) → ⊥) → AreTried C given now t (suc p)
    stays denied = record {
      shape = h.shape;
      later = h.later;
      here = drop_one (row_at now t) (row_at given t) p h.here;
      confirmed = h.confirmed;
      kept = λ u q a b before at is. elim (split u q t p before) [
        | inl earlier ↦ h.kept u q a b earlier at is
        | inr (e, f) ↦
            let at' : slice_get (row_at given t) p ≡ Some a = cc in
            let is' : slice_get (row_at now t) p ≡ Some b = cc in
            let same : slice_get (row_at now t) p ≡ slice_get (row_at given t) p =
            get_first (row_at now t) p ∙ ap (λ (row : List Tern). slice_get row 0) h.here ∙ sym (get_first (row_at given t) p) in
            let x_is : with_x_between now given u q ≡ with_cell now t p X =
            ap (λ (n : ℕ). with_x_between now given n q) e ∙ ap (with_x_between now given t) f ∙ tried_here in
            inr (λ c. denied (subst C x_is c), same_Some b a (sym is' ∙ same ∙ at'))
      ];
    }

    writes : C (with_cell now t p X) → AreTried C given (with_cell now t p X) t (suc p)
    writes c = record {
      shape = lengths_written now t p X ∙ h.shape;
      later = drop-set-lt (suc t) now t _ (omega arith) ∙ h.later;
      here =
          ap (drop (suc p)) (row_written now t p X lt) ∙ drop-set-lt (suc p) (row_at now t) p X (omega arith)
          ∙ drop_one (row_at now t) (row_at given t) p h.here;
      confirmed = c;
      kept = λ u q a b before at is. elim (split u q t p before) [
        | inl earlier ↦
            subst (λ (rows : List (List Tern)). IsKept (C rows) a b) (sym (x_kept now given t p u q X lt before))
            (h.kept u q a b earlier at (sym (value_before now t p u q X lt earlier) ∙ is))
        | inr (e, f) ↦
            let x_is : with_x_between (with_cell now t p X) given u q ≡ with_cell now t p X =
            x_kept now given t p u q X lt before
            ∙ ap (λ (n : ℕ). with_x_between now given n q) e ∙ ap (with_x_between now given t) f ∙ tried_here in
            let is' : slice_get (row_at (with_cell now t p X) t) p ≡ Some b = cc in
            let new_is : slice_get (row_at (with_cell now t p X) t) p ≡ Some X =
            ap (λ (row : List Tern). slice_get row p) (row_written now t p X lt) ∙ get_set_same (row_at now t) p X lt' in
            inl (subst C (sym x_is) c, same_Some b X (sym is' ∙ new_is))
      ];
    }

    -- one place more has been tried
    pub tried_more : (new : List (List Tern)) → Tries C now new t p → AreTried C given new t (suc p)
    tried_more new (inl (c, e)) = subst (λ (n : List (List Tern)). AreTried C given n t (suc p)) (sym e) (writes c)
    tried_more new (inr (denied, e)) = subst (λ (n : List (List Tern)). AreTried C given n t (suc p)) (sym e) (stays denied)

  -- a whole list has been tried
  pub tried_list : (now : List (List Tern)) (t p : ℕ) → length (row_at now t) ≤ p → AreTried C given now t p
      → AreTried C given now (suc t) 0
  tried_list now t p all h = record {
    shape = h.shape;
    later = drop_one now given (suc t) h.later;
    here =
        row_first now (suc t) ∙ ap (λ (rows : List (List Tern)). row_at rows 0) h.later ∙ sym (row_first given (suc t));
    confirmed = h.confirmed;
    kept = λ u q a b before at is. h.kept u q a b (earlier u q b before is) at is;
  }
    where
      earlier : (u q : ℕ) (b : Tern) → IsBefore u q (suc t) 0 → slice_get (row_at now u) q ≡ Some b → IsBefore u q t p
      earlier u q b (inl below) is = elim (cases_eq u t) [
        | inl e ↦
            let is' : slice_get (row_at now t) q ≡ Some b = cc in
            let within = slice_get_within (row_at now t) q b is' in
            inr (e, omega arith)
        | inr ne ↦ inl (omega arith)
      ]
      earlier u q b (inr h) is = absurd (omega (arith, h.1))

  -- all lists have been tried
  pub tried_all : (now : List (List Tern)) (t p : ℕ) → length now ≤ t → AreTried C given now t p → (u q : ℕ) (a b : Tern)
      → slice_get (row_at given u) q ≡ Some a → slice_get (row_at now u) q ≡ Some b
      → IsKept (C (with_x_between now given u q)) a b
  tried_all now t p all h u q a b at is =
      let lt = row_within now u q b is in h.kept u q a b (inl (omega arith)) at is
