-- The entries of a certificate that stand for nothing.
use Rattle.std.proofs.Common.{◌≡◌, ℕ, zero, suc, ◌+◌, ◌<◌, ◌≤◌, true, false, List, [], ◌∷◌, ◌++◌, length, map, take}
use Rattle.std.proofs.Common.{get_or, replicate, Option, Some, None, is_none, is_some, All}
use Rattle.std.proofs.Common.{refl, sym, ap, ap₂, ◌∙◌, arith}
use Rattle.std.proofs.lemmas.List.{append-nil, take_more, length-take-le}
use Rattle.std.proofs.lemmas.List.Elements.{All-nil, All-cons, All-head, All-tail}
use Rattle.std.proofs.lemmas.Bool.{false≢true}
use Rattle.std.proofs.lemmas.List.Sums.{count_by_more_yes, count_by_more_no}
use Rattle.std.proofs.lemmas.Option.{get_or_from_slice_get}
use Rattle.aig_base.proofs.lists.Positions.{stands_at}
use Rattle.aig_certificate.specs.Strengthened.{own, own_position}
use Rattle.aig_certificate.specs.state.Table.{next_after}

module _ {A : Type 0} where
  pub own-append : (ms ns : List (Option ℕ)) (xs ys : List A) → length ms ≡ length xs
      → own (ms ++ ns) (xs ++ ys) ≡ own ms xs ++ own ns ys
  unfolding own
  own-append [] ns [] ys size = refl
  own-append [] ns (x ∷ xs) ys size = absurd (omega arith)
  own-append (m ∷ ms) ns [] ys size = absurd (omega arith)
  own-append (Some l ∷ ms) ns (x ∷ xs) ys size = own-append ms ns xs ys (omega arith)
  own-append (None ∷ ms) ns (x ∷ xs) ys size = ap (λ (zs : List A). x ∷ zs) (own-append ms ns xs ys (omega arith))

  pub own-map : {B : Type 0} (f : A → B) (ms : List (Option ℕ)) (xs : List A) → own ms (map f xs) ≡ map f (own ms xs)
  unfolding own
  own-map f [] xs = refl
  own-map f (m ∷ ms) [] = refl
  own-map f (Some l ∷ ms) (x ∷ xs) = own-map f ms xs
  own-map {B = B} f (None ∷ ms) (x ∷ xs) = ap (λ (zs : List B). f x ∷ zs) (own-map f ms xs)

  pub own-all : (n : ℕ) (xs : List A) → length xs ≡ n → own (replicate n None) xs ≡ xs
  unfolding own
  own-all zero [] size = refl
  own-all zero (x ∷ xs) size = absurd (omega arith)
  own-all (suc n) [] size = absurd (omega arith)
  own-all (suc n) (x ∷ xs) size = ap (λ (zs : List A). x ∷ zs) (own-all n xs (omega arith))

  pub All-own : (P : A → Type 0) (ms : List (Option ℕ)) (xs : List A) → All P xs → All P (own ms xs)
  unfolding own
  All-own P [] xs h = All-nil P
  All-own P (m ∷ ms) [] h = All-nil P
  All-own P (Some l ∷ ms) (x ∷ xs) h = All-own P ms xs (All-tail P x xs h)
  All-own P (None ∷ ms) (x ∷ xs) h = All-cons P x (own ms xs) (All-head P x xs h) (All-own P ms xs (All-tail P x xs h))

  pub length-own : (ms : List (Option ℕ)) (xs : List A) → length (own ms xs) ≤ length xs
  unfolding own
  length-own [] xs = omega arith
  length-own (m ∷ ms) [] = omega arith
  length-own (Some l ∷ ms) (x ∷ xs) = omega (arith, length-own ms xs)
  length-own (None ∷ ms) (x ∷ xs) = omega (arith, length-own ms xs)

  -- one more entry
  taken : (ms : List (Option ℕ)) (xs : List A) (i : ℕ) (m : Option ℕ) (x : A) → length ms ≡ length xs → i < length xs
      → m ≡ get_or ms i m → x ≡ get_or xs i x
      → own (take (i + 1) ms) (take (i + 1) xs) ≡ own (take i ms) (take i xs) ++ own (m ∷ []) (x ∷ [])
  taken ms xs i m x size lt at is =
      let below : i < length ms = omega (arith, size) in
      let e : take (i + 1) ms ≡ take i ms ++ m ∷ [] =
      take_more ms i m below ∙ ap (λ (n : Option ℕ). take i ms ++ n ∷ []) (sym at) in
      let f : take (i + 1) xs ≡ take i xs ++ x ∷ [] = take_more xs i x lt ∙ ap (λ (y : A). take i xs ++ y ∷ []) (sym is) in
      ap₂ (λ (ns : List (Option ℕ)) (ys : List A). own ns ys) e f
      ∙ own-append (take i ms) (m ∷ []) (take i xs) (x ∷ [])
      (length-take-le i ms (omega (arith, below)) ∙ sym (length-take-le i xs (omega (arith, lt))))

  pub own-nothing : own {A = A} [] [] ≡ []
  unfolding own
  own-nothing = refl

  -- one more own entry, and one more that is shared
  pub taken_none : (ms : List (Option ℕ)) (xs old new : List A) (i : ℕ) (m : Option ℕ) (x : A) → length ms ≡ length xs
      → i < length xs → m ≡ get_or ms i m → is_some m ≡ false → x ≡ get_or xs i x → old ≡ own (take i ms) (take i xs)
      → new ≡ old ++ x ∷ [] → new ≡ own (take (i + 1) ms) (take (i + 1) xs)
  unfolding own
  taken_none ms xs old new i None x size lt at none is so more =
      more ∙ ap (λ (ys : List A). ys ++ x ∷ []) so ∙ sym (taken ms xs i None x size lt at is)
  taken_none ms xs old new i (Some l) x size lt at none is so more = absurd (false≢true (sym none))

  pub taken_some : (ms : List (Option ℕ)) (xs old : List A) (i : ℕ) (m : Option ℕ) → length ms ≡ length xs
      → i < length xs → m ≡ get_or ms i m → is_some m ≡ true → old ≡ own (take i ms) (take i xs)
      → old ≡ own (take (i + 1) ms) (take (i + 1) xs)
  unfolding own
  taken_some ms xs old i None size lt at some so = absurd (false≢true some)
  taken_some ms xs old i (Some l) size lt at some so =
      let (x, here) = stands_at xs i lt in
      so ∙ sym (append-nil (own (take i ms) (take i xs)))
      ∙ sym (taken ms xs i (Some l) x size lt at (sym (get_or_from_slice_get xs i x x here)))

-- the number of own entries after one more
pub count_more : (n next : ℕ) (ms : List (Option ℕ)) (i : ℕ) (m : Option ℕ) → i < length ms → m ≡ get_or ms i m
    → next ≡ own_position n ms i → next_after next m ≡ own_position n ms (i + 1)
count_more n next ms i (Some l) lt at is =
    omega (arith, is, count_by_more_no is_none ms i (Some l) lt (ap is_none (sym at)))
count_more n next ms i None lt at is =
    omega (arith, is, count_by_more_yes is_none ms i None lt (ap is_none (sym at)))
