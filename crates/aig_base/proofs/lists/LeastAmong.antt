-- The least key of the items that are not good: of joined lists, one item on, and of a whole list.
use Rattle.std.proofs.Common.{◌≡◌, ◌↔◌, ℕ, ◌+◌, ◌<◌, ◌≤◌, ◌⊎◌, inl, inr, min, List, [], ◌∷◌, ◌++◌, length, get_or, take}
use Rattle.std.proofs.Common.{map, Option, Some, None, refl, sym, ap, subst, ◌∙◌, arith}
use Rattle.std.specs.List.{flat_map}
use Rattle.std.proofs.lemmas.List.{take_more, map_more, append-nil}
use Rattle.std.proofs.lemmas.List.Elements.{All-append, All-nil, All-cons}
use Rattle.std.proofs.lemmas.List.Concat.{flat_map-append}
use Rattle.aig_base.specs.state.LeastFaulty.{HasBad, IsLeastAmong, lesser}
use Rattle.aig_base.proofs.lists.Gets.{slice_get_left, slice_get_right}

pub at_most_or_over : (v w : ℕ) → (v ≤ w) ⊎ (w < v)
at_most_or_over v w = grind arith

module _ {X : Type 0} (Good : X → Type 0) (key : X → ℕ) where
  bad_left : (xs ys : List X) (v : ℕ) → HasBad Good key xs v → HasBad Good key (xs ++ ys) v
  bad_left xs ys v (k, x, at, e, bad) = (k, x, slice_get_left xs ys k x at, e, bad)

  bad_right : (xs ys : List X) (v : ℕ) → HasBad Good key ys v → HasBad Good key (xs ++ ys) v
  bad_right xs ys v (k, x, at, e, bad) = (length xs + k, x, slice_get_right xs ys k ∙ at, e, bad)

  -- the least of two lists is the lesser of their least
  pub least_of_both : (xs ys : List X) (a b : Option ℕ) → IsLeastAmong Good key xs a → IsLeastAmong Good key ys b
      → IsLeastAmong Good key (xs ++ ys) (lesser a b)
  least_of_both xs ys None None p q = All-append Good xs ys p q
  least_of_both xs ys None (Some w) p q =
      (bad_right xs ys w q.0, All-append (λ x. key x < w → Good x) xs ys (λ k d h l. p k d h) q.1)
  least_of_both xs ys (Some v) None p q =
      (bad_left xs ys v p.0, All-append (λ x. key x < v → Good x) xs ys p.1 (λ k d h l. q k d h))
  least_of_both xs ys (Some v) (Some w) p q = elim (at_most_or_over v w) [
    | inl at_most ↦
        let e : v ≡ min v w = omega arith in
        subst (λ m. IsLeastAmong Good key (xs ++ ys) (Some m)) e
        (bad_left xs ys v p.0, All-append (λ x. key x < v → Good x) xs ys p.1 (λ k d h l. q.1 k d h (omega arith)))
    | inr over ↦
        let e : w ≡ min v w = omega arith in
        subst (λ m. IsLeastAmong Good key (xs ++ ys) (Some m)) e
        (bad_right xs ys w q.0, All-append (λ x. key x < w → Good x) xs ys (λ k d h l. p.1 k d h (omega arith)) q.1)
  ]

  -- one item
  pub good_one : (x : X) → Good x → IsLeastAmong Good key (x ∷ []) None
  good_one x good = All-cons Good x [] good (All-nil Good)

  pub bad_one : (x : X) (v : ℕ) → v ≡ key x → (Good x → ⊥) → IsLeastAmong Good key (x ∷ []) (Some v)
  bad_one x v e bad = (
    (0, x, refl, sym e, bad),
    All-cons (λ y. key y < v → Good y) x [] (λ l. absurd (omega arith)) (All-nil
        (λ y. key y < v → Good y)),
  )

  -- one item on in a loop over the list, over what it maps to, and over the pieces that it gives
  pub least_more : (xs : List X) (i : ℕ) (x : X) (a b : Option ℕ) → i < length xs → x ≡ get_or xs i x
      → IsLeastAmong Good key (take i xs) a → IsLeastAmong Good key (x ∷ []) b → IsLeastAmong Good key (take (i + 1) xs)
      (lesser a b)
  least_more xs i x a b l is p q =
      let e : take (i + 1) xs ≡ take i xs ++ x ∷ [] = take_more xs i x l ∙ ap (λ y. take i xs ++ y ∷ []) (sym is) in
      subst (λ ys. IsLeastAmong Good key ys (lesser a b)) (sym e) (least_of_both (take i xs) (x ∷ []) a b p q)

  pub least_more_mapped : {Y : Type 0} (f : Y → X) (ys : List Y) (i : ℕ) (y : Y) (a b : Option ℕ) → i < length ys → y
      ≡ get_or ys i y
      → IsLeastAmong Good key (map f (take i ys)) a → IsLeastAmong Good key (f y ∷ []) b
      → IsLeastAmong Good key (map f (take (i + 1) ys)) (lesser a b)
  least_more_mapped f ys i y a b l is p q =
      let e : map f (take (i + 1) ys) ≡ map f (take i ys) ++ f y ∷ [] = map_more f ys i y l ∙ ap (λ z. map f (take i ys)
      ++ f z ∷ []) (sym is) in
      subst (λ zs. IsLeastAmong Good key zs (lesser a b)) (sym e) (least_of_both (map f (take i ys)) (f y ∷ []) a b p q)

  pub least_more_pieces : {Y : Type 0} (f : Y → List X) (ys : List Y) (i : ℕ) (y : Y) (a b : Option ℕ) → i < length ys
      → y ≡ get_or ys i y
      → IsLeastAmong Good key (flat_map f (take i ys)) a → IsLeastAmong Good key (f y) b
      → IsLeastAmong Good key (flat_map f (take (i + 1) ys)) (lesser a b)
  least_more_pieces {Y} f ys i y a b l is p q =
      let t : take (i + 1) ys ≡ take i ys ++ y ∷ [] = take_more ys i y l ∙ ap (λ z. take i ys ++ z ∷ []) (sym is) in
      let e : flat_map f (take (i + 1) ys) ≡ flat_map f (take i ys) ++ f y =
      ap (flat_map f) t ∙ flat_map-append f (take i ys) (y ∷ []) ∙ ap (λ zs. flat_map f (take i ys)
      ++ zs) (append-nil (f y)) in
      subst (λ zs. IsLeastAmong Good key zs (lesser a b)) (sym e) (least_of_both (flat_map f (take i ys)) (f y) a b p q)

  -- a good item changes nothing
  pub lesser-None : (a : Option ℕ) → lesser a None ≡ a
  lesser-None None = refl
  lesser-None (Some v) = refl

  pub least_kept : (xs : List X) (i : ℕ) (x : X) (a : Option ℕ) → i < length xs → x ≡ get_or xs i x
      → IsLeastAmong Good key (take i xs) a → Good x → IsLeastAmong Good key (take (i + 1) xs) a
  least_kept xs i x a l is p good =
      subst (λ b. IsLeastAmong Good key (take (i + 1) xs) b) (lesser-None a) (least_more xs i x a None l is p
      (good_one x good))

  pub least_joined : (xs ys zs : List X) (a b r : Option ℕ) → zs ≡ ys → r ≡ lesser a b → IsLeastAmong Good key xs a
      → IsLeastAmong Good key zs b
      → IsLeastAmong Good key (xs ++ ys) r
  least_joined xs ys zs a b r e f p q =
      subst (λ o. IsLeastAmong Good key (xs ++ ys) o) (sym f)
      (least_of_both xs ys a b p (subst (λ l. IsLeastAmong Good key l b) e q))

-- two words for good
pub least_same : {X : Type 0} (Good Fine : X → Type 0) (key : X → ℕ) (xs : List X) (r : Option ℕ) → ((x : X)
    → Good x ↔ Fine x)
    → IsLeastAmong Good key xs r → IsLeastAmong Fine key xs r
least_same Good Fine key xs None same h = λ k d l. (same _).0 (h k d l)
least_same Good Fine key xs (Some v) same h =
    ((h.0.0, h.0.1, h.0.2, h.0.3, λ fine. h.0.4 ((same _).1 fine)), λ k d l less. (same _).0 (h.1 k d l less))
