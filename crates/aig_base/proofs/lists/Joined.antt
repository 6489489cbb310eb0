-- What holds of each element of joined and mapped lists.
use Rattle.std.proofs.Common.{zero, suc, List, [], ◌∷◌, ◌++◌, map, arith, subst, All}
use Rattle.std.specs.List.{flat_map}
use Rattle.std.proofs.lemmas.List.Concat.{flat_map-cons}
use Rattle.std.proofs.lemmas.List.Elements.{All-nil, All-cons}

module _ {X : Type 0} (P : X → Type 0) where
  pub All-left : (xs ys : List X) → All P (xs ++ ys) → All P xs
  All-left [] ys h k d l = absurd (omega arith)
  All-left (x ∷ xs) ys h zero d l = h zero d (omega arith)
  All-left (x ∷ xs) ys h (suc k) d l = All-left xs ys (λ j e m. h (suc j) e (omega arith)) k d (omega arith)

  pub All-right : (xs ys : List X) → All P (xs ++ ys) → All P ys
  All-right [] ys h = h
  All-right (x ∷ xs) ys h = All-right xs ys (λ j e m. h (suc j) e (omega arith))

  pub All-unmap : {Y : Type 0} (f : Y → X) (ys : List Y) → All P (map f ys) → All (λ y. P (f y)) ys
  All-unmap f [] h k d l = absurd (omega arith)
  All-unmap f (y ∷ ys) h zero d l = h zero (f d) (omega arith)
  All-unmap f (y ∷ ys) h (suc k) d l = All-unmap f ys (λ j e m. h (suc j) e (omega arith)) k d (omega arith)

  pub All-unflat : {Y : Type 0} (f : Y → List X) (ys : List Y) → All P (flat_map f ys) → All (λ y. All P (f y)) ys
  All-unflat f [] h = All-nil (λ y. All P (f y))
  All-unflat f (y ∷ ys) h =
      let both = subst (All P) (flat_map-cons f y ys) h in
      All-cons (λ y. All P (f y)) y ys (All-left (f y) (flat_map f ys) both)
      (All-unflat f ys (All-right (f y) (flat_map f ys) both))
