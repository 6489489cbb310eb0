-- Lists that have some items of another one, in its order.
use Rattle.std.proofs.Common.{◌≡◌, ℕ, zero, suc, ◌<◌, Bool, true, false, List, [], ◌∷◌, ◌++◌, map, Some, slice_get, arith}
use Rattle.aig_base.specs.Part.{picked}
use Rattle.aig_base.specs.Sound.{StandsTwice}

pub data Sub (A : Type 0) : List A → List A → Type 0 where
  none : Sub A [] []
  kept : (x : A) (ys xs : List A) → Sub A ys xs → Sub A (x ∷ ys) (x ∷ xs)
  gone : (x : A) (ys xs : List A) → Sub A ys xs → Sub A ys (x ∷ xs)

sub_nil : {A : Type 0} (xs : List A) → Sub A [] xs
sub_nil [] = Sub.none
sub_nil (x ∷ xs) = Sub.gone x [] xs (sub_nil xs)

pub sub_picked : {A : Type 0} (bs : List Bool) (xs : List A) → Sub A (picked bs xs) xs
unfolding picked
sub_picked [] xs = sub_nil xs
sub_picked (b ∷ bs) [] = Sub.none
sub_picked (true ∷ bs) (x ∷ xs) = Sub.kept x (picked bs xs) xs (sub_picked bs xs)
sub_picked (false ∷ bs) (x ∷ xs) = Sub.gone x (picked bs xs) xs (sub_picked bs xs)

pub sub_append : {A : Type 0} (ys xs vs us : List A) → Sub A ys xs → Sub A vs us → Sub A (ys ++ vs) (xs ++ us)
sub_append _ _ vs us Sub.none k = k
sub_append _ _ vs us (Sub.kept x ys xs h) k = Sub.kept x (ys ++ vs) (xs ++ us) (sub_append ys xs vs us h k)
sub_append _ _ vs us (Sub.gone x ys xs h) k = Sub.gone x (ys ++ vs) (xs ++ us) (sub_append ys xs vs us h k)

pub sub_map : {A B : Type 0} (f : A → B) (ys xs : List A) → Sub A ys xs → Sub B (map f ys) (map f xs)
sub_map f _ _ Sub.none = Sub.none
sub_map f _ _ (Sub.kept x ys xs h) = Sub.kept (f x) (map f ys) (map f xs) (sub_map f ys xs h)
sub_map f _ _ (Sub.gone x ys xs h) = Sub.gone (f x) (map f ys) (map f xs) (sub_map f ys xs h)

pub sub_at : {A : Type 0} (ys xs : List A) → Sub A ys xs → (i : ℕ) (y : A) → slice_get ys i ≡ Some y
    → (j : ℕ) × (slice_get xs j ≡ Some y)
sub_at _ _ Sub.none i y at = cc
sub_at _ _ (Sub.kept x ys xs h) zero y at = (0, at)
sub_at _ _ (Sub.kept x ys xs h) (suc i) y at = let (j, there) = sub_at ys xs h i y at in (suc j, there)
sub_at _ _ (Sub.gone x ys xs h) i y at = let (j, there) = sub_at ys xs h i y at in (suc j, there)

-- two items stand in the same order
sub_two : {A : Type 0} (ys xs : List A) → Sub A ys xs → (i j : ℕ) (y z : A) → i < j → slice_get ys i ≡ Some y
    → slice_get ys j ≡ Some z → (m n : ℕ) × (m < n) × (slice_get xs m ≡ Some y) × (slice_get xs n ≡ Some z)
sub_two _ _ Sub.none i j y z lt at is = cc
sub_two _ _ (Sub.kept x ys xs h) i zero y z lt at is = absurd (omega (arith, lt))
sub_two _ _ (Sub.kept x ys xs h) zero (suc j) y z lt at is =
    let (n, there) = sub_at ys xs h j z is in (0, suc n, omega arith, at, there)
sub_two _ _ (Sub.kept x ys xs h) (suc i) (suc j) y z lt at is =
    let (m, n, less, here, there) = sub_two ys xs h i j y z (omega (arith, lt)) at is in
    (suc m, suc n, omega (arith, less), here, there)
sub_two _ _ (Sub.gone x ys xs h) i j y z lt at is =
    let (m, n, less, here, there) = sub_two ys xs h i j y z lt at is in (suc m, suc n, omega (arith, less), here, there)

pub twice_more : (ys xs : List ℕ) (v : ℕ) → Sub ℕ ys xs → StandsTwice ys v → StandsTwice xs v
twice_more ys xs v h (i, j, lt, at, is) = sub_two ys xs h i j v v lt at is
