-- The items that are kept of the first ones of a list.
use Rattle.std.proofs.Common.{◌≡◌, ℕ, ◌+◌, ◌<◌, ◌≤◌, Bool, true, false, List, [], ◌∷◌, ◌++◌, length, map, take, get_or}
use Rattle.std.proofs.Common.{refl, sym, ◌∙◌, ap, arith}
use Rattle.std.specs.Prelude.{if◌then◌else◌}
use Rattle.std.proofs.lemmas.List.{append-nil, length-map, map-append, take_all, take_more}
use Rattle.aig_base.specs.Part.{picked}

module _ {A : Type 0} where
  -- one item more
  pub picked_append : (bs : List Bool) (xs : List A) (b : Bool) (x : A) → length bs ≡ length xs
      → picked (bs ++ b ∷ []) (xs ++ x ∷ []) ≡ picked bs xs ++ picked (b ∷ []) (x ∷ [])
  unfolding picked
  picked_append [] [] b x e = refl
  picked_append [] (y ∷ xs) b x e = absurd (omega (arith, e))
  picked_append (c ∷ bs) [] b x e = absurd (omega (arith, e))
  picked_append (true ∷ bs) (y ∷ xs) b x e = ap (λ zs. y ∷ zs) (picked_append bs xs b x (omega (arith, e)))
  picked_append (false ∷ bs) (y ∷ xs) b x e = picked_append bs xs b x (omega (arith, e))

  -- none, and one
  pub picked_none : (f : A → Bool) (xs : List A) → [] ≡ picked (map f (take 0 xs)) (take 0 xs)
  unfolding picked
  picked_none f xs = refl

  picked_one : (x : A) (b : Bool) → picked (b ∷ []) (x ∷ []) ≡ if b then x ∷ [] else []
  unfolding picked
  picked_one x true = refl
  picked_one x false = refl

  -- an item that is kept, and one that is not
  pub picked_kept : (old : List A) {new : List A} (x : A) (b : Bool) → b ≡ true → new ≡ old ++ x ∷ [] → new ≡ old ++ picked (b ∷ []) (x ∷ [])
  picked_kept old x b e is =
      is ∙ ap (λ (ys : List A). old ++ ys) (sym (picked_one x b ∙ ap (λ (c : Bool). if c then x ∷ [] else []) e))

  pub picked_gone : {old : List A} (x : A) (b : Bool) → b ≡ false → old ≡ old ++ picked (b ∷ []) (x ∷ [])
  picked_gone {old} x b e =
      sym (append-nil old)
      ∙ ap (λ (ys : List A). old ++ ys) (sym (picked_one x b ∙ ap (λ (c : Bool). if c then x ∷ [] else []) e))

  -- those of the first items
  pub picked_more : (f : A → Bool) (xs : List A) (i : ℕ) (x : A) (b : Bool) {old new : List A} → i < length xs → x ≡ get_or xs i x
      → b ≡ f x → old ≡ picked (map f (take i xs)) (take i xs) → new ≡ old ++ picked (b ∷ []) (x ∷ [])
      → new ≡ picked (map f (take (i + 1) xs)) (take (i + 1) xs)
  picked_more f xs i x b {old} {new} lt is e before here =
      let first : List A = take i xs in
      let firsts : take (i + 1) xs ≡ first ++ x ∷ [] =
      take_more xs i x lt ∙ ap (λ (y : A). first ++ y ∷ []) (sym is) in
      here ∙ ap (λ (ys : List A). ys ++ picked (b ∷ []) (x ∷ [])) before
      ∙ ap (λ c. picked (map f first) first ++ picked (c ∷ []) (x ∷ [])) e
      ∙ sym (picked_append (map f first) first (f x) x (length-map first f))
      ∙ ap (λ (bs : List Bool). picked bs (first ++ x ∷ [])) (sym (map-append f first (x ∷ [])))
      ∙ ap (λ (ys : List A). picked (map f ys) ys) (sym firsts)

  pub picked_all : (f : A → Bool) (xs : List A) (i : ℕ) {found : List A} → length xs ≤ i
      → found ≡ picked (map f (take i xs)) (take i xs) → found ≡ picked (map f xs) xs
  picked_all f xs i le e = e ∙ ap (λ (ys : List A). picked (map f ys) ys) (take_all i xs le)
