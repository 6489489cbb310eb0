-- A circuit whose latches start at any value one after the other.
use Rattle.std.proofs.Common.{◌≡◌, ℕ, zero, suc, ◌+◌, Bool, true, false, List, [], ◌∷◌, length, map, option_map, Some}
use Rattle.std.proofs.Common.{slice_get}
use Rattle.std.proofs.Common.{refl, sym, ◌∙◌, ap, subst, arith, if◌then◌else◌, nat_eq}
use Rattle.std.proofs.lemmas.Bool.Decides.{nat_tests}
use Rattle.std.proofs.lemmas.Option.{slice_get-map}
use Rattle.aig_parts.specs.declared.latch.Latch.{Latch}
use Rattle.aig_parts.specs.declared.raw.Raw.{Raw}
use Rattle.aig_parts.specs.declared.ternary.Tern.TheVariants.{X}
use Rattle.aig_base.specs.Changes.{restarted, with_reset}
use Rattle.aig_base.specs.Sections.{IsLatchLiteral}
use Rattle.aig_base.proofs.lists.Positions.{Contains-from_slice_get}
use Rattle.aig_cnf.specs.Query.{from_any_state, uninitialised_latch}

-- the latch with perhaps another reset, its own literal if the flag says so
pub record IsLike (started : Bool) (x y : Latch) : Type 0 where
  pub lit : y.lit ≡ x.lit
  pub next : y.next ≡ x.next
  pub reset : started ≡ true → y.reset ≡ y.lit

-- the first n latches start at any value
abbrev pub AreLike : ℕ → List Latch → List Latch → Type 0
AreLike n [] [] = Unit {0}
AreLike n [] (y ∷ ys) = ⊥
AreLike n (x ∷ xs) [] = ⊥
AreLike zero (x ∷ xs) (y ∷ ys) = IsLike false x y × AreLike zero xs ys
AreLike (suc n) (x ∷ xs) (y ∷ ys) = IsLike true x y × AreLike n xs ys

pub record IsStarted (n : ℕ) (old new : Raw) : Type 0 where
  pub latches : AreLike n old.latches new.latches
  pub others : new ≡ record old { latches = new.latches }

like_same : (xs : List Latch) → AreLike zero xs xs
like_same [] = tt
like_same (x ∷ xs) = (record { lit = refl; next = refl; reset = λ e. (let no : ⊥ = cc in absurd no) }, like_same xs)

pub started_none : (raw : Raw) → IsStarted zero raw raw
started_none raw = record { latches = like_same raw.latches; others = refl }

-- a latch that is restarted at x, by its own literal or by another one
if_same : (m n r : ℕ) → r ≡ m → (if nat_eq m n then n else r) ≡ m
if_same m n r e = grind (arith, nat_tests, e)

like_restarted : (b : Bool) (x y : Latch) (n : ℕ) → IsLike b x y → IsLike b x (restarted n X y)
like_restarted b x y n h = record {
  lit = h.lit;
  next = h.next;
  reset = λ e. if_same y.lit n y.reset (h.reset e);
}

like_own : (x y : Latch) (b : Bool) → IsLike b x y → IsLike true x (restarted y.lit X y)
like_own x y b h = record { lit = h.lit; next = h.next; reset = λ e. own y.lit y.reset }
  where
    own : (m r : ℕ) → (if nat_eq m m then m else r) ≡ m
    own m r = grind (arith, nat_tests)

like_kept : (n l : ℕ) (xs ys : List Latch) → AreLike n xs ys → AreLike n xs (map (restarted l X) ys)
like_kept n l [] [] h = tt
like_kept n l [] (y ∷ ys) h = absurd h
like_kept n l (x ∷ xs) [] h = absurd h
like_kept zero l (x ∷ xs) (y ∷ ys) h = (like_restarted false x y l h.0, like_kept zero l xs ys h.1)
like_kept (suc n) l (x ∷ xs) (y ∷ ys) h = (like_restarted true x y l h.0, like_kept n l xs ys h.1)

like_more : (n l : ℕ) (xs ys : List Latch) (y : Latch) → slice_get ys n ≡ Some y → l ≡ y.lit → AreLike n xs ys
    → AreLike (suc n) xs (map (restarted l X) ys)
like_more n l [] [] y at is h = cc
like_more n l [] (z ∷ ys) y at is h = absurd h
like_more n l (x ∷ xs) [] y at is h = absurd h
like_more zero l (x ∷ xs) (z ∷ ys) y at is h =
    let same : z ≡ y = (let e : Some z ≡ Some y = at in cc) in
    let own : IsLike true x (restarted z.lit X z) = like_own x z false h.0 in
    let e : z.lit ≡ l = ap (λ (u : Latch). u.lit) same ∙ sym is in
    (subst (λ (m : ℕ). IsLike true x (restarted m X z)) e own, like_kept zero l xs ys h.1)
like_more (suc n) l (x ∷ xs) (z ∷ ys) y at is h =
    (like_restarted true x z l h.0, like_more n l xs ys y at is h.1)

pub started_more : (n : ℕ) (old mid new : Raw) (l : ℕ) (y : Latch) → IsStarted n old mid → slice_get mid.latches n ≡ Some y
    → l ≡ y.lit → new ≡ with_reset mid l X → IsStarted (n + 1) old new
started_more n old mid new l y h at is e =
    subst (λ (m : ℕ). IsStarted m old new) (let f : suc n ≡ n + 1 = omega arith in f)
    (subst (λ (r : Raw). IsStarted (suc n) old r) (sym e) (record {
      latches = like_more n l old.latches mid.latches y at is h.latches;
      others = ap (λ (r : Raw). record r { latches = map (restarted l X) mid.latches }) h.others;
    }))

like_length : (n : ℕ) (xs ys : List Latch) → AreLike n xs ys → length ys ≡ length xs
like_length n [] [] h = refl
like_length n [] (y ∷ ys) h = absurd h
like_length n (x ∷ xs) [] h = absurd h
like_length zero (x ∷ xs) (y ∷ ys) h = ap suc (like_length zero xs ys h.1)
like_length (suc n) (x ∷ xs) (y ∷ ys) h = ap suc (like_length n xs ys h.1)

pub started_length : {n : ℕ} {old new : Raw} → IsStarted n old new → length new.latches ≡ length old.latches
started_length {n} {old} {new} h = like_length n old.latches new.latches h.latches

is_like : (x y : Latch) → IsLike true x y → y ≡ uninitialised_latch x
is_like x y h = same y.lit y.next y.reset h.lit h.next (h.reset refl ∙ h.lit)
  where
    same : (l n r : ℕ) → l ≡ x.lit → n ≡ x.next → r ≡ x.lit
        → ◌≡◌ {A = Latch} (record { lit = l; next = n; reset = r }) (uninitialised_latch x)
    same l n r e f g = cc

like_all : (n : ℕ) (xs ys : List Latch) → AreLike n xs ys → length xs ≡ n → ys ≡ map uninitialised_latch xs
like_all n [] [] h e = refl
like_all n [] (y ∷ ys) h e = absurd h
like_all n (x ∷ xs) [] h e = absurd h
like_all zero (x ∷ xs) (y ∷ ys) h e = absurd (omega (arith, e))
like_all (suc n) (x ∷ xs) (y ∷ ys) h e =
    let first = is_like x y h.0 in let rest = like_all n xs ys h.1 (omega (arith, e)) in cc

pub started_all : (n : ℕ) (old new : Raw) → IsStarted n old new → length old.latches ≡ n → new ≡ from_any_state old
started_all n old new h e =
    h.others ∙ ap (λ (ys : List Latch). record old { latches = ys }) (like_all n old.latches new.latches h.latches e)

pub latch_here : (raw : Raw) (n : ℕ) (y : Latch) → slice_get raw.latches n ≡ Some y → IsLatchLiteral raw y.lit
latch_here raw n y at =
    Contains-from_slice_get (map (λ (x : Latch). x.lit) raw.latches) n y.lit
    (slice_get-map (λ (x : Latch). x.lit) raw.latches n ∙ ap (option_map (λ (x : Latch). x.lit)) at)
