-- Names of vectors that were seen once, or more often.
use Rattle.std.proofs.Common.{◌≡◌, ℕ, zero, suc, ◌+◌, ◌<◌, Bool, true, false, List, length, get_or, take, Option, None}
use Rattle.std.proofs.Common.{Some, inl, inr, refl, sym, ap, ◌∙◌, arith, add-one}
use Rattle.std.specs.Prelude.{◌==◌, not, is_some, if◌then◌else◌}
use Rattle.std.specs.List.{count_by}
use Rattle.std.specs.Map.{lookup, IsKeyTest, AreApart, KeepsOthers}
use Rattle.std.proofs.lemmas.List.Sums.{count_by_more_no, count_by_more_yes}
use Rattle.std.specs.Str.{bytes_eq}
use Rattle.std.proofs.lemmas.Slice.Eq.{bytes_eq-Decides}
use Rattle.std.proofs.lemmas.Bool.{cases_Bool, ne_eqb}
use Rattle.aig_signals.specs.state.Seen.{seen, noted, is_once}

-- one vector more
seen_more : (n : ℕ) → noted true (seen n) ≡ seen (n + 1)
seen_more zero = refl
seen_more (suc zero) = refl
seen_more (suc (suc n)) = ap seen (sym (add-one (suc (suc n))))

pub seen_step : {X : Type 0} (p : X → Bool) (xs : List X) (i : ℕ) (d : X) (b : Bool) (old new : Option Bool) → i < length xs
    → b ≡ p (get_or xs i d) → new ≡ noted b old → old ≡ seen (count_by p (take i xs)) → new ≡ seen (count_by p (take (i + 1) xs))
seen_step p xs i d b old new lt is more h = elim (cases_Bool (p (get_or xs i d))) [
  | inl holds ↦
      more ∙ (λ j. noted ((is ∙ holds) j) (h j)) ∙ seen_more (count_by p (take i xs))
      ∙ ap seen (sym (count_by_more_yes p xs i d lt holds))
  | inr fails ↦
      more ∙ (λ j. noted ((is ∙ fails) j) (h j)) ∙ ap seen (sym (count_by_more_no p xs i d lt fails))
]

pub once_is : (n : ℕ) → is_once (seen n) ≡ (n == 1)
once_is zero = refl
once_is (suc zero) = refl
once_is (suc (suc n)) = sym (ne_eqb (suc (suc n)) 1 (λ e. absurd (omega (arith, e))))

pub noted_new : (known : Option Bool) → noted true known ≡ Some (not (is_some known))
noted_new None = refl
noted_new (Some once) = refl

same_bytes : (xs ys : List ℕ) → bytes_eq xs ys ≡ true → xs ≡ ys
same_bytes xs ys h = (bytes_eq-Decides xs ys).0 h

-- a vector is noted by its name
module _ {K : Type 0} (items : K → List ℕ) (eq : K → K → Bool) (eq_is : (k q : K) → eq k q ≡ bytes_eq (items k) (items q)) where
  abbrev at : List ℕ → K → Bool
  at x key = bytes_eq x (items key)

  by_name : (test : K → Bool) (name : List ℕ) → ((q : K) → test q ≡ at name q) → test ≡ at name
  by_name test name is = λ i key. is key i

  key_test : (x : List ℕ) → IsKeyTest eq (at x)
  key_test x p q h = sym (eq_is p q ∙ ap (λ (xs : List ℕ). bytes_eq xs (items q)) (sym (same_bytes x (items p) h)))

  apart : (test : K → Bool) (name x : List ℕ) → ((q : K) → test q ≡ at name q) → bytes_eq x name ≡ false → AreApart test (at x)
  apart test name x is fails key h = ap (bytes_eq x) (sym (same_bytes name (items key) (sym (is key) ∙ h))) ∙ fails

  pub note_step : (test : K → Bool) (name x : List ℕ) (old new : List (K × Bool)) (is_new : Bool) → ((q : K) → test q ≡ at name q)
      → is_new ≡ not (is_some (lookup (at name) old)) → lookup test new ≡ Some is_new → KeepsOthers eq test old new
      → lookup (at x) new ≡ noted (bytes_eq x name) (lookup (at x) old)
  unfolding KeepsOthers
  note_step test name x old new is_new is fresh there others = elim (cases_Bool (bytes_eq x name)) [
    | inl holds ↦
        let same : x ≡ name = same_bytes x name holds in
        ap (λ (y : List ℕ). lookup (at y) new) same ∙ ap (λ (t : K → Bool). lookup t new) (sym (by_name test name is)) ∙ there
        ∙ ap Some fresh ∙ sym (noted_new (lookup (at name) old))
        ∙ (λ i. noted (sym holds i) (lookup (at (sym same i)) old))
    | inr fails ↦
        others (at x) (key_test x) (apart test name x is fails)
        ∙ ap (λ (b : Bool). noted b (lookup (at x) old)) (sym fails)
  ]

  -- the same of any value
  pub put_step : {V : Type 0} (test : K → Bool) (name x : List ℕ) (old new : List (K × V)) (v : V) → ((q : K) → test q ≡ at name q)
      → lookup test new ≡ Some v → KeepsOthers eq test old new
      → lookup (at x) new ≡ (if bytes_eq x name then Some v else lookup (at x) old)
  unfolding KeepsOthers
  put_step test name x old new v is there others = elim (cases_Bool (bytes_eq x name)) [
    | inl holds ↦
        let same : x ≡ name = same_bytes x name holds in
        ap (λ (y : List ℕ). lookup (at y) new) same ∙ ap (λ (t : K → Bool). lookup t new) (sym (by_name test name is)) ∙ there
        ∙ ap (λ (b : Bool). if b then Some v else lookup (at x) old) (sym holds)
    | inr fails ↦
        others (at x) (key_test x) (apart test name x is fails)
        ∙ ap (λ (b : Bool). if b then Some v else lookup (at x) old) (sym fails)
  ]
