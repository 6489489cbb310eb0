-- What a loop has linked so far.
use Rattle.std.proofs.Common.{◌≡◌, inl, inr, ℕ, ◌+◌, ◌<◌, List, length, Some, slice_get, Contains, refl, sym, ap, ◌∙◌}
use Rattle.std.proofs.Common.{subst, arith}
use Rattle.std.proofs.lemmas.Bool.{cases_eq}
use Rattle.std.proofs.lemmas.Option.{slice_get-get_or, get_or_from_slice_get, slice_get_within}
use Rattle.aig_bench.specs.state.Buckets.{LinksIn}
use Rattle.aig_bench.specs.state.Waiting.{WaitingVariables}

-- the variable is one of the first n
abbrev pub Among : List ℕ → ℕ → ℕ → Type 0
Among xs n u = (j : ℕ) × (j < n) × (slice_get xs j ≡ Some u)

pub contains_at : (xs : List ℕ) (j x : ℕ) → slice_get xs j ≡ Some x → Contains xs x
contains_at xs j x at = (j, slice_get_within xs j x at, get_or_from_slice_get xs j x _ at)

module _ (xs : List ℕ) where
  pub links_none : (head : List ℕ) (w : WaitingVariables) → LinksIn (Among xs 0) head w head w
  links_none head w = record {
    heads = refl;
    kept = λ l none. refl;
    levels = refl;
    sides = refl;
    queued = λ u. (λ m. inl m, λ k. elim k [ inl m ↦ m | inr a ↦ absurd (omega (arith, a.1)) ]);
  }

  pub links_more : (n x : ℕ) (h0 h1 h2 : List ℕ) (start old new : WaitingVariables) → slice_get xs n ≡ Some x
      → LinksIn (Among xs n) h0 start h1 old → LinksIn (λ u. u ≡ x) h1 old h2 new → LinksIn (Among xs (n + 1)) h0 start h2 new
  links_more n x h0 h1 h2 start old new at h k = record {
    heads = k.heads ∙ h.heads;
    kept = λ l none.
        k.kept l (λ u e s. none u (n, omega arith, at ∙ ap Some (sym e)) (ap (λ (ls : List ℕ). slice_get ls u) (sym h.levels) ∙ s))
        ∙ h.kept l (λ u a. none u (a.0, omega (arith, a.1), a.2));
    levels = k.levels ∙ h.levels;
    sides = k.sides ∙ h.sides;
    queued = λ u. (
      λ m. elim ((k.queued u).0 m) [
        | inl o ↦ elim ((h.queued u).0 o) [
          | inl s ↦ inl s
          | inr a ↦ inr (a.0, omega (arith, a.1), a.2)
        ]
        | inr e ↦ inr (n, omega arith, at ∙ ap Some (sym e))
      ],
      λ m. elim m [
        | inl s ↦ (k.queued u).1 (inl ((h.queued u).1 (inl s)))
        | inr a ↦ elim (cases_eq a.0 n) [
          | inl e ↦
              let here : slice_get xs n ≡ Some u = subst (λ (i : ℕ). slice_get xs i ≡ Some u) e a.2 in
              (k.queued u).1 (inr (cc))
          | inr ne ↦ (k.queued u).1 (inl ((h.queued u).1 (inr (a.0, omega (arith, a.1), a.2))))
        ]
      ],
    );
  }

  pub links_all : (n : ℕ) (head head' : List ℕ) (start new : WaitingVariables) → length xs ≡ n
      → LinksIn (Among xs n) head start head' new → LinksIn (Contains xs) head start head' new
  links_all n head head' start new is h = record {
    heads = h.heads;
    kept = λ l none. h.kept l (λ u a. none u (contains_at xs a.0 u a.2));
    levels = h.levels;
    sides = h.sides;
    queued = λ u. (
      λ m. elim ((h.queued u).0 m) [ inl s ↦ inl s | inr a ↦ inr (contains_at xs a.0 u a.2) ],
      λ m. elim m [
        | inl s ↦ (h.queued u).1 (inl s)
        | inr c ↦ (h.queued u).1 (inr (c.0, omega (arith, c.1), slice_get-get_or xs c.0 u c.1 ∙ ap Some c.2))
      ],
    );
  }
