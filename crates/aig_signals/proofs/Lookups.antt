-- Searches: the least position, the earliest section, the earliest signal.
use Rattle.std.proofs.Common.{◌≡◌, ℕ, zero, suc, ◌+◌, ◌-◌, ◌<◌, ◌≤◌, Bool, true, false, List, [], ◌∷◌, ◌++◌, length}
use Rattle.std.proofs.Common.{map, get_or, drop, Option, None, Some, inl, inr, refl, sym, ap, ◌∙◌, arith, add-one}
use Rattle.std.specs.Prelude.{option_map, if◌then◌else◌}
use Rattle.std.specs.List.{range_with_len}
use Rattle.std.proofs.lemmas.List.FromFn.{map-range_with_len_more}
use Rattle.std.specs.Str.{bytes_eq}
use Rattle.std.proofs.lemmas.Bool.{cases_lt}
use Rattle.std.proofs.lemmas.List.{drop_more, drop_all}
use Rattle.aig_parts.specs.declared.raw.Raw.{Raw}
use Rattle.aig_parts.specs.declared.symbols.Kind.{Kind}
use Rattle.aig_parts.specs.SymbolPlaces.{Key}
use Rattle.aig_signals.specs.declared.lookup.Rule.{Rule}
use Rattle.aig_signals.specs.declared.signal.Signal.{Signal}
use Rattle.aig_signals.specs.Lookup.{or_else, least, in_section, in_sections, named_in, has_name}
use Rattle.aig_signals.specs.Names.{literals_of}

module _ (test : ℕ → Bool) where
  pub least_start : least test 0 ≡ None
  unfolding least
  least_start = refl

  pub least_next : (n : ℕ) → least test n ≡ None → test n ≡ false → least test (n + 1) ≡ None
  unfolding least
  least_next n none fails =
      ap (least test) (add-one n) ∙ ap (λ (o : Option ℕ). or_else o (if test n then Some n else None)) none
      ∙ ap (λ (b : Bool). or_else None (if b then Some n else None)) fails

  least_here : (n : ℕ) → least test n ≡ None → test n ≡ true → least test (n + 1) ≡ Some n
  unfolding least
  least_here n none holds =
      ap (least test) (add-one n) ∙ ap (λ (o : Option ℕ). or_else o (if test n then Some n else None)) none
      ∙ ap (λ (b : Bool). or_else None (if b then Some n else None)) holds

  least_stays : (m n p : ℕ) → least test m ≡ Some p → m ≤ n → least test n ≡ Some p
  unfolding least
  least_stays m zero p is le =
      let e : 0 ≡ m = omega (arith, le) in
      ap (least test) e ∙ is
  least_stays m (suc n) p is le = elim (cases_lt n m) [
    | inl lt ↦
        let e : suc n ≡ m = omega (arith, le, lt) in
        ap (least test) e ∙ is
    | inr more ↦ ap (λ (o : Option ℕ). or_else o (if test n then Some n else None)) (least_stays m n p is more)
  ]

  pub least_is : (k n : ℕ) → least test k ≡ None → test k ≡ true → k < n → least test n ≡ Some k
  least_is k n none holds lt = least_stays (k + 1) n k (least_here k none holds) (omega arith)

  no_first : (o p : Option ℕ) → or_else o p ≡ None → o ≡ None
  no_first None p h = refl
  no_first (Some x) p h = absurd (cc h)

  pub least_none : (m n : ℕ) → least test m ≡ None → n ≤ m → least test n ≡ None
  unfolding least
  least_none zero n none le =
      let e : n ≡ 0 = omega (arith, le) in
      ap (least test) e ∙ none
  least_none (suc m) n none le = elim (cases_lt m n) [
    | inl lt ↦
        let e : n ≡ suc m = omega (arith, le, lt) in
        ap (least test) e ∙ none
    | inr more ↦ least_none m n (no_first (least test m) (if test m then Some m else None) none) more
  ]

module _ (raw : Raw) (name : List ℕ) (rule : Rule) where
  pub section_step : (kinds : List Kind) (i : ℕ) (d : Kind) → i < length kinds
      → in_sections raw name rule (drop i kinds)
      ≡ or_else (in_section raw name rule (get_or kinds i d)) (in_sections raw name rule (drop (i + 1) kinds))
  section_step kinds i d lt = ap (in_sections raw name rule) (drop_more kinds i d lt)

  -- a section without such an entry
  pub section_past : (kinds : List Kind) (i : ℕ) (d : Kind) (all : Option Key) → i < length kinds
      → least (has_name raw name rule (get_or kinds i d)) (length (literals_of raw (get_or kinds i d))) ≡ None
      → in_sections raw name rule (drop i kinds) ≡ all → in_sections raw name rule (drop (i + 1) kinds) ≡ all
  section_past kinds i d all lt none h =
      sym (section_step kinds i d lt
      ∙ ap (λ (o : Option ℕ). or_else (option_map (λ p. (get_or kinds i d, p)) o) (in_sections raw name rule (drop (i + 1) kinds))) none)
      ∙ h

  -- the first with one
  pub section_found : (kinds : List Kind) (i : ℕ) (d : Kind) (p : ℕ) (all : Option Key) → i < length kinds
      → least (has_name raw name rule (get_or kinds i d)) (length (literals_of raw (get_or kinds i d))) ≡ Some p
      → in_sections raw name rule (drop i kinds) ≡ all → all ≡ Some (get_or kinds i d, p)
  section_found kinds i d p all lt some h =
      sym h ∙ section_step kinds i d lt
      ∙ ap (λ (o : Option ℕ). or_else (option_map (λ p. (get_or kinds i d, p)) o) (in_sections raw name rule (drop (i + 1) kinds))) some

  pub section_end : (kinds : List Kind) (i : ℕ) (all : Option Key) → length kinds ≤ i
      → in_sections raw name rule (drop i kinds) ≡ all → all ≡ None
  section_end kinds i all le h = sym h ∙ ap (in_sections raw name rule) (drop_all i kinds le)

-- literals of neighbours, from the first up
module _ (f : ℕ → ℕ) where
  pub literals_none : (first : ℕ) → [] ≡ map f (range_with_len first (first - first))
  literals_none first =
      let none : 0 ≡ first - first = omega arith in
      ap (λ (n : ℕ). map f (range_with_len first n)) none

  pub literals_more : (first p : ℕ) (old new : List ℕ) (b : ℕ) → first ≤ p → b ≡ f p → new ≡ old ++ b ∷ []
      → old ≡ map f (range_with_len first (p - first)) → new ≡ map f (range_with_len first (p + 1 - first))
  literals_more first p old new b le is pushed h =
      let size : p - first + 1 ≡ p + 1 - first = omega (arith, le) in
      pushed ∙ (λ j. h j ++ is j ∷ []) ∙ sym (map-range_with_len_more f first (p - first) p (omega (arith, le)))
      ∙ ap (λ (n : ℕ). map f (range_with_len first n)) size
