-- One more definition in the table.
use Rattle.std.proofs.Common.{◌≡◌, ◌≢◌, ℕ, zero, suc, ◌+◌, ◌<◌, ◌⊎◌, inl, inr, min, List, [], ◌∷◌, ◌++◌, length, set}
use Rattle.std.proofs.Common.{map, take}
use Rattle.std.proofs.Common.{get_or, append_assoc, Option, Some, None, refl, sym, ap, subst, ◌∙◌, arith, slice_get}
use Rattle.std.proofs.Common.{Contains}
use Rattle.std.proofs.lemmas.List.{length-append, length-map, length-set, length-take-le, map-append, map_more}
use Rattle.std.proofs.lemmas.List.{length_push}
use Rattle.std.proofs.lemmas.List.Elements.{Contains-push_cases}
use Rattle.std.proofs.lemmas.Option.{slice_get_within, same_Some}
use Rattle.std.proofs.lemmas.Bool.{cases_eq}
use Rattle.aig_parts.specs.declared.raw.Raw.{Raw}
use Rattle.aig_base.specs.state.Definitions.{IsNumberOf}
use Rattle.aig_base.specs.state.Entries.{IsLeastTwice, AreEntries}
use Rattle.aig_base.specs.FirstFault.{IsLeast}
use Rattle.aig_base.specs.state.LeastFaulty.{lesser, latch_variable, gate_variable}
use Rattle.aig_parts.specs.Literal.{variable}
use Rattle.aig_base.specs.Sections.{definitions}
use Rattle.aig_parts.specs.declared.gate.Gate.{Gate}
use Rattle.aig_parts.specs.declared.latch.Latch.{Latch}
use Rattle.aig_base.specs.Sound.{StandsTwice}
use Rattle.aig_base.proofs.lists.LeastAmong.{at_most_or_over}
use Rattle.aig_base.proofs.lists.Gets.{slice_get_left, slice_get_push, slice_get_last, slice_get-set_same}
use Rattle.aig_base.proofs.lists.Gets.{slice_get-set_other, Contains-from_get, get_from_Contains}

module _ (xs : List ℕ) (y : ℕ) where
  twice_left : (v : ℕ) → StandsTwice xs v → StandsTwice (xs ++ y ∷ []) v
  twice_left v (i, j, l, a, b) = (i, j, l, slice_get_left xs (y ∷ []) i v a, slice_get_left xs (y ∷ []) j v b)

  twice_again : Contains xs y → StandsTwice (xs ++ y ∷ []) y
  twice_again has =
      let (k, at) = get_from_Contains xs y has in
      (k, length xs, slice_get_within xs k y at, slice_get_left xs (y ∷ []) k y at, slice_get_last xs y)

  twice_cases : (v : ℕ) → StandsTwice (xs ++ y ∷ []) v → StandsTwice xs v ⊎ ((y ≡ v) × Contains xs v)
  twice_cases v (i, j, l, a, b) = elim (slice_get_push xs y v i a) [
    | inl p ↦ elim (slice_get_push xs y v j b) [
      | inl q ↦ inl (i, j, l, p, q)
      | inr q ↦ inr
          (q.1, Contains-from_get xs i v p)
    ]
    | inr p ↦ absurd (omega (arith, slice_get_within (xs ++ y ∷ []) j v b, length_push xs y, p.0))
  ]

  -- a variable that is new
  twice_new : (again : Option ℕ) → (Contains xs y → ⊥) → IsLeastTwice xs again → IsLeastTwice (xs ++ y ∷ []) again
  twice_new None lacks h = λ u t. elim (twice_cases u t) [
    | inl a ↦ h u a
    | inr b ↦ lacks (subst (λ v. Contains xs v)
        (sym b.0) b.1)
  ]
  twice_new (Some w) lacks h = (
    twice_left w h.0,
    λ u l t. elim (twice_cases u t) [
      | inl a ↦ h.1 u l a
      | inr b ↦ lacks (subst (λ v. Contains xs v)
          (sym b.0) b.1)
    ],
  )

  -- a variable that stands there already
  twice_more : (again : Option ℕ) → Contains xs y → IsLeastTwice xs again → IsLeastTwice (xs
      ++ y ∷ []) (lesser again (Some y))
  twice_more None has h =
      (twice_again has, λ u l t. elim (twice_cases u t) [ inl a ↦ h u a | inr b ↦ let e : y ≡ u = b.0 in omega arith ])
  twice_more (Some w) has h = elim (at_most_or_over w y) [
    | inl at_most ↦
        let e : w ≡ min w y = omega arith in
        subst (λ m. IsLeast (StandsTwice (xs ++ y ∷ [])) m) e (
          twice_left w h.0,
          λ u l t. elim (twice_cases u t) [
            | inl a ↦ h.1 u l a
            | inr b ↦ let f : y
                ≡ u = b.0 in omega arith
          ],
        )
    | inr over ↦
        let e : y ≡ min w y = omega arith in
        subst (λ m. IsLeast (StandsTwice (xs ++ y ∷ [])) m) e (
          twice_again has,
          λ u l t. elim (twice_cases u t) [
            | inl a ↦ h.1 u (omega arith) a
            | inr b ↦ let f : y
                ≡ u = b.0 in omega arith
          ],
        )
  ]

-- the number of what is defined last
pub number_last : (done : List ℕ) (v n : ℕ) → n ≡ 1 + length done → IsNumberOf (done ++ v ∷ []) v n
number_last done v n is =
    let e : n ≡ suc (length done) = omega arith in
    subst (IsNumberOf (done ++ v ∷ []) v) (sym e) (slice_get_last done v)

-- one more definition leaves the numbers of all other variables
pub number_stays : (done : List ℕ) (v u n : ℕ) → v ≢ u → IsNumberOf done u n → IsNumberOf (done ++ v ∷ []) u n
number_stays done v u zero ne h = λ has. elim (Contains-push_cases done v u has) [ inl a ↦ h a | inr e ↦ ne e ]
number_stays done v u (suc k) ne h = slice_get_left done (v ∷ []) k u h

-- and those of variables that have one
number_kept : (done : List ℕ) (v u n : ℕ) → n ≢ 0 → IsNumberOf done u n → IsNumberOf (done ++ v ∷ []) u n
number_kept done v u zero some h = absurd (some refl)
number_kept done v u (suc k) some h = slice_get_left done (v ∷ []) k u h

pub contained : (done : List ℕ) (v n : ℕ) → n ≢ 0 → IsNumberOf done v n → Contains done v
contained done v zero some h = absurd (some refl)
contained done v (suc k) some h = Contains-from_get done k v h

module _ (max_var : ℕ) (done table : List ℕ) (again : Option ℕ) (v : ℕ) (h : AreEntries max_var done table again) where
  -- a variable that had no definition
  pub enter_new : (n : ℕ) → slice_get table v ≡ Some 0 → n ≡ 1 + length done
      → AreEntries max_var (done ++ v ∷ []) (set table v n) again
  enter_new n at is =
      let within : v < length table = slice_get_within table v 0 at in
      record {
        size = length-set table v n ∙ h.size;
        numbers = λ u m here. elim (cases_eq u v) [
          | inl e ↦
              let there : slice_get (set table v n) v ≡ Some m =
              subst (λ w. slice_get (set table v n) w ≡ Some m) e here in
              let same : n ≡ m = same_Some n m (sym (slice_get-set_same table v n within) ∙ there) in
              subst (λ w. IsNumberOf (done ++ v ∷ []) w m) (sym e) (number_last done v m (sym same ∙ is))
          | inr ne ↦ number_stays done v u m (λ e. ne (sym e))
              (h.numbers u m (sym (slice_get-set_other table v u n ne) ∙ here))
        ];
        twice = twice_new done v again (h.numbers v 0 at) h.twice;
      }

  -- a variable that has a definition
  pub enter_again : (n : ℕ) → slice_get table v ≡ Some n → n ≢ 0
      → AreEntries max_var (done ++ v ∷ []) table (lesser again (Some v))
  enter_again n at some = record {
    size = h.size;
    numbers = λ u m here. elim (cases_eq u v) [
      | inl e ↦
          let same : n ≡ m = same_Some n m (sym at ∙ subst (λ w. slice_get table w ≡ Some m) e here) in
          number_kept done v u m (λ z. some (same ∙ z)) (h.numbers u m here)
      | inr ne ↦ number_stays done v u m (λ e. ne (sym e)) (h.numbers u m here)
    ];
    twice = twice_more done v again (contained done v n some (h.numbers v n at)) h.twice;
  }

-- the entries of the same variables, said in another way
pub entries_same : (max_var : ℕ) (xs ys table : List ℕ) (again : Option ℕ) → xs ≡ ys → AreEntries max_var xs table again
    → AreEntries max_var ys table again
entries_same max_var xs ys table again e h = subst (λ zs. AreEntries max_var zs table again) e h

map_after : {X : Type 0} (f : X → ℕ) (xs : List X) → map variable (map f xs) ≡ map (λ x. variable (f x)) xs
map_after f [] = refl
map_after f (x ∷ xs) = ap (λ ys. variable (f x) ∷ ys) (map_after f xs)

-- the variables of the definitions, section by section
pub definition_variables : (raw : Raw)
    → map variable raw.inputs ++ map latch_variable raw.latches ++ map gate_variable raw.gates
    ≡ map variable (definitions raw)
definition_variables raw =
    let a = map-append variable (raw.inputs ++ map (λ (x : Latch). x.lit) raw.latches) (map (λ
    (g : Gate). g.lhs) raw.gates) in
    let b = map-append variable raw.inputs (map (λ (x : Latch). x.lit) raw.latches) in
    let c = map_after (λ (x : Latch). x.lit) raw.latches in
    let d = map_after (λ (g : Gate). g.lhs) raw.gates in
    sym (a ∙ ap (λ ys. ys ++ map variable (map (λ (g : Gate). g.lhs) raw.gates)) (b ∙ ap (λ ys. map variable raw.inputs
    ++ ys) c)
    ∙ ap (λ ys. map variable raw.inputs ++ map latch_variable raw.latches ++ ys) d)

-- one more variable of a section, first or after others
pub one_more_first : {X : Type 0} (f : X → ℕ) (xs : List X) (p v : ℕ) (x : X) → p < length xs → x ≡ get_or xs p x → v
    ≡ f x
    → map f (take p xs) ++ v ∷ [] ≡ map f (take (p + 1) xs)
one_more_first f xs p v x l is e =
    ap (λ w. map f (take p xs) ++ w ∷ []) (e ∙ ap f is) ∙ sym (map_more f xs p x l)

pub one_more : {X : Type 0} (done : List ℕ) (f : X → ℕ) (xs : List X) (p v : ℕ) (x : X) → p < length xs → x
    ≡ get_or xs p x → v ≡ f x
    → done ++ map f (take p xs) ++ v ∷ [] ≡ done ++ map f (take (p + 1) xs)
one_more done f xs p v x l is e = append_assoc done (map f (take p xs)) (v ∷ []) ∙ ap (λ ys. done
    ++ ys) (one_more_first f xs p v x l is e)

-- how many variables are entered before one of a section, first or after others
pub entered_first : {X : Type 0} (f : X → ℕ) (xs : List X) (p : ℕ) → p < length xs → length (map f (take p xs)) ≡ p
entered_first f xs p l = length-map (take p xs) f ∙ length-take-le p xs (omega arith)

pub entered : {X : Type 0} (done : List ℕ) (f : X → ℕ) (xs : List X) (p : ℕ) → p < length xs
    → length (done ++ map f (take p xs)) ≡ length done + p
entered done f xs p l = length-append done (map f (take p xs)) ∙ ap (λ n. length done + n) (entered_first f xs p l)
