-- Numbers that ascend, and how one is found among them.
use Rattle.std.proofs.Common.{◌≡◌, ◌⊎◌, inl, inr, ℕ, zero, suc, ◌+◌, ◌-◌, ◌<◌, ◌≤◌, Bool, true, false, cond, List, [], ◌∷◌}
use Rattle.std.proofs.Common.{◌++◌, length, get_or, set, map, refl, sym, ap, subst, ◌∙◌, arith, length-append}
use Rattle.std.specs.Prelude.{Some, slice_get}
use Rattle.std.proofs.lemmas.Bool.{cases_eq, cases_lt}
use Rattle.std.proofs.lemmas.List.{get_or-map, get_or_append_left, length-map, map-append}
use Rattle.std.proofs.lemmas.Option.{get_or_from_slice_get, slice_get_within}
use Rattle.std.proofs.Math.Seq.{get_or-append_seam, map-set_same}
use Rattle.aig_sat.specs.declared.checker.ids.Entry.{Entry}
use Rattle.aig_sat.specs.checker.Entries.{Ascends, IsBetween, IsPlaceOf, ids}

-- as many numbers lie between two as indices
gap : (ns : List ℕ) → Ascends ns → (d j : ℕ) → j + d < length ns → get_or ns j 0 + d ≤ get_or ns (j + d) 0
gap ns a zero j inside = let e : get_or ns (j + 0) 0 ≡ get_or ns j 0 = ap (λ i. get_or ns i 0) (omega arith) in omega (arith, e)
gap ns a (suc d) j inside =
    let before : get_or ns j 0 + d ≤ get_or ns (j + d) 0 = gap ns a d j (omega (arith, inside)) in
    let next : get_or ns (j + d) 0 < get_or ns (j + suc d) 0 = a (j + d) (j + suc d) (omega arith) inside in
    omega (arith, before, next)

pub gap_to : (ns : List ℕ) → Ascends ns → (j k : ℕ) → j ≤ k → k < length ns → get_or ns j 0 + (k - j) ≤ get_or ns k 0
gap_to ns a j k le inside =
    let e : j + (k - j) ≡ k = omega (arith, le) in
    subst (λ (x : ℕ). get_or ns j 0 + (k - j) ≤ get_or ns x 0) e (gap ns a (k - j) j (omega (arith, le, inside)))

-- an entry's number
pub id_read : (entries : List Entry) (k : ℕ) (it : Entry) → k < length entries → it ≡ get_or entries k it
    → it.id ≡ get_or (ids entries) k 0
id_read entries k it inside is = ap (λ (x : Entry). x.id) is ∙ sym (get_or-map (λ (x : Entry). x.id) entries k it 0 inside)

pub many : (entries : List Entry) → length (ids entries) ≡ length entries
many entries = length-map entries (λ (x : Entry). x.id)

-- one more entry
pub ascends_more : (ns : List ℕ) (number : ℕ) → Ascends ns → ((k : ℕ) → k < length ns → get_or ns k 0 < number)
    → Ascends (ns ++ number ∷ [])
ascends_more ns number a all j k lt inside =
    let e : length (ns ++ number ∷ []) ≡ length ns + 1 = length-append ns (number ∷ []) in
    let left : get_or (ns ++ number ∷ []) j 0 ≡ get_or ns j 0 =
    get_or_append_left ns (number ∷ []) 0 j (omega (arith, e, lt, inside)) in
    elim (cases_eq k (length ns)) [
      | inl at ↦
          let last : get_or (ns ++ number ∷ []) k 0 ≡ number =
          ap (λ (i : ℕ). get_or (ns ++ number ∷ []) i 0) at ∙ get_or-append_seam ns number [] 0 in
          let h = all j (omega (arith, at, lt)) in
          omega (arith, left, last, h)
      | inr ne ↦
          let right : get_or (ns ++ number ∷ []) k 0 ≡ get_or ns k 0 =
          get_or_append_left ns (number ∷ []) 0 k (omega (arith, e, inside, ne)) in
          let h = a j k lt (omega (arith, e, inside, ne)) in
          omega (arith, left, right, h)
    ]

pub entries_more : (entries : List Entry) (it : Entry) → Ascends (ids entries)
    → ((k : ℕ) → k < length (ids entries) → get_or (ids entries) k 0 < it.id) → Ascends (ids (entries ++ it ∷ []))
entries_more entries it a all =
    subst Ascends (sym (map-append (λ (x : Entry). x.id) entries (it ∷ []))) (ascends_more (ids entries) it.id a all)

pub entries_pushed : (b : Bool) (entries new : List Entry) (it : Entry) → Ascends (ids entries)
    → ((k : ℕ) → k < length (ids entries) → get_or (ids entries) k 0 < it.id) → new ≡ cond b (entries ++ it ∷ []) entries
    → Ascends (ids new)
entries_pushed true entries new it a all e = subst (λ (x : List Entry). Ascends (ids x)) (sym e) (entries_more entries it a all)
entries_pushed false entries new it a all e = subst (λ (x : List Entry). Ascends (ids x)) (sym e) a

-- an entry that keeps its number
pub entries_set : (entries : List Entry) (k : ℕ) (was it : Entry) → it.id ≡ was.id → was ≡ get_or entries k was
    → Ascends (ids entries) → Ascends (ids (set entries k it))
entries_set entries k was it same is a =
    subst Ascends (sym (map-set_same (λ (x : Entry). x.id) entries k it was (same ∙ ap (λ (x : Entry). x.id) is))) a

-- the place of an entry that was found by its number
pub placed : (entries : List Entry) (number index : ℕ) → ((k : ℕ) → k < length (ids entries)
    → get_or (ids entries) k 0 ≡ number → index ≡ k) → (k : ℕ) (it : Entry) → slice_get entries k ≡ Some it
    → it.id ≡ number → (index ≡ k) × (k < length entries) × ((x : Entry) → x ≡ get_or entries index x → x ≡ it)
placed entries number index found k it at is =
    let inside = slice_get_within entries k it at in
    let here : get_or entries k it ≡ it = get_or_from_slice_get entries k it it at in
    let same : index ≡ k = found k (omega (arith, inside, many entries)) (sym (id_read entries k it inside (sym here)) ∙ is) in (
      same,
      inside,
      λ x e. e ∙ ap (λ (i : ℕ). get_or entries i x) same ∙ get_or_from_slice_get entries k it x at,
    )
