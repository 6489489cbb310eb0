-- Bits of entries, in pages.
use Rattle.std.proofs.Common.{◌≡◌, ◌⊎◌, ◌↔◌, inl, inr, ℕ, ◌%◌, ◌<◌, ◌≤◌, List, [], Result, Ok, Err, length, get_or, set}
use Rattle.std.proofs.Common.{eqb, if◌then◌else◌, refl, sym, ap, subst, ◌∙◌, arith, get_or-set_other, get_or-set_same}
use Rattle.std.proofs.lemmas.Bool.{cases_eq}
use Rattle.std.specs.Prelude.{OnOk, OnErr}
use Rattle.std.proofs.lemmas.List.{get_or_past, get_or_read, set-get_or}
use Rattle.aig_parts.specs.declared.symbols.Kind.{Kind}
use Rattle.aig_parts.specs.declared.symbols.Kind.TheVariants.{Input, Latch, Output, Bad, Constraint, Justice, Fairness}
use Rattle.aig_parts.specs.state.Bits.{HasBit}
use Rattle.aig_parts.specs.SymbolPlaces.{Key}
use Rattle.aig_parts.specs.state.NamedEntries.{section_number, page_of, IsMarkedEntry}
use Rattle.aig_parts.proofs.BitLemmas.{past}

-- ---- pages

few : (k : Kind) → section_number k < 7
few Input = omega arith
few Latch = omega arith
few Output = omega arith
few Bad = omega arith
few Constraint = omega arith
few Justice = omega arith
few Fairness = omega arith

section_at : ℕ → Kind
section_at n =
    if eqb n 0 then Input
    else (if eqb n 1 then Latch
    else (if eqb n 2 then Output
    else (if eqb n 3 then Bad
    else (if eqb n 4 then Constraint
    else (if eqb n 5 then Justice
    else Fairness)))))

section_back : (k : Kind) → section_at (section_number k) ≡ k
unfolding section_at
section_back Input = refl
section_back Latch = refl
section_back Output = refl
section_back Bad = refl
section_back Constraint = refl
section_back Justice = refl
section_back Fairness = refl

-- a page and a place in it determine the entry
same_entry : (j k : Key) → page_of j ≡ page_of k → j.1 % 16384 ≡ k.1 % 16384 → j ≡ k
same_entry j k e m =
    let a = few j.0 in
    let b = few k.0 in
    let number : section_number j.0 ≡ section_number k.0 = omega arith in
    let position : j.1 ≡ k.1 = omega arith in
    let kind : j.0 ≡ k.0 = sym (section_back j.0) ∙ ap section_at number ∙ section_back k.0 in
    λ i. (kind i, position i)

-- a page of no words, or after the last, has no entry
pub no_page : (pages : List (List ℕ)) (k : Key) → length pages ≤ page_of k → IsMarkedEntry pages k → ⊥
unfolding IsMarkedEntry
no_page pages k le h =
    let e = get_or_past pages (page_of k) [] le in
    past [] (k.1 % 16384) (omega arith) (subst (λ (ws : List ℕ). HasBit ws (k.1 % 16384)) e h)

pub same_marks : (pages others : List (List ℕ)) → ((p : ℕ) → get_or pages p [] ≡ get_or others p []) → (k : Key)
    → IsMarkedEntry pages k ↔ IsMarkedEntry others k
unfolding IsMarkedEntry
same_marks pages others same k =
    let e = same (page_of k) in
    let P : List ℕ → Type 0 = λ ws. HasBit ws (k.1 % 16384) in (subst P e, subst P (sym e))

-- a page gets the bit of an entry
pub marked : (pages : List (List ℕ)) (k : Key) (words : List ℕ) → page_of k < length pages
    → ((n : ℕ) → HasBit words n ↔ (HasBit (get_or pages (page_of k) []) n ⊎ (n ≡ k.1 % 16384))) → (j : Key)
    → IsMarkedEntry (set pages (page_of k) words) j ↔ (IsMarkedEntry pages j ⊎ (j ≡ k))
unfolding IsMarkedEntry
marked pages k words inside bits j = elim (cases_eq (page_of j) (page_of k)) [
  | inl e ↦
      let now : get_or (set pages (page_of k) words) (page_of j) [] ≡ words =
      ap (λ (p : ℕ). get_or (set pages (page_of k) words) p []) e ∙ get_or-set_same pages (page_of k) words [] inside in
      let was : get_or pages (page_of j) [] ≡ get_or pages (page_of k) [] = ap (λ (p : ℕ). get_or pages p []) e in
      let P : List ℕ → Type 0 = λ ws. HasBit ws (j.1 % 16384) in
      let b = bits (j.1 % 16384) in (
        λ h. elim (b.0 (subst P now h)) [ inl o ↦ inl (subst P (sym was) o) | inr m ↦ inr (same_entry j k e m) ],
        λ h. subst P (sym now) (b.1 (elim h [
          | inl o ↦ inl (subst P was o)
          | inr i ↦ inr (ap (λ (x : Key). x.1 % 16384) i)
        ])),
      )
  | inr ne ↦
      let now : get_or (set pages (page_of k) words) (page_of j) [] ≡ get_or pages (page_of j) [] =
      get_or-set_other pages (page_of k) (page_of j) words [] ne in
      let P : List ℕ → Type 0 = λ ws. HasBit ws (j.1 % 16384) in (
        λ h. inl (subst P now h),
        λ h. elim h [ inl o ↦ subst P (sym now) o | inr i ↦ absurd (ne (ap page_of i)) ],
      )
]

-- a page that is read
pub mark_read : (pages : List (List ℕ)) (k : Key) (page : ℕ) (words : List ℕ) → page ≡ page_of k → page < length pages
    → words ≡ get_or pages page words → HasBit words (k.1 % 16384) ↔ IsMarkedEntry pages k
unfolding IsMarkedEntry
mark_read pages k page words at inside is =
    let e : words ≡ get_or pages (page_of k) [] =
    get_or_read pages page words inside is [] ∙ ap (λ (p : ℕ). get_or pages p []) at in
    let P : List ℕ → Type 0 = λ ws. HasBit ws (k.1 % 16384) in (subst P e, subst P (sym e))

-- a page that gets the bit of an entry, or stays as it was
module _ {E : Type 0} (before pages : List (List ℕ)) (k : Key) (page : ℕ) (old new : List ℕ) where
  pub set_page : (r : Result (Unit {0}) E) → page ≡ page_of k
      → ((p : ℕ) → get_or pages p [] ≡ get_or before p []) → page < length pages → old ≡ get_or pages page old
      → OnOk r ((n : ℕ) → HasBit new n ↔ (HasBit old n ⊎ (n ≡ k.1 % 16384)))
      → OnOk r ((j : Key) → IsMarkedEntry (set pages page new) j ↔ (IsMarkedEntry before j ⊎ (j ≡ k)))
  set_page (Ok x) at same inside is bits =
      λ j.
      let e : old ≡ get_or pages (page_of k) [] =
      get_or_read pages page old inside is [] ∙ ap (λ (p : ℕ). get_or pages p []) at in
      let one = marked pages k new (subst (λ (p : ℕ). p < length pages) at inside)
      (subst (λ (ws : List ℕ). (n : ℕ) → HasBit new n ↔ (HasBit ws n ⊎ (n ≡ k.1 % 16384))) e bits) j in
      let two = same_marks pages before same j in
      let P : ℕ → Type 0 = λ p. IsMarkedEntry (set pages p new) j in (
        λ h. elim (one.0 (subst P at h)) [ inl m ↦ inl (two.0 m) | inr i ↦ inr i ],
        λ h. subst P (sym at) (one.1 (elim h [ inl m ↦ inl (two.1 m) | inr i ↦ inr i ])),
      )
  set_page (Err x) at same inside is bits = tt

  pub unset_page : (r : Result (Unit {0}) E) → page ≡ page_of k
      → ((p : ℕ) → get_or pages p [] ≡ get_or before p []) → page < length pages → old ≡ get_or pages page old
      → OnErr r (new ≡ old) → OnErr r ((j : Key) → IsMarkedEntry (set pages page new) j ↔ IsMarkedEntry before j)
  unset_page (Ok x) at same inside is stays = tt
  unset_page (Err x) at same inside is stays =
      let back : set pages page new ≡ pages =
      ap (λ (ws : List ℕ). set pages page ws) (stays ∙ is) ∙ set-get_or pages page old in
      λ j. subst (λ (ps : List (List ℕ)). IsMarkedEntry ps j ↔ IsMarkedEntry before j) (sym back) (same_marks pages before same j)
