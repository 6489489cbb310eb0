-- A place that is added to a list, and a list that is read, as the vectors have them.
use Rattle.std.proofs.Common.{◌≡◌, ℕ, ◌<◌, ◌≤◌, ◌%◌, List, [], ◌∷◌, ◌++◌, length, get_or, set, refl, sym, ap, subst, ◌∙◌}
use Rattle.std.specs.Prelude.{slice_get}
use Rattle.std.proofs.lemmas.List.{get_or_default}
use Rattle.std.proofs.lemmas.Option.{slice_get_past, slice_get_read}
use Rattle.aig_sat.specs.declared.checker.places.Link.{Link}
use Rattle.aig_sat.specs.checker.Knowledge.{IsIn}
use Rattle.aig_sat.specs.checker.Listing.{Lists}
use Rattle.aig_sat.proofs.checking.ListingLemmas.{IsFoundOrLeft, found_all, found_first, found_more, listed_last, listed_more}

-- the links after one was added, whose number its list begins with
pub record IsAdded (heads : List ℕ) (links now : List Link) (x : Link) (list number : ℕ) : Type 0 where
  pub last : number ≡ length links
  pub items : now ≡ links ++ x ∷ []
  pub inside : list < length heads
  pub next : x.next ≡ get_or heads list x.next

pub added_kept : (heads : List ℕ) (links now : List Link) (x : Link) (list number : ℕ)
    → IsAdded heads links now x list number → (l p : ℕ) → Lists heads links l p → Lists (set heads list number) now l p
added_kept heads links now x list number is l p h =
    subst (λ (n : ℕ). Lists (set heads list n) now l p) (sym is.last)
    (subst (λ (xs : List Link). Lists (set heads list (length links)) xs l p) (sym is.items)
    (listed_more heads links x list is.inside (is.next ∙ get_or_default heads list x.next 0 is.inside) l p h))

pub added_last : (heads : List ℕ) (links now : List Link) (x : Link) (list number l : ℕ)
    → IsAdded heads links now x list number → list ≡ l % length heads → Lists (set heads list number) now l x.place
added_last heads links now x list number l is at =
    subst (λ (n : ℕ). Lists (set heads list n) now l x.place) (sym is.last)
    (subst (λ (xs : List Link). Lists (set heads list (length links)) xs l x.place) (sym is.items)
    (listed_last heads links x list l is.inside (sym at)))

-- the number of the first link of a list
pub reading_first : (heads : List ℕ) (links : List Link) (found : List ℕ) (l list number : ℕ) → list ≡ l % length heads
    → list < length heads → number ≡ get_or heads list number → (p : ℕ) → Lists heads links l p
    → IsFoundOrLeft links found number p
reading_first heads links found l list number at inside is p h =
    found_first heads links found l number p
    (is ∙ get_or_default heads list number 0 inside ∙ ap (λ (k : ℕ). get_or heads k 0) at) h

-- the next link
pub reading_more : (links items : List Link) (found now : List ℕ) (number : ℕ) (link : Link) → items ≡ links
    → number < length items → link ≡ get_or items number link → now ≡ found ++ link.place ∷ [] → (p : ℕ)
    → IsFoundOrLeft links found number p → IsFoundOrLeft links now link.next p
reading_more links items found now number link same inside is e p h =
    subst (λ (xs : List ℕ). IsFoundOrLeft links xs link.next p) (sym e)
    (found_more links found number link
    (ap (λ (xs : List Link). slice_get xs number) (sym same) ∙ slice_get_read items (length items) number link refl inside is) p h)

-- no link has the number
pub reading_last : (links items : List Link) (found : List ℕ) (number : ℕ) → items ≡ links → length items ≤ number → (p : ℕ)
    → IsFoundOrLeft links found number p → IsIn found p
reading_last links items found number same past p h =
    found_all links found number p (ap (λ (xs : List Link). slice_get xs number) (sym same) ∙ slice_get_past items number past) h
