-- The lists of places by literal.
use Rattle.std.proofs.Common.{◌≡◌, ◌≢◌, ◌⊎◌, inl, inr, ℕ, zero, suc, ◌+◌, ◌-◌, ◌<◌, ◌≤◌, ◌%◌, List, [], ◌∷◌, ◌++◌}
use Rattle.std.proofs.Common.{length, get_or, set, refl, sym, ap, subst, ◌∙◌, arith, length-append}
use Rattle.std.specs.Prelude.{Option, Some, None, slice_get, nat_eq, Bool, true, false, cond, IsTrue, IfOk, Result, Ok, Err}
use Rattle.std.proofs.lemmas.Bool.{false≢true, cases_eq, cases_lt, eq-eqb, eqb-true, or_cases, or_left, or_right}
use Rattle.std.proofs.lemmas.List.{length-set, get_or-set_same, get_or-set_other, get_or_append_left}
use Rattle.std.proofs.lemmas.Option.{get_or_from_slice_get, none-some, slice_get_read, slice_get_within}
use Rattle.std.proofs.Math.Seq.{get_or-append_seam}
use Rattle.aig_bytes.specs.declared.fault.Memory.{Memory}
use Rattle.aig_sat.specs.declared.checker.places.Link.{Link}
use Rattle.aig_sat.specs.declared.checker.propagator.Propagator.{Propagator}
use Rattle.aig_sat.specs.checker.Agreement.{Narrows}
use Rattle.aig_sat.specs.checker.First.{IsSettled, Settles}
use Rattle.aig_sat.specs.checker.Knowledge.{IsIn, IsKnown}
use Rattle.aig_sat.specs.checker.Listing.{FindsAll, Lists, ListsAll, is_within, link_has}
use Rattle.aig_sat.specs.checker.Words.{AreLiterals, IsLaidOut, IsLast, Shrinks, StandsAt, literal_at, size_at}
use Rattle.aig_sat.proofs.checking.FirstLemmas.{settled_earlier, settled_later}
use Rattle.aig_sat.proofs.checking.PropagationLemmas.{agrees_narrowed, in_last, in_more}
use Rattle.aig_sat.proofs.checking.PutLemmas.{append_shrinks}
use Rattle.aig_sat.proofs.checking.WordLemmas.{shrinks_none}

-- ---- the links of a list

-- one of the first n links from a number on has the place
abbrev pub IsWithin : List Link → ℕ → ℕ → ℕ → Type 0
IsWithin links zero number place = ⊥
IsWithin links (suc n) number place =
    (link : Link) × (slice_get links number ≡ Some link) × ((link.place ≡ place) ⊎ IsWithin links n link.next place)

link_that_has : (o : Option Link) (place : ℕ) (rest_has : ℕ → Bool) → link_has o place rest_has ≡ true
    → (link : Link) × (o ≡ Some link) × ((link.place ≡ place) ⊎ (rest_has link.next ≡ true))
link_that_has None place rest_has h = absurd (false≢true h)
link_that_has (Some link) place rest_has h = (
  link,
  refl,
  elim (or_cases (nat_eq link.place place) (rest_has link.next) h) [
    | inl e ↦ inl (eqb-true link.place place e)
    | inr more ↦ inr more
  ],
)

link_here : (link : Link) (place : ℕ) (rest_has : ℕ → Bool) → link.place ≡ place → link_has (Some link) place rest_has ≡ true
link_here link place rest_has e =
    or_left (nat_eq link.place place) (rest_has link.next) (eq-eqb link.place place e)

link_later : (link : Link) (place : ℕ) (rest_has : ℕ → Bool) → rest_has link.next ≡ true
    → link_has (Some link) place rest_has ≡ true
link_later link place rest_has h = or_right (nat_eq link.place place) (rest_has link.next) h

within_is : (links : List Link) (n number place : ℕ) → is_within links place n number ≡ true → IsWithin links n number place
within_is links zero number place h = absurd (false≢true h)
within_is links (suc n) number place h =
    let (link, at, more) = link_that_has (slice_get links number) place (is_within links place n) h in (
      link,
      at,
      elim more [
        | inl e ↦ inl e
        | inr later ↦ inr (within_is links n link.next place later)
      ],
    )

within_tests : (links : List Link) (n number place : ℕ) → IsWithin links n number place → is_within links place n number ≡ true
within_tests links zero number place h = absurd h
within_tests links (suc n) number place (link, at, more) =
    subst (λ (o : Option Link). link_has o place (is_within links place n) ≡ true) (sym at) (elim more [
      | inl e ↦ link_here link place (is_within links place n) e
      | inr later ↦ link_later link place (is_within links place n) (within_tests links n link.next place later)
    ])

within_longer : (links : List Link) (n number place : ℕ) → IsWithin links n number place → IsWithin links (suc n) number place
within_longer links zero number place h = absurd h
within_longer links (suc n) number place (link, at, more) = (
  link,
  at,
  elim more [
    | inl e ↦ inl e
    | inr later ↦ inr (within_longer links n link.next place later)
  ],
)

-- a list has a place that one of its links has, and no list is longer than all links
lists_within : (heads : List ℕ) (links : List Link) (x : Link) (l number p : ℕ)
    → get_or heads (l % length heads) 0 ≡ number → IsWithin (links ++ x ∷ []) (suc (length links)) number p
    → Lists heads (links ++ x ∷ []) l p
lists_within heads links x l number p first h =
    let one : length (links ++ x ∷ []) ≡ length links + 1 = length-append links (x ∷ []) in
    let len : length (links ++ x ∷ []) ≡ suc (length links) = omega (arith, one) in
    subst (λ (k : ℕ). is_within (links ++ x ∷ []) p (length (links ++ x ∷ [])) k ≡ true) (sym first)
    (subst (λ (n : ℕ). is_within (links ++ x ∷ []) p n number ≡ true) (sym len)
    (within_tests (links ++ x ∷ []) (suc (length links)) number p h))

-- ---- a link that is added

get_before : (links : List Link) (x link : Link) (i : ℕ) → slice_get links i ≡ Some link
    → slice_get (links ++ x ∷ []) i ≡ Some link
get_before links x link i at =
    let inside : i < length links = slice_get_within links i link at in
    let len : length (links ++ x ∷ []) ≡ length links + 1 = length-append links (x ∷ []) in
    slice_get_read (links ++ x ∷ []) (length links + 1) i link (sym len) (omega (arith, inside))
    (sym (get_or_append_left links (x ∷ []) link i inside ∙ get_or_from_slice_get links i link link at))

get_last : (links : List Link) (x : Link) → slice_get (links ++ x ∷ []) (length links) ≡ Some x
get_last links x =
    let len : length (links ++ x ∷ []) ≡ length links + 1 = length-append links (x ∷ []) in
    slice_get_read (links ++ x ∷ []) (length links + 1) (length links) x (sym len) (omega arith)
    (sym (get_or-append_seam links x [] x))

within_more : (links : List Link) (x : Link) (n number place : ℕ) → IsWithin links n number place
    → IsWithin (links ++ x ∷ []) n number place
within_more links x zero number place h = h
within_more links x (suc n) number place (link, at, h) = (
  link,
  get_before links x link number at,
  elim h [
    | inl e ↦ inl e
    | inr more ↦ inr (within_more links x n link.next place more)
  ],
)

-- the first link of a list after one was added to a list
head_same : (heads : List ℕ) (i number l : ℕ) → i < length heads → l % length heads ≡ i
    → get_or (set heads i number) (l % length (set heads i number)) 0 ≡ number
head_same heads i number l inside e =
    ap (λ n. get_or (set heads i number) (l % n) 0) (length-set heads i number)
    ∙ ap (λ k. get_or (set heads i number) k 0) e ∙ get_or-set_same heads i number 0 inside

head_other : (heads : List ℕ) (i number l : ℕ) → l % length heads ≢ i
    → get_or (set heads i number) (l % length (set heads i number)) 0 ≡ get_or heads (l % length heads) 0
head_other heads i number l ne =
    ap (λ n. get_or (set heads i number) (l % n) 0) (length-set heads i number)
    ∙ get_or-set_other heads i (l % length heads) number 0 ne

pub listed_more : (heads : List ℕ) (links : List Link) (x : Link) (i : ℕ) → i < length heads → x.next ≡ get_or heads i 0
    → (l p : ℕ) → Lists heads links l p → Lists (set heads i (length links)) (links ++ x ∷ []) l p
listed_more heads links x i inside next l p h =
    let was = within_is links (length links) (get_or heads (l % length heads) 0) p h in
    elim (cases_eq (l % length heads) i) [
      | inl e ↦
          let first : get_or heads (l % length heads) 0 ≡ x.next = ap (λ k. get_or heads k 0) e ∙ sym next in
          let rest : IsWithin (links ++ x ∷ []) (length links) x.next p =
          within_more links x (length links) x.next p (subst (λ (k : ℕ). IsWithin links (length links) k p) first was) in
          lists_within (set heads i (length links)) links x l (length links) p (head_same heads i (length links) l inside e)
          (x, get_last links x, inr rest)
      | inr ne ↦
          lists_within (set heads i (length links)) links x l (get_or heads (l % length heads) 0) p
          (head_other heads i (length links) l ne)
          (within_longer (links ++ x ∷ []) (length links) (get_or heads (l % length heads) 0) p
          (within_more links x (length links) (get_or heads (l % length heads) 0) p was))
    ]

pub listed_last : (heads : List ℕ) (links : List Link) (x : Link) (i l : ℕ) → i < length heads → l % length heads ≡ i
    → Lists (set heads i (length links)) (links ++ x ∷ []) l x.place
listed_last heads links x i l inside e =
    lists_within (set heads i (length links)) links x l (length links) x.place (head_same heads i (length links) l inside e)
    (x, get_last links x, inl refl)

-- lists that keep their places keep all that is before a place
pub lists_kept : (heads new_heads : List ℕ) (links new_links : List Link) (words : List ℕ) (from end : ℕ) → from ≤ end
    → ((l p : ℕ) → Lists heads links l p → Lists new_heads new_links l p) → ListsAll heads links words end
    → ListsAll new_heads new_links words from
lists_kept heads new_heads links new_links words from end within kept lists p k below stands inside =
    kept (literal_at words p k) p (lists p k (omega (arith, below, within)) stands inside)

-- one more literal of a clause
pub added_more : (heads new_heads : List ℕ) (links new_links : List Link) (words : List ℕ) (place n literal : ℕ)
    → literal ≡ literal_at words place n → ((l p : ℕ) → Lists heads links l p → Lists new_heads new_links l p)
    → ((k : ℕ) → k < n → Lists heads links (literal_at words place k) place) → Lists new_heads new_links literal place
    → (k : ℕ) → k < n + 1 → Lists new_heads new_links (literal_at words place k) place
added_more heads new_heads links new_links words place n literal is kept before now k below = elim (cases_eq k n) [
  | inl e ↦ subst (λ (x : ℕ). Lists new_heads new_links x place) (is ∙ ap (literal_at words place) (sym e)) now
  | inr ne ↦ kept (literal_at words place k) place (before k (omega (arith, ne, below)))
]

-- one more clause
pub lists_more : (heads new_heads : List ℕ) (links new_links : List Link) (words : List ℕ) (n : ℕ)
    → ((l p : ℕ) → Lists heads links l p → Lists new_heads new_links l p) → ListsAll heads links words n
    → ((k : ℕ) → k < size_at words n → Lists new_heads new_links (literal_at words n k) n)
    → ListsAll new_heads new_links words (n + 1)
lists_more heads new_heads links new_links words n kept lists now p k below stands inside = elim (cases_eq p n) [
  | inl e ↦ subst (λ (x : ℕ). k < size_at words x → Lists new_heads new_links (literal_at words x k) x) (sym e) (now k) inside
  | inr ne ↦ kept (literal_at words p k) p (lists p k (omega (arith, ne, below)) stands inside)
]

-- ---- a list that is read

-- a place was found, or it is that of a link from here on
abbrev pub IsFoundOrLeft : List Link → List ℕ → ℕ → ℕ → Type 0
IsFoundOrLeft links found number p = IsIn found p ⊎ ((n : ℕ) × IsWithin links n number p)

some_same : (a b : Link) → Some a ≡ Some b → a ≡ b
some_same a b e = cc

found_link : (links : List Link) (found : List ℕ) (number : ℕ) (link : Link) → slice_get links number ≡ Some link
    → (p n : ℕ) → IsWithin links n number p → IsFoundOrLeft links (found ++ link.place ∷ []) link.next p
found_link links found number link at p zero h = absurd h
found_link links found number link at p (suc n) (other, is, h) =
    let same : other ≡ link = some_same other link (sym is ∙ at) in
    let place : other.place ≡ link.place = ap (λ (x : Link). x.place) same in
    elim h [
      | inl e ↦ inl (subst (λ (x : ℕ). IsIn (found ++ link.place ∷ []) x) (sym place ∙ e) (in_last found link.place))
      | inr more ↦ inr (n, subst (λ (x : Link). IsWithin links n x.next p) same more)
    ]

-- it begins with the whole list
pub found_first : (heads : List ℕ) (links : List Link) (found : List ℕ) (l number p : ℕ)
    → number ≡ get_or heads (l % length heads) 0 → Lists heads links l p → IsFoundOrLeft links found number p
found_first heads links found l number p is h =
    inr (length links, subst (λ (k : ℕ). IsWithin links (length links) k p) (sym is) (within_is links (length links) _ p h))

pub found_more : (links : List Link) (found : List ℕ) (number : ℕ) (link : Link) → slice_get links number ≡ Some link
    → (p : ℕ) → IsFoundOrLeft links found number p → IsFoundOrLeft links (found ++ link.place ∷ []) link.next p
found_more links found number link at p (inl i) = inl (in_more found link.place p i)
found_more links found number link at p (inr (n, h)) = found_link links found number link at p n h

none_left : (links : List Link) (number n p : ℕ) → slice_get links number ≡ None → IsWithin links n number p → ⊥
none_left links number zero p none h = absurd h
none_left links number (suc n) p none (link, is, h) = none-some link (sym none ∙ is)

pub found_all : (links : List Link) (found : List ℕ) (number p : ℕ) → slice_get links number ≡ None
    → IsFoundOrLeft links found number p → IsIn found p
found_all links found number p none (inl i) = i
found_all links found number p none (inr (n, h)) = absurd (none_left links number n p none h)

-- what the lists have is all
pub finds_listed : (heads : List ℕ) (links : List Link) (words : List ℕ) (literal : ℕ) (found : List ℕ) → IsLaidOut words
    → ListsAll heads links words (length words) → ((p : ℕ) → Lists heads links literal p → IsIn found p)
    → FindsAll words literal found
finds_listed heads links words literal found laid lists reads p k stands inside is =
    reads p (subst (λ (l : ℕ). Lists heads links l p) is (lists p k (omega (arith, (laid p stands).0)) stands inside))

-- ---- words that are read from the last one on

-- the clauses from a place on are found that have the literal
abbrev pub FindsFrom : List ℕ → ℕ → ℕ → ℕ → List ℕ → Type 0
FindsFrom words end read literal found =
    (p k : ℕ) → end ≤ p + read → StandsAt words p → k < size_at words p → literal_at words p k ≡ literal → IsIn found p

pub finds_next : (words : List ℕ) (end read literal : ℕ) (found now : List ℕ)
    → ((p : ℕ) → IsIn found p → IsIn now p) → FindsFrom words end read literal found
    → ((k : ℕ) → StandsAt words (end - 1 - read) → k < size_at words (end - 1 - read)
    → literal_at words (end - 1 - read) k ≡ literal → IsIn now (end - 1 - read))
    → FindsFrom words end (read + 1) literal now
finds_next words end read literal found now kept finds here p k above stands inside is =
    elim (cases_lt (p + read) end) [
      | inr more ↦ kept p (finds p k more stands inside is)
      | inl less ↦
          let at : end - 1 - read ≡ p = omega (arith, less, above) in
          subst (λ (x : ℕ). StandsAt words x → k < size_at words x → literal_at words x k ≡ literal → IsIn now x) at
          (here k) stands inside is
    ]

-- ---- words that change

-- no clause comes to stand
pub lists_shrunk : (heads : List ℕ) (links : List Link) (old new : List ℕ) (end : ℕ) → Shrinks old new
    → ListsAll heads links old end → ListsAll heads links new end
lists_shrunk heads links old new end s lists p k below stands inside =
    let e : get_or new p 0 ≡ get_or old p 0 = s.heads p stands in
    let (j, within, same) = s.had p k stands inside in
    subst (λ (l : ℕ). Lists heads links l p) same (lists p j below (omega (arith, e, stands)) within)

pub finds_shrunk : (old new : List ℕ) (literal : ℕ) (found : List ℕ) → Shrinks old new → FindsAll old literal found
    → FindsAll new literal found
finds_shrunk old new literal found s finds p k stands inside is =
    let e : get_or new p 0 ≡ get_or old p 0 = s.heads p stands in
    let (j, within, same) = s.had p k stands inside in
    finds p j (omega (arith, e, stands)) within (same ∙ is)

pub append_lists : (heads : List ℕ) (links : List Link) (words tail : List ℕ) (end : ℕ) → IsLaidOut words
    → AreLiterals tail → ListsAll heads links words end → ListsAll heads links (words ++ tail) end
append_lists heads links words tail end laid small lists =
    lists_shrunk heads links words (words ++ tail) end (append_shrinks words tail laid small) lists

pub appended_lists : (b : Bool) (heads : List ℕ) (links : List Link) (words tail new : List ℕ) (end : ℕ) → IsLaidOut words
    → AreLiterals tail → new ≡ cond b (words ++ tail) words → ListsAll heads links words end → ListsAll heads links new end
appended_lists true heads links words tail new end laid small e lists =
    subst (λ (xs : List ℕ). ListsAll heads links xs end) (sym e) (append_lists heads links words tail end laid small lists)
appended_lists false heads links words tail new end laid small e lists =
    subst (λ (xs : List ℕ). ListsAll heads links xs end) (sym e) lists

pub appended_within : (b : Bool) (words tail new : List ℕ) (end : ℕ) → new ≡ cond b (words ++ tail) words
    → end ≤ length words → end ≤ length new
appended_within true words tail new end e within =
    let len : length new ≡ length (words ++ tail) = ap length e in
    omega (arith, len, within, length-append words tail)
appended_within false words tail new end e within = let len : length new ≡ length words = ap length e in omega (arith, len, within)

-- the last clause stands from now on, and is not listed
pub lists_stand : (heads : List ℕ) (links : List Link) (words : List ℕ) (n size end : ℕ) → IsLast words n size → end ≤ n
    → ListsAll heads links words end → ListsAll heads links (set words n (0x8000_0000 + size)) end
lists_stand heads links words n size end is before lists p k below now inside =
    let x = 0x8000_0000 + size in
    let ne : p ≢ n = λ e. omega (arith, e, below, before) in
    let head : get_or (set words n x) p 0 ≡ get_or words p 0 = get_or-set_other words n p x 0 ne in
    let stands : StandsAt words p = omega (arith, head, now) in
    let within : k < size_at words p = omega (arith, head, inside) in
    let same : get_or (set words n x) (p + (3 + k)) 0 ≡ get_or words (p + (3 + k)) 0 =
    get_or-set_other words n (p + (3 + k)) x 0 (λ e. omega (arith, e, is.ends p stands, within)) in
    subst (λ (l : ℕ). Lists heads links l p) (sym same) (lists p k below stands within)

-- ---- candidates

-- one more place, from the last one on
pub settled_next : (old mid new : Propagator) (clause : List ℕ) (lie count tried : ℕ) (before now : List ℕ) → now ≡ before
    → Narrows old mid → Narrows mid new
    → ((j : ℕ) → count ≤ j + tried → j < count → IsSettled old mid clause lie (get_or before j 0))
    → IsSettled mid new clause lie (get_or before (count - 1 - tried) 0)
    → (j : ℕ) → count ≤ j + (tried + 1) → j < count → IsSettled old new clause lie (get_or now j 0)
settled_next old mid new clause lie count tried before now e first second were is j above below =
    subst (λ (xs : List ℕ). IsSettled old new clause lie (get_or xs j 0)) (sym e) (elim (cases_eq j (count - 1 - tried)) [
      | inl at ↦ settled_earlier old mid new clause lie (get_or before j 0) first
          (subst (λ (x : ℕ). IsSettled mid new clause lie (get_or before x 0)) (sym at) is)
      | inr ne ↦ settled_later old mid new clause lie (get_or before j 0) (were j (omega (arith, ne, above)) below) second
    ])

-- all places were tried, so a true literal of the clause at p is another one, or p is one of the places
pub settled_there : (old new : Propagator) (clause : List ℕ) (lie count tried : ℕ) (places : List ℕ) (p : ℕ)
    → Narrows old new → FindsAll new.clauses.words.items lie places → count ≡ length places → count ≤ tried
    → ((j : ℕ) → count ≤ j + tried → j < count → IsSettled old new clause lie (get_or places j 0))
    → IsSettled old new clause lie p
settled_there old new clause lie count tried places p n finds all end settled v a untrue stands =
    let words = new.clauses.words.items in
    let (k, inside, holds) = (agrees_narrowed old new n v a).met p stands in
    elim (cases_eq (literal_at words p k) lie) [
      | inr ne ↦ inr (k, inside, ne, holds)
      | inl e ↦
          let (j, within, at) = finds p k stands inside e in
          subst (λ (x : ℕ). Settles v words x lie) at
          (settled j (omega (arith, end)) (omega (arith, all, within)) v a untrue
          (subst (λ (x : ℕ). StandsAt words x) (sym at) stands))
    ]

-- the same of what a search returns, where it begins after the clauses were found
pub settled_since : (r : Result Bool Memory) (old mid new : Propagator) (clause : List ℕ) (lie : ℕ) → Narrows old mid
    → IfOk r (λ settled. IsTrue settled → (p : ℕ) → IsSettled mid new clause lie p)
    → IfOk r (λ settled. IsTrue settled → (p : ℕ) → IsSettled old new clause lie p)
settled_since (Err e) old mid new clause lie n h = h
settled_since (Ok b) old mid new clause lie n h = λ t p. settled_earlier old mid new clause lie p n (h t p)

-- the words are what they were, and nothing more is known
pub found_narrows : (old new : Propagator) → new.clauses.words.items ≡ old.clauses.words.items
    → ((l : ℕ) → IsKnown new.known.truths.items l → IsKnown old.known.truths.items l) → Narrows old new
found_narrows old new e fewer = record {
  same = subst (Shrinks old.clauses.words.items) (sym e) (shrinks_none old.clauses.words.items);
  fewer = fewer;
}
