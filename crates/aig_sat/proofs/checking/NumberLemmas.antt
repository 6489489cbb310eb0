-- The clauses with numbers, where one is added or deleted.
use Rattle.std.proofs.Common.{◌≡◌, ◌≢◌, ◌⊎◌, inl, inr, ℕ, zero, suc, ◌+◌, ◌-◌, ◌%◌, ◌<◌, ◌≤◌, Bool, true, false, List, [], ◌∷◌, ◌++◌}
use Rattle.std.proofs.Common.{length, get_or, set, take, drop, refl, sym, ap, subst, ◌∙◌, arith}
use Rattle.std.specs.Prelude.{Err, IsErrAnd, Ok, OnOk, Result, nat_eq}
use Rattle.std.proofs.lemmas.Bool.{and_from, and_parts, cases_eq, eq-eqb, false≢true, le-leb, leb-true}
use Rattle.std.proofs.lemmas.Bool.Decides.{nat_tests}
use Rattle.std.proofs.lemmas.List.{append-nil, ext_get_or, get_or-set_other}
use Rattle.std.proofs.lemmas.List.Folds.{list_any_at}
use Rattle.aig_sat.specs.declared.checker.checker.Checker.{Checker}
use Rattle.aig_sat.specs.declared.checker.clauses.Clauses.{Clauses}
use Rattle.aig_sat.specs.declared.checker.ids.Entry.{Entry}
use Rattle.aig_sat.specs.declared.checker.ids.Ids.{Ids}
use Rattle.aig_sat.specs.checker.Basis.{Basis, HasNumber, KeepsNumbers, TakesNumber, basis}
use Rattle.aig_sat.specs.checker.Distinct.{Has, HasAll, IsSameSet}
use Rattle.aig_sat.specs.checker.Entries.{Forgets, entry}
use Rattle.aig_sat.specs.checker.Hints.{IsNumbered}
use Rattle.aig_sat.specs.checker.Numbers.{KeepsClauses, is_numbered, numbered_at}
use Rattle.aig_sat.specs.checker.Words.{IsAdded, IsClauseAt, IsLaidOut, RemovesNamed, StandsAt}
use Rattle.aig_sat.specs.checker.Words.{size_at}
use Rattle.aig_sat.proofs.checking.ForgetLemmas.{in_from_has}
use Rattle.aig_sat.proofs.checking.HintLemmas.{item_at, numbered_else, sized}

-- two lists of words that agree on a clause
pub record AreSameAt (old new : List ℕ) (it : Entry) : Type 0 where
  pub is : is_numbered new it.id it.place ≡ true
  pub literals : take (size_at new it.place) (drop (it.place + 3) new) ≡ take (size_at old it.place) (drop (it.place + 3) old)

-- each clause that stands at an entry of the number is the same
abbrev pub KeepsEntries : List ℕ → List ℕ → ℕ → Type 0
KeepsEntries old new number = (it : Entry) → it.id ≡ number → is_numbered old it.id it.place ≡ true → AreSameAt old new it

-- the same words on the whole clause
pub same_at : (old new : List ℕ) → IsLaidOut old → IsLaidOut new → (it : Entry) → is_numbered old it.id it.place ≡ true
    → ((q : ℕ) → it.place ≤ q → q < it.place + (3 + size_at old it.place) → get_or new q 0 ≡ get_or old q 0)
    → AreSameAt old new it
same_at old new laid_old laid_new it was same =
    let p = it.place in
    let parts = and_parts _ _ was in
    let stands : StandsAt old p = leb-true 0x8000_0000 (get_or old p 0) parts.0 in
    let head : get_or new p 0 ≡ get_or old p 0 = same p (omega arith) (omega arith) in
    let number : get_or new (p + 1) 0 ≡ get_or old (p + 1) 0 = same (p + 1) (omega arith) (omega arith) in
    let still : StandsAt new p = omega (arith, head, stands) in
    record {
      is = and_from _ _ (le-leb 0x8000_0000 (get_or new p 0) still) (ap (λ (n : ℕ). nat_eq n it.id) number ∙ parts.1);
      literals = ext_get_or 0 _ _
          (sized new laid_new p still ∙ ap (λ (n : ℕ). n - 0x8000_0000) head ∙ sym (sized old laid_old p stands))
          (λ k inside.
          let within : k < size_at new p = omega (arith, inside, sized new laid_new p still) in
          let was_within : k < size_at old p = omega (arith, within, head) in
          item_at new laid_new p still k within
          ∙ same (p + (3 + k)) (omega arith) (omega (arith, was_within))
          ∙ sym (item_at old laid_old p stands k was_within));
    }

last_step : (new : List ℕ) (it : Entry) (others : List Entry) (number : ℕ) (clause : List ℕ)
    → IsNumbered (numbered_at new others) number clause → (b : Bool)
    → IsNumbered (numbered_else new it others b) number clause
last_step new it others number clause h true = inr h
last_step new it others number clause h false = h

kept_step : (old new : List ℕ) (it : Entry) (rest others : List Entry) (number : ℕ) (clause : List ℕ)
    → KeepsEntries old new number
    → (IsNumbered (numbered_at old rest) number clause → IsNumbered (numbered_at new others) number clause)
    → (b : Bool) → is_numbered old it.id it.place ≡ b → IsNumbered (numbered_else old it rest b) number clause
    → IsNumbered (numbered_else new it others (is_numbered new it.id it.place)) number clause
kept_step old new it rest others number clause keeps later true e (inl h) =
    let same = keeps it h.0 e in
    subst (λ (b : Bool). IsNumbered (numbered_else new it others b) number clause) (sym same.is) (inl (h.0, same.literals ∙ h.1))
kept_step old new it rest others number clause keeps later true e (inr h) =
    last_step new it others number clause (later h) (is_numbered new it.id it.place)
kept_step old new it rest others number clause keeps later false e h =
    last_step new it others number clause (later h) (is_numbered new it.id it.place)

-- what had a number has it, whatever entries come after
pub numbered_kept : (old new : List ℕ) (entries more : List Entry) (number : ℕ) (clause : List ℕ)
    → KeepsEntries old new number → IsNumbered (numbered_at old entries) number clause
    → IsNumbered (numbered_at new (entries ++ more)) number clause
numbered_kept old new [] more number clause keeps h = absurd h
numbered_kept old new (it ∷ rest) more number clause keeps h =
    kept_step old new it rest (rest ++ more) number clause keeps
    (numbered_kept old new rest more number clause keeps) (is_numbered old it.id it.place) refl h

-- the last entry's clause
pub numbered_last : (words : List ℕ) (entries : List Entry) (it : Entry) → is_numbered words it.id it.place ≡ true
    → IsNumbered (numbered_at words (entries ++ it ∷ [])) it.id (take (size_at words it.place) (drop (it.place + 3) words))
numbered_last words [] it e =
    subst (λ (b : Bool). IsNumbered (numbered_else words it [] b) it.id (take (size_at words it.place) (drop (it.place + 3) words)))
    (sym e) (inl (refl, refl))
numbered_last words (first ∷ rest) it e =
    last_step words first (rest ++ it ∷ []) it.id (take (size_at words it.place) (drop (it.place + 3) words))
    (numbered_last words rest it e) (is_numbered words first.id first.place)

-- the literals of a clause at its place
pub literals_are : (words : List ℕ) → IsLaidOut words → (p : ℕ) (literals : List ℕ) → IsClauseAt words p literals
    → take (size_at words p) (drop (p + 3) words) ≡ literals
literals_are words laid p literals at =
    ext_get_or 0 _ _ (sized words laid p at.stands ∙ sym at.size)
    (λ k inside.
    let within : k < size_at words p = omega (arith, inside, sized words laid p at.stands) in
    item_at words laid p at.stands k within ∙ sym (at.items k (omega (arith, within, at.size))))

-- ---- a clause that is added with the next number

mod_small : (n : ℕ) → n < 0x8000_0000 → n % 0x8000_0000 ≡ n
mod_small n small = grind arith

kept_before : (old new : List ℕ) → IsLaidOut old → IsLaidOut new
    → ((q : ℕ) → q < length old → get_or new q 0 ≡ get_or old q 0) → (number : ℕ) → KeepsEntries old new number
kept_before old new laid_old laid_new before number it named was =
    let stands : StandsAt old it.place = leb-true 0x8000_0000 (get_or old it.place 0) (and_parts _ _ was).0 in
    same_at old new laid_old laid_new it was (λ q from to. before q (omega (arith, to, (laid_old it.place stands).0)))

module _ (old new : List ℕ) (entries more : List Entry) (number place : ℕ) (literals : List ℕ) (laid_old : IsLaidOut old)
    (laid_new : IsLaidOut new) (added : IsAdded old number literals new place)
    (is_more : more ≡ entries ++ entry number place ∷ []) where
  pub add_keeps : (n : ℕ) (clause : List ℕ) → IsNumbered (numbered_at old entries) n clause
      → IsNumbered (numbered_at new more) n clause
  add_keeps n clause h =
      subst (λ (x : List Entry). IsNumbered (numbered_at new x) n clause) (sym is_more)
      (numbered_kept old new entries (entry number place ∷ []) n clause (kept_before old new laid_old laid_new added.before n) h)

  pub add_numbers : number < 0x8000_0000 → IsNumbered (numbered_at new more) number literals
  add_numbers small =
      let stands : 0x8000_0000 ≤ get_or new place 0 = added.clause.stands in
      let same : get_or new (place + 1) 0 ≡ number = added.number_is ∙ mod_small number small in
      subst (λ (x : List Entry). IsNumbered (numbered_at new x) number literals) (sym is_more)
      (subst (λ (x : List ℕ). IsNumbered (numbered_at new (entries ++ entry number place ∷ [])) number x)
      (literals_are new laid_new place literals added.clause)
      (numbered_last new entries (entry number place)
      (and_from _ _ (le-leb 0x8000_0000 (get_or new place 0) stands) (eq-eqb (get_or new (place + 1) 0) number same))))

-- ---- lists that have the literals of another one

pub has_at : (list : List ℕ) (k : ℕ) → k < length list → Has list (get_or list k 0)
has_at list k inside = list_any_at (nat_eq (get_or list k 0)) list k 0 inside (eq-eqb (get_or list k 0) (get_or list k 0) refl)

pub same_itself : (list : List ℕ) → IsSameSet list list
same_itself list = record { all = has_at list; only = has_at list }

has_then : (first second third : List ℕ) → HasAll first second → HasAll second third → HasAll first third
has_then first second third all more k inside =
    let (j, within, is) = in_from_has second (get_or third k 0) (more k inside) in
    subst (λ (x : ℕ). Has first x) is (all j within)

same_then : (first second third : List ℕ) → IsSameSet first second → IsSameSet second third → IsSameSet first third
same_then first second third same more = record {
  all = has_then first second third same.all more.all;
  only = has_then third second first more.only same.only;
}

-- no literal is in the empty clause
none_within : (list : List ℕ) → HasAll [] list → list ≡ []
none_within [] all = refl
none_within (l ∷ ls) all = absurd (false≢true (all 0 (omega arith)))

-- a list of the same literals as a clause stands for it
pub numbered_as : (list clause : List ℕ) (old new : Basis) → IsSameSet list clause → TakesNumber list old new
    → TakesNumber clause old new
numbered_as list clause old new same t = record {
  kept = t.kept;
  added = elim t.added [
    | inl conflict ↦ inl conflict
    | inr later ↦ inr (λ small.
        let (literals, has, is) = later small in (literals, same_then literals list clause has same, is))
  ];
  next = t.next;
  empty = λ none. t.empty (none_within list (subst (λ (x : List ℕ). HasAll x list) none same.only));
}

pub on_ok_then : {X E : Type 0} → (r : Result X E) (P Q : Type 0) → (P → Q) → OnOk r P → OnOk r Q
on_ok_then (Ok x) P Q next h = next h
on_ok_then (Err e) P Q next h = tt

-- ---- a clause that is deleted

set_step : (words : List ℕ) (it : Entry) (rest others : List Entry) (number : ℕ) (clause : List ℕ)
    → (IsNumbered (numbered_at words rest) number clause → IsNumbered (numbered_at words others) number clause) → (b : Bool)
    → IsNumbered (numbered_else words it rest b) number clause → IsNumbered (numbered_else words it others b) number clause
set_step words it rest others number clause later true (inl h) = inl h
set_step words it rest others number clause later true (inr h) = inr (later h)
set_step words it rest others number clause later false h = later h

-- an entry of another number is written
pub numbered_set : (words : List ℕ) (entries : List Entry) (k : ℕ) (was it : Entry) (other number : ℕ) (clause : List ℕ)
    → k < length entries → was ≡ get_or entries k was → was.id ≡ other → number ≢ other
    → IsNumbered (numbered_at words entries) number clause → IsNumbered (numbered_at words (set entries k it)) number clause
numbered_set words [] k was it other number clause inside is same ne h = absurd h
numbered_set words (first ∷ rest) zero was it other number clause inside is same ne h =
    last_step words it rest number clause (go (is_numbered words first.id first.place) h) (is_numbered words it.id it.place)
  where
    go : (b : Bool) → IsNumbered (numbered_else words first rest b) number clause → IsNumbered (numbered_at words rest) number clause
    go true (inl here) = absurd (ne (sym here.0 ∙ ap (λ (x : Entry). x.id) (sym is) ∙ same))
    go true (inr later) = later
    go false later = later
numbered_set words (first ∷ rest) (suc k) was it other number clause inside is same ne h =
    set_step words first rest (set rest k it) number clause
    (numbered_set words rest k was it other number clause (omega (arith, inside)) is same ne)
    (is_numbered words first.id first.place) h

-- the words of a clause of another number are without their head
pub kept_removed : (old new : List ℕ) (place other number : ℕ) → IsLaidOut old → IsLaidOut new → number ≢ other
    → get_or old (place + 1) 0 ≡ other → StandsAt old place → ((q : ℕ) → q ≢ place → get_or new q 0 ≡ get_or old q 0)
    → KeepsEntries old new number
kept_removed old new place other number laid_old laid_new ne is stands same it named was =
    let parts = and_parts _ _ was in
    let here : get_or old (it.place + 1) 0 ≡ it.id = number_told (get_or old (it.place + 1) 0) it.id parts.1 in
    let here_stands : StandsAt old it.place = leb-true 0x8000_0000 (get_or old it.place 0) parts.0 in
    let apart : it.place ≢ place = λ e. ne (sym named ∙ sym here ∙ ap (λ (p : ℕ). get_or old (p + 1) 0) e ∙ is) in
    same_at old new laid_old laid_new it was (λ q from to. same q (λ e. elim (cases_eq q it.place) [
      | inl at ↦ apart (sym at ∙ e)
      | inr off ↦ let small = (laid_old it.place here_stands).1 q (omega (arith, off, from)) (omega (arith, to)) in
          let here : get_or old q 0 ≡ get_or old place 0 = ap (λ (i : ℕ). get_or old i 0) e in absurd (omega (arith, small, stands, here))
    ]))
  where
    number_told : (a b : ℕ) → nat_eq a b ≡ true → a ≡ b
    number_told a b e = grind (arith, nat_tests)

removed_words : (old new : List ℕ) (entries : List Entry) (other place number : ℕ) (clause : List ℕ) → IsLaidOut old
    → IsLaidOut new → number ≢ other → RemovesNamed old place other new
    → IsNumbered (numbered_at old entries) number clause → IsNumbered (numbered_at new entries) number clause
removed_words old new entries other place number clause laid_old laid_new ne (inl same) h =
    subst (λ (x : List ℕ). IsNumbered (numbered_at x entries) number clause) (sym same) h
removed_words old new entries other place number clause laid_old laid_new ne (inr (stands, is, set_to)) h =
    subst (λ (x : List Entry). IsNumbered (numbered_at new x) number clause) (append-nil entries)
    (numbered_kept old new entries [] number clause
    (kept_removed old new place other number laid_old laid_new ne is stands
    (λ q off. ap (λ (xs : List ℕ). get_or xs q 0) set_to ∙ get_or-set_other old place q 0 0 off)) h)

removed_entries : (words : List ℕ) (entries more : List Entry) (other number : ℕ) (clause : List ℕ) → number ≢ other
    → Forgets entries other more → IsNumbered (numbered_at words entries) number clause
    → IsNumbered (numbered_at words more) number clause
removed_entries words entries more other number clause ne (inl same) h =
    subst (λ (x : List Entry). IsNumbered (numbered_at words x) number clause) (sym same) h
removed_entries words entries more other number clause ne (inr (k, was, it, inside, is, named, set_to)) h =
    subst (λ (x : List Entry). IsNumbered (numbered_at words x) number clause) (sym set_to)
    (numbered_set words entries k was it other number clause inside is named ne h)

pub others_kept : (old new : List ℕ) (entries more : List Entry) (other place number : ℕ) (clause : List ℕ) → IsLaidOut old
    → IsLaidOut new → number ≢ other → Forgets entries other more → RemovesNamed old place other new
    → IsNumbered (numbered_at old entries) number clause → IsNumbered (numbered_at new more) number clause
others_kept old new entries more other place number clause laid_old laid_new ne forgets removes h =
    removed_entries new entries more other number clause ne forgets
    (removed_words old new entries other place number clause laid_old laid_new ne removes h)

pub err_on_ok : {X E : Type 0} → (r : Result X E) (P : Type 0) (Q : E → Type 0) → IsErrAnd r Q → OnOk r P
err_on_ok (Ok x) P Q h = absurd h
err_on_ok (Err e) P Q h = tt

pub numbers_from : (old mid : Checker) (new : Basis) → KeepsClauses old.propagator mid.propagator
    → mid.refuted ≡ old.refuted → mid.is_hinted ≡ old.is_hinted → KeepsNumbers (basis mid) new → KeepsNumbers (basis old) new
numbers_from old mid new stays same hinted keeps = record {
  hinted = keeps.hinted ∙ hinted;
  variables = omega (arith, keeps.variables, stays.variables);
  refuted = λ conflict. keeps.refuted (same ∙ conflict);
  others = λ n it ne h.
      keeps.others n it ne
      (subst (λ (x : Clauses). IsNumbered (numbered_at x.words.items mid.propagator.ids.entries.items) n it) (sym stays.clauses)
      (subst (λ (x : Ids). IsNumbered (numbered_at old.propagator.clauses.words.items x.entries.items) n it) (sym stays.ids) h));
}

pub takes_from : (old mid : Checker) (new : Basis) (clause : List ℕ) → KeepsClauses old.propagator mid.propagator
    → mid.refuted ≡ old.refuted → mid.is_hinted ≡ old.is_hinted → mid.next ≡ old.next → TakesNumber clause (basis mid) new
    → TakesNumber clause (basis old) new
takes_from old mid new clause stays same hinted next t = record {
  kept = numbers_from old mid new stays same hinted t.kept;
  added = subst (λ (x : ℕ). (new.is_refuted ≡ true) ⊎ (x < 0x8000_0000 → HasNumber new x clause)) next t.added;
  next = subst (λ (x : ℕ). (new.is_refuted ≡ true) ⊎ (x < 0x8000_0000 → new.next ≡ x + 1)) next t.next;
  empty = t.empty;
}

pub numbered_same : (old new : List ℕ) (ids more : Ids) (number : ℕ) (clause : List ℕ) → new ≡ old → more ≡ ids
    → IsNumbered (numbered_at old ids.entries.items) number clause → IsNumbered (numbered_at new more.entries.items) number clause
numbered_same old new ids more number clause words same h =
    subst (λ (x : List ℕ). IsNumbered (numbered_at x more.entries.items) number clause) (sym words)
    (subst (λ (x : Ids). IsNumbered (numbered_at old x.entries.items) number clause) (sym same) h)

pub keeps_then : (old mid new : Basis) → KeepsNumbers old mid → KeepsNumbers mid new → KeepsNumbers old new
keeps_then old mid new first second = record {
  hinted = second.hinted ∙ first.hinted;
  variables = omega (arith, first.variables, second.variables);
  refuted = λ conflict. second.refuted (first.refuted conflict);
  others = λ n it ne h. second.others n it ne (first.others n it ne h);
}
