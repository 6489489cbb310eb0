-- A walk along hints.
use Rattle.std.proofs.Common.{◌≡◌, ◌≢◌, ◌⊎◌, inl, inr, ℕ, zero, suc, ◌+◌, ◌-◌, ◌<◌, ◌/◌, ◌%◌, Bool, true, false, List, []}
use Rattle.std.proofs.Common.{◌∷◌, length, get_or, set, take, drop, map, refl, sym, ap, subst, ◌∙◌, arith}
use Rattle.std.specs.Prelude.{Err, IfOk, IfSome, IsErrAnd, IsTrue, None, Ok, Option, Result, Some, slice_get, nat_le, nat_eq, ◌&&◌}
use Rattle.std.specs.Prelude.{if◌then◌else◌}
use Rattle.std.proofs.lemmas.Bool.{and_parts, cases_eq, cases_lt, false≢true, leb-true}
use Rattle.std.proofs.lemmas.List.{get_or-drop, get_or-map, get_or_past, get_or-set_same, get_or-set_other, get_or-take}
use Rattle.std.proofs.lemmas.List.{length-drop, length-map, length-set, length-take-le}
use Rattle.aig_bytes.specs.declared.fault.Memory.{Memory}
use Rattle.aig_parts.specs.Literal.{IsEven, negation, variable}
use Rattle.aig_sat.specs.declared.checker.ids.Entry.{Entry}
use Rattle.aig_sat.specs.declared.checker.known.Known.{Known}
use Rattle.aig_sat.specs.declared.checker.known.Left.{Left}
use Rattle.aig_sat.specs.declared.checker.known.Left.TheVariants.{Nothing, One, More}
use Rattle.aig_sat.specs.declared.checker.propagator.Propagator.{Propagator}
use Rattle.aig_sat.specs.checker.Entries.{IsPlaceOf}
use Rattle.aig_sat.specs.checker.Hints.{IsFalseBut, IsNumbered, IsShown, Numbered, Shows}
use Rattle.aig_sat.specs.checker.Knowledge.{AreFalseBut, IsIn, IsKnown, Takes}
use Rattle.aig_sat.specs.checker.Numbers.{AreKnown, IsKnownBut, Leaves, Walks, is_numbered, numbered, numbered_at, variables}
use Rattle.aig_sat.specs.checker.Words.{AreNamed, IsClauseAt, IsLaidOut, StandsAt, literal_at, size_at}
use Rattle.aig_sat.proofs.checking.TruthLemmas.{signs}

-- ---- what a walk keeps

taken_more : (literal : ℕ) (old new : Known) → Takes literal old new → (l : ℕ) → IsKnown old.truths.items l
    → IsKnown new.truths.items l
taken_more literal old new (inl t) l h = ap (λ xs. get_or xs l false) t.0 ∙ h
taken_more literal old new (inr t) l h = elim (cases_eq l literal) [
  | inr ne ↦ ap (λ xs. get_or xs l false) t.0 ∙ get_or-set_other old.truths.items literal l true false ne ∙ h
  | inl e ↦ elim (cases_lt literal (length old.truths.items)) [
    | inl lt ↦ ap (λ xs. get_or xs l false) t.0 ∙ ap (λ i. get_or (set old.truths.items literal true) i false) e
        ∙ get_or-set_same old.truths.items literal true false lt
    | inr ge ↦ absurd (false≢true (sym (get_or_past old.truths.items l false (omega (arith, e, ge))) ∙ h))
  ]
]

taken_len : (literal : ℕ) (old new : Known) → Takes literal old new
    → length new.truths.items ≡ length old.truths.items
taken_len literal old new (inl t) = ap length t.0
taken_len literal old new (inr t) = ap length t.0 ∙ length-set old.truths.items literal true

pub walks_by : (literal : ℕ) (old new : Propagator) → new.clauses ≡ old.clauses → new.ids ≡ old.ids
    → Takes literal old.known new.known → Walks old new
walks_by literal old new clauses ids t = record {
  clauses = clauses;
  ids = ids;
  variables = taken_len literal old.known new.known t;
  known = taken_more literal old.known new.known t;
}

pub walks_then : (old mid new : Propagator) → Walks old mid → Walks mid new → Walks old new
walks_then old mid new first second = record {
  clauses = second.clauses ∙ first.clauses;
  ids = second.ids ∙ first.ids;
  variables = second.variables ∙ first.variables;
  known = λ l h. second.known l (first.known l h);
}

-- ---- a clause that is looked at

one_of : Left → ℕ
one_of Nothing = 0
one_of (One l) = l
one_of More = 0

is_one : Left → Bool
is_one Nothing = false
is_one (One l) = true
is_one More = false

is_more : Left → Bool
is_more Nothing = false
is_more (One l) = false
is_more More = true

but_at : (words : List ℕ) (truths : List Bool) (p k : ℕ) (literals : List ℕ) → IsClauseAt words p literals
    → IsKnownBut words truths p k → AreFalseBut truths literals k
but_at words truths p k literals at but j inside ne =
    subst (λ (x : ℕ). IsKnown truths (negation x)) (sym (at.items j inside)) (but j (omega (arith, at.size, inside)) ne)

-- what `left` says of a clause
abbrev pub SaysLeft : List Bool → List ℕ → Left → Type 0
SaysLeft truths literals left =
    (k : ℕ) → AreFalseBut truths literals k → (left ≡ Nothing) ⊎ ((k < length literals) × (left ≡ One (get_or literals k 0)))

pub left_one : (words : List ℕ) (truths now : List Bool) (p : ℕ) (literals : List ℕ) (left : Left) (l : ℕ)
    → IsClauseAt words p literals → SaysLeft truths literals left → left ≡ One l → (l < length truths → IsKnown now l)
    → (k : ℕ) → IsKnownBut words truths p k → (k < size_at words p)
    × (literal_at words p k < length truths → IsKnown now (literal_at words p k))
unfolding is_one one_of
left_one words truths now p literals left l at says is takes k but = elim (says k (but_at words truths p k literals at but)) [
  | inl none ↦ absurd (false≢true (sym (ap is_one none) ∙ ap is_one is))
  | inr (inside, one) ↦
      let same : l ≡ literal_at words p k = ap one_of (sym is ∙ one) ∙ at.items k inside in
      (omega (arith, at.size, inside), subst (λ (x : ℕ). x < length truths → IsKnown now x) same takes)
]

pub left_more : (words : List ℕ) (truths : List Bool) (p : ℕ) (literals : List ℕ) (left : Left)
    → IsClauseAt words p literals → SaysLeft truths literals left → left ≡ More → (k : ℕ) → IsKnownBut words truths p k → ⊥
unfolding is_more
left_more words truths p literals left at says is k but = elim (says k (but_at words truths p k literals at but)) [
  | inl none ↦ false≢true (sym (ap is_more none) ∙ ap is_more is)
  | inr (inside, one) ↦ false≢true (sym (ap is_more one) ∙ ap is_more is)
]

-- ---- the clause of a number

-- an entry has the number, and its clause stands
pub record HasEntry (words : List ℕ) (entries : List Entry) (number : ℕ) (clause : List ℕ) : Type 0 where
  pub k : ℕ
  pub entry : Entry
  pub at : slice_get entries k ≡ Some entry
  pub number_is : entry.id ≡ number
  pub stands : is_numbered words entry.id entry.place ≡ true
  pub clause_is : take (size_at words entry.place) (drop (entry.place + 3) words) ≡ clause

entry_after : (words : List ℕ) (it : Entry) (rest : List Entry) (number : ℕ) (clause : List ℕ)
    → HasEntry words rest number clause → HasEntry words (it ∷ rest) number clause
entry_after words it rest number clause h = record {
  k = suc h.k;
  entry = h.entry;
  at = h.at;
  number_is = h.number_is;
  stands = h.stands;
  clause_is = h.clause_is;
}

abbrev pub numbered_else : List ℕ → Entry → List Entry → Bool → List Numbered
numbered_else words it rest b =
    if b
    then record { number = it.id; literals = take (size_at words it.place) (drop (it.place + 3) words) } ∷ numbered_at words rest
    else numbered_at words rest

entry_step : (words : List ℕ) (it : Entry) (rest : List Entry) (number : ℕ) (clause : List ℕ)
    → (IsNumbered (numbered_at words rest) number clause → HasEntry words rest number clause) → (b : Bool)
    → is_numbered words it.id it.place ≡ b → IsNumbered (numbered_else words it rest b) number clause
    → HasEntry words (it ∷ rest) number clause
entry_step words it rest number clause later true e (inl is) = record {
  k = 0;
  entry = it;
  at = refl;
  number_is = is.0;
  stands = e;
  clause_is = is.1;
}
entry_step words it rest number clause later true e (inr h) = entry_after words it rest number clause (later h)
entry_step words it rest number clause later false e h = entry_after words it rest number clause (later h)

pub entry_of : (words : List ℕ) (entries : List Entry) (number : ℕ) (clause : List ℕ)
    → IsNumbered (numbered_at words entries) number clause → HasEntry words entries number clause
entry_of words [] number clause h = absurd h
entry_of words (it ∷ rest) number clause h =
    entry_step words it rest number clause (entry_of words rest number clause) (is_numbered words it.id it.place) refl h

-- its literals are those at its place
module _ (words : List ℕ) (laid : IsLaidOut words) (p : ℕ) (stands : StandsAt words p) where
  pub sized : length (take (size_at words p) (drop (p + 3) words)) ≡ size_at words p
  sized =
      length-take-le (size_at words p) (drop (p + 3) words)
      (let e : length (drop (p + 3) words) ≡ length words - (p + 3) = length-drop (p + 3) words in omega (arith, e, (laid p stands).0))

  pub item_at : (k : ℕ) → k < size_at words p
      → get_or (take (size_at words p) (drop (p + 3) words)) k 0 ≡ literal_at words p k
  item_at k inside =
      get_or-take (size_at words p) (drop (p + 3) words) k 0 inside ∙ get_or-drop (p + 3) words k 0
      ∙ ap (λ (i : ℕ). get_or words i 0) (omega arith)

-- ---- the literals that are true

known_first : (truths : List Bool) (l : ℕ) (list : List ℕ) → IsKnown truths l → AreKnown truths list
    → AreKnown truths (l ∷ list)
known_first truths l list first rest m (zero, inside, is) = subst (λ (x : ℕ). IsKnown truths x) is first
known_first truths l list first rest m (suc k, inside, is) = rest m (k, omega (arith, inside), is)

known_then : (old new : Propagator) → Walks old new → (list : List ℕ) → AreKnown old.known.truths.items list
    → AreKnown new.known.truths.items list
known_then old new w list all l h = w.known l (all l h)

-- ---- one hint after the other

-- what is left to show after some hints
pub record IsLeftToShow (first mid : Propagator) (hints : List ℕ) : Type 0 where
  pub truths : List ℕ
  pub known : AreKnown mid.known.truths.items truths
  pub shows : Shows (numbered first) (variables first) mid.looks truths hints

-- what a look at a hint's clause says
pub record IsLooked (mid new : Propagator) (place : ℕ) : Type 0 where
  pub walks : Walks mid new
  pub looks : StandsAt mid.clauses.words.items place
      → new.looks ≡ mid.looks - (1 + size_at mid.clauses.words.items place)
  pub left : (k : ℕ) → StandsAt mid.clauses.words.items place
      → IsKnownBut mid.clauses.words.items mid.known.truths.items place k → Leaves mid new place k false

module _ (first mid new : Propagator) (walked : Walks first mid) (hint : ℕ) (hints : List ℕ) (place : ℕ)
    (found : IsPlaceOf mid.ids.entries.items (variable hint + 1) place) (looked : IsLooked mid new place) where
  -- the clause of the hint
  abbrev words : List ℕ
  words = mid.clauses.words.items

  entry_here : (clause : List ℕ) → IsNumbered (numbered first) (variable hint + 1) clause
      → HasEntry mid.clauses.words.items mid.ids.entries.items (variable hint + 1) clause
  entry_here clause h =
      entry_of mid.clauses.words.items mid.ids.entries.items (variable hint + 1) clause
      (subst (λ (x : List ℕ). IsNumbered (numbered_at x mid.ids.entries.items) (variable hint + 1) clause)
      (ap (λ x. x.words.items) (sym walked.clauses))
      (subst (λ (x : List Entry). IsNumbered (numbered_at first.clauses.words.items x) (variable hint + 1) clause)
      (ap (λ x. x.entries.items) (sym walked.ids)) h))

  record IsHere (clause : List ℕ) : Type 0 where
    pub stands : StandsAt mid.clauses.words.items place
    pub clause_is : take (size_at mid.clauses.words.items place) (drop (place + 3) mid.clauses.words.items) ≡ clause

  here : (clause : List ℕ) → IsNumbered (numbered first) (variable hint + 1) clause → IsHere clause
  here clause h =
      let e = entry_here clause h in
      let same : e.entry.place ≡ place = sym (found e.k e.entry e.at e.number_is) in
      record {
        stands = subst (λ (x : ℕ). StandsAt mid.clauses.words.items x) same
            (leb-true 0x8000_0000 (get_or mid.clauses.words.items e.entry.place 0) (and_parts _ _ e.stands).0);
        clause_is = subst (λ (x : ℕ). take (size_at mid.clauses.words.items x) (drop (x + 3) mid.clauses.words.items) ≡ clause)
            same e.clause_is;
      }

  but_here : (clause truths : List ℕ) → IsHere clause → AreKnown mid.known.truths.items truths → (k : ℕ)
      → IsFalseBut truths clause k → IsKnownBut mid.clauses.words.items mid.known.truths.items place k
  but_here clause truths at known k but j inside ne =
      let laid = mid.clauses.laid_out in
      let size = sized mid.clauses.words.items laid place at.stands in
      let item : get_or clause j 0 ≡ literal_at mid.clauses.words.items place j =
      ap (λ (xs : List ℕ). get_or xs j 0) (sym at.clause_is) ∙ item_at mid.clauses.words.items laid place at.stands j inside in
      let long : length clause ≡ size_at mid.clauses.words.items place = ap length (sym at.clause_is) ∙ size in
      subst (λ (x : ℕ). IsKnown mid.known.truths.items (negation x)) item
      (known (negation (get_or clause j 0)) (but j (omega (arith, long, inside)) ne))

  pub walk_on : IsLeftToShow first mid (hint ∷ hints) → IsLeftToShow first new hints
  walk_on before =
      let (clause, some, even, is, cases) = before.shows in
      let at = here clause is in
      let laid = mid.clauses.laid_out in
      let size = sized mid.clauses.words.items laid place at.stands in
      let long : length clause ≡ size_at mid.clauses.words.items place = ap length (sym at.clause_is) ∙ size in
      elim cases [
        | inl all ↦ elim (looked.left (length clause) at.stands (but_here clause before.truths at before.known (length clause) all)) [
          | inl conflict ↦ absurd (false≢true conflict)
          | inr (inside, _) ↦ absurd (omega (arith, inside, long))
        ]
        | inr (k, k_in, small, but, rest) ↦ elim (looked.left k at.stands (but_here clause before.truths at before.known k but)) [
          | inl conflict ↦ absurd (false≢true conflict)
          | inr (inside, takes) ↦
              let item : get_or clause k 0 ≡ literal_at mid.clauses.words.items place k =
              ap (λ (xs : List ℕ). get_or xs k 0) (sym at.clause_is)
              ∙ item_at mid.clauses.words.items laid place at.stands k inside in
              let known : IsKnown new.known.truths.items (get_or clause k 0) =
              subst (λ (x : ℕ). x < length mid.known.truths.items → IsKnown new.known.truths.items x) (sym item) takes
              (omega (arith, small, walked.variables)) in
              record {
                truths = get_or clause k 0 ∷ before.truths;
                known = known_first new.known.truths.items (get_or clause k 0) before.truths known
                    (known_then mid new looked.walks before.truths before.known);
                shows = subst (λ (x : ℕ). Shows (numbered first) (variables first) x (get_or clause k 0 ∷ before.truths) hints)
                    (ap (λ (n : ℕ). mid.looks - (1 + n)) long ∙ sym (looked.looks at.stands)) rest;
              }
        ]
      ]

pub found_for : (entries : List Entry) (number other place : ℕ) → other ≡ number → IsPlaceOf entries other place
    → IsPlaceOf entries number place
found_for entries number other place same found k it at is = found k it at (is ∙ sym same)

pub looked_by : (mid new : Propagator) (place : ℕ) (conflict : Bool) → Walks mid new
    → (StandsAt mid.clauses.words.items place → new.looks ≡ mid.looks - (1 + size_at mid.clauses.words.items place))
    → ((k : ℕ) → StandsAt mid.clauses.words.items place
    → IsKnownBut mid.clauses.words.items mid.known.truths.items place k → Leaves mid new place k conflict)
    → conflict ≡ false → IsLooked mid new place
looked_by mid new place conflict walks looks left none = record {
  walks = walks;
  looks = looks;
  left = λ k stands but. subst (λ (b : Bool). Leaves mid new place k b) none (left k stands but);
}

-- ---- the literals of a clause that are assumed to be false

-- the first n are known to be false, if the clause's variables are there
abbrev pub AreAssumed : Propagator → List Bool → List ℕ → ℕ → Type 0
AreAssumed old truths clause n = AreNamed clause (variables old) → (k : ℕ) → k < n → k < length clause
    → IsKnown truths (negation (get_or clause k 0))

negation_small : (l n : ℕ) → variable l < n / 2 → negation l < n
negation_small l n small = elim (signs l) [
  | inl even ↦ let is : negation l ≡ l + 1 = rw even refl in grind arith
  | inr odd ↦ let is : negation l ≡ l - 1 = rw odd refl in grind arith
]

pub assumed_more : (old mid : Propagator) (new : Known) (clause : List ℕ) (n literal : ℕ) → n < length clause
    → literal ≡ negation (get_or clause n 0) → Walks old mid → Takes literal mid.known new
    → AreAssumed old mid.known.truths.items clause n
    → (literal < length mid.known.truths.items → IsKnown new.truths.items literal)
    → AreAssumed old new.truths.items clause (n + 1)
assumed_more old mid new clause n literal inside is walks taken before takes named k below within = elim (cases_eq k n) [
  | inr ne ↦ taken_more literal mid.known new taken (negation (get_or clause k 0)) (before named k (omega (arith, ne, below)) within)
  | inl e ↦
      let small : negation (get_or clause n 0) < length old.known.truths.items =
      negation_small (get_or clause n 0) (length old.known.truths.items) (named n inside) in
      subst (λ (x : ℕ). IsKnown new.truths.items (negation (get_or clause x 0))) (sym e)
      (subst (λ (x : ℕ). IsKnown new.truths.items x) is (takes (omega (arith, small, is, walks.variables))))
]

pub all_assumed : (old : Propagator) (truths : List Bool) (clause : List ℕ) (n : ℕ) → n ≡ length clause
    → AreAssumed old truths clause n → AreNamed clause (variables old) → AreKnown truths (map negation clause)
all_assumed old truths clause n end assumed named l (k, inside, is) =
    let within : k < length clause = omega (arith, inside, length-map clause negation) in
    subst (λ (x : ℕ). IsKnown truths x) (sym (get_or-map negation clause k 0 0 within) ∙ is)
    (assumed named k (omega (arith, within, end)) within)

-- ---- what hints show where the clauses and numbers are the same

pub shows_moved : (old mid : Propagator) (looks : ℕ) (truths hints : List ℕ) → Walks old mid
    → Shows (numbered old) (variables old) looks truths hints → Shows (numbered mid) (variables mid) looks truths hints
shows_moved old mid looks truths hints w h =
    subst (λ (x : ℕ). Shows (numbered mid) x looks truths hints) (ap (λ n. n / 2) (sym w.variables))
    (subst (λ (x : List ℕ). Shows (numbered_at x mid.ids.entries.items) (variables old) looks truths hints)
    (ap (λ x. x.words.items) (sym w.clauses))
    (subst (λ (x : List Entry). Shows (numbered_at old.clauses.words.items x) (variables old) looks truths hints)
    (ap (λ x. x.entries.items) (sym w.ids)) h))

pub tried : (old mid : Propagator) (conflict : Bool) (clause hints : List ℕ) (r : Result Bool Memory) → Walks old mid
    → mid.looks ≡ old.looks → (AreNamed clause (variables old)
    → conflict ≡ false → AreKnown mid.known.truths.items (map negation clause)) → conflict ≡ false
    → ((truths : List ℕ) → AreKnown mid.known.truths.items truths
    → Shows (numbered mid) (variables mid) mid.looks truths hints → IfOk r IsTrue)
    → IsShown (numbered old) (variables old) old.looks clause hints → IfOk r IsTrue
tried old mid conflict clause hints r w looks assumed none walked (named, shows) =
    walked (map negation clause) (assumed named none)
    (subst (λ (x : ℕ). Shows (numbered mid) (variables mid) x (map negation clause) hints) (sym looks)
    (shows_moved old mid old.looks (map negation clause) hints w shows))

-- ---- hints that there may be

pub if_some : {H : Type 0} → (hints : Option H) (P : H → Type 0) → ((h : H) → P h) → IfSome hints P
if_some None P all = tt
if_some (Some h) P all = all h

pub if_some_then : {H : Type 0} → (hints : Option H) (P Q : H → Type 0) → ((h : H) → P h → Q h) → IfSome hints P
    → IfSome hints Q
if_some_then None P Q next h = h
if_some_then (Some it) P Q next h = next it h

-- what did not end well promises nothing of its result
pub err_any : {B F : Type 0} → (r : Result B F) (P : B → Type 0) (Q : F → Type 0) → IsErrAnd r Q → IfOk r P
err_any (Ok x) P Q h = absurd h
err_any (Err f) P Q h = tt
