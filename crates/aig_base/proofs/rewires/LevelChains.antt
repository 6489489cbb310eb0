-- Chains of waiting variables, one for each level, and their entries.
use Rattle.std.proofs.Common.{◌≡◌, ◌≢◌, ◌⊎◌, inl, inr, ℕ, zero, suc, ◌+◌, ◌-◌, ◌^◌, ◌<◌, ◌≤◌, List, [], ◌∷◌, ◌++◌}
use Rattle.std.proofs.Common.{length, map, get_or, set, replicate, All, Contains, IsPermutation}
use Rattle.std.proofs.Common.{refl, sym, ap, ◌∙◌, subst, arith, get_or-set_other, get_or-set_same, length-set}
use Rattle.std.specs.List.{range_with_len}
use Rattle.std.proofs.lemmas.Bool.{cases_eq, cases_lt}
use Rattle.std.proofs.lemmas.List.{get_or_past}
use Rattle.std.proofs.lemmas.List.Elements.{All-append, Contains-append_left, Contains-append_right}
use Rattle.std.proofs.lemmas.List.FromFn.{length-range_with_len, get_or-range_with_len}
use Rattle.std.proofs.lemmas.List.Sorted.{IsPermutation-append_right, IsPermutation-middle, IsPermutation-refl}
use Rattle.std.proofs.lemmas.List.Sorted.{IsPermutation-sym, IsPermutation-trans, length_permutation}
use Rattle.aig_base.specs.Sound.{StandsTwice}
use Rattle.aig_base.specs.state.Queue.{AreLevelChains, IsChain, IsEmpty, IsEmptyBelow, IsQueued, chain, chain_of}
use Rattle.aig_base.specs.state.Queue.{chained_entries, entries_below, entry}
use Rattle.aig_base.proofs.levels.LevelBound.{once_cons}
use Rattle.aig_base.proofs.lists.Counting.{length_le}
use Rattle.aig_base.proofs.lists.Gets.{Contains-from_get}
use Rattle.aig_base.proofs.lists.Positions.{Contains-cons, no_element}
use Rattle.aig_base.proofs.rewires.LevelSteps.{queued_from_entry}

in_tail : (x : ℕ) (xs : List ℕ) (y : ℕ) → Contains xs y → Contains (x ∷ xs) y
in_tail x xs y (k, lt, is) = (suc k, omega arith, is)

-- a chain that begins with 0 is empty
chain_none : (n : ℕ) (next : List ℕ) (at : ℕ) → at ≡ 0 → chain n next at ≡ []
chain_none zero next at e = refl
chain_none (suc n) next zero e = refl
chain_none (suc n) next (suc v) e = absurd (omega arith)

-- the numbers of a chain, where so many are enough
chain_is : (n : ℕ) (next : List ℕ) (at : ℕ) (xs : List ℕ) → IsChain next at xs → length xs ≤ n → chain n next at ≡ xs
chain_is n next at [] c le = chain_none n next at c
chain_is zero next at (x ∷ xs) c le = absurd (omega arith)
chain_is (suc n) next zero (x ∷ xs) c le = absurd (omega (arith, c.0, c.1))
chain_is (suc n) next (suc v) (x ∷ xs) c le =
    let rest : chain n next (get_or next (suc v) 0) ≡ xs =
    chain_is n next (get_or next (suc v) 0) xs (subst (λ y. IsChain next (get_or next y 0) xs) (sym c.0) c.4)
    (omega arith) in
    ap (λ ys. suc v ∷ ys) rest ∙ ap (λ y. y ∷ xs) c.0

chain_once : (next : List ℕ) (at : ℕ) (xs : List ℕ) → IsChain next at xs → (x : ℕ) → StandsTwice xs x → ⊥
chain_once next at [] c x (i, j, lt, a, b) = no_element x (Contains-from_get [] i x a)
chain_once next at (y ∷ xs) c x twice =
    once_cons y xs c.3 (chain_once next (get_or next y 0) xs c.4) x twice

chain_within : (next : List ℕ) (at : ℕ) (xs : List ℕ) → IsChain next at xs → (u : ℕ) → Contains xs u → u < length next
chain_within next at [] c u k = absurd (no_element u k)
chain_within next at (x ∷ xs) c u k = elim (Contains-cons x xs u k) [
  | inl e ↦ omega (arith, c.2)
  | inr i ↦ chain_within next (get_or next x 0) xs c.4 u i
]

-- a chain has at most all numbers
chain_fits : (next : List ℕ) (at : ℕ) (xs : List ℕ) → IsChain next at xs → length xs ≤ length next
chain_fits next at xs c =
    let all = range_with_len 0 (length next) in
    let size = length-range_with_len 0 (length next) in
    let le = length_le xs all (chain_once next at xs c) (λ u k. (
      u,
      (let lt = chain_within next at xs c u k in omega arith),
      get_or-range_with_len 0 (length next) u u (chain_within next at xs c u k) ∙ omega arith,
    )) in
    omega arith

-- the chain stays where a number that is not in it gets another next one
chain_kept : (next : List ℕ) (v y at : ℕ) (xs : List ℕ) → (Contains xs v → ⊥) → IsChain next at xs
    → IsChain (set next v y) at xs
chain_kept next v y at [] out c = c
chain_kept next v y at (x ∷ xs) out c =
    let other : x ≢ v = λ e. out (0, omega arith, e) in
    let e : get_or (set next v y) x 0 ≡ get_or next x 0 = get_or-set_other next v x y 0 other in
    let size = length-set next v y in (
      c.0,
      c.1,
      omega (arith, c.2),
      c.3,
      rw e (chain_kept next v y (get_or next x 0) xs (λ k. out (in_tail x xs v k)) c.4),
    )

-- and where more zeros follow
chain_longer : (next more : List ℕ) → ((l : ℕ) → get_or more l 0 ≡ get_or next l 0) → length next ≤ length more
    → (at : ℕ) (xs : List ℕ) → IsChain next at xs → IsChain more at xs
chain_longer next more same le at [] c = c
chain_longer next more same le at (x ∷ xs) c = (
  c.0,
  c.1,
  omega (arith, c.2),
  c.3,
  rw (same x) (chain_longer next more same le (get_or next x 0) xs c.4),
)

-- what the chain is that begins with a variable
record Begins (next : List ℕ) (at : ℕ) (xs : List ℕ) : Type 0 where
  rest : List ℕ
  is : xs ≡ at ∷ rest
  inside : at < length next
  leads : IsChain next (get_or next at 0) rest

begun : (next : List ℕ) (at : ℕ) (xs : List ℕ) → IsChain next at xs → at ≢ 0 → Begins next at xs
begun next at [] c ne = absurd (ne c)
begun next at (x ∷ xs) c ne = record {
  rest = xs;
  is = ap (λ z. z ∷ xs) (sym c.0);
  inside = omega (arith, c.0, c.2);
  leads = rw c.0 c.4;
}

-- the same chains have the same entries
entries_same : (f g : ℕ → List ℕ) (k : ℕ) → ((l : ℕ) → l < k → f l ≡ g l) → entries_below f k ≡ entries_below g k
entries_same f g zero same = refl
entries_same f g (suc k) same =
    ap (λ (xs : List ℕ). map (entry k) xs ++ entries_below f k) (same k (omega arith))
    ∙ ap (λ (es : List (ℕ × ℕ)). map (entry k) (g k) ++ es) (entries_same f g k (λ l lt. same l (omega arith)))

entries_none : (f : ℕ → List ℕ) (k : ℕ) → ((l : ℕ) → f l ≡ []) → entries_below f k ≡ []
entries_none f zero none = refl
entries_none f (suc k) none =
    ap (λ (xs : List ℕ). map (entry k) xs ++ entries_below f k) (none k) ∙ entries_none f k none

-- levels without a chain have no entries
entries_above : (f : ℕ → List ℕ) (k n : ℕ) → k ≤ n → ((l : ℕ) → k ≤ l → f l ≡ []) → entries_below f n ≡ entries_below f k
entries_above f k zero le none = (let e : 0 ≡ k = omega arith in ap (λ m. entries_below f m) e)
entries_above f k (suc n) le none = elim (cases_eq (suc n) k) [
  | inl e ↦ ap (λ m. entries_below f m) e
  | inr ne ↦
      ap (λ (xs : List ℕ). map (entry n) xs ++ entries_below f n) (none n (omega arith))
      ∙ entries_above f k n (omega arith) none
]

in_mapped : (l : ℕ) (xs : List ℕ) (v : ℕ) → Contains xs v → Contains (map (entry l) xs) (entry l v)
in_mapped l [] v h = absurd (no_element v h)
in_mapped l (x ∷ xs) v h = elim (Contains-cons x xs v h) [
  | inl e ↦ (0, omega arith, ap (entry l) (sym e))
  | inr k ↦ (let (i, lt, is) = in_mapped l xs v k in (suc i, omega arith, is))
]

-- a variable of a chain has an entry
entry_of : (f : ℕ → List ℕ) (k l v : ℕ) → l < k → Contains (f l) v → Contains (entries_below f k) (entry l v)
entry_of f zero l v lt h = absurd (omega arith)
entry_of f (suc k) l v lt h = elim (cases_eq l k) [
  | inl e ↦
      Contains-append_left (map (entry k) (f k)) (entries_below f k) (entry l v)
      (subst (λ n. Contains (map (entry n) (f n)) (entry l v)) e (in_mapped l (f l) v h))
  | inr ne ↦
      Contains-append_right (map (entry k) (f k)) (entries_below f k) (entry l v) (entry_of f k l v (omega arith) h)
]

all_mapped : (l rank : ℕ) (xs : List ℕ) → 2 ^ 32 - 1 - l ≤ rank → All (λ (e : ℕ × ℕ). e.0 ≤ rank) (map (entry l) xs)
all_mapped l rank [] le k d lt = absurd (omega arith)
all_mapped l rank (x ∷ xs) le zero d lt = le
all_mapped l rank (x ∷ xs) le (suc k) d lt = all_mapped l rank xs le k d (omega arith)

-- the ranks of entries, where all levels with a chain have such a rank
all_ranks : (f : ℕ → List ℕ) (rank k : ℕ) → ((l : ℕ) → (f l ≡ []) ⊎ (2 ^ 32 - 1 - l ≤ rank))
    → All (λ (e : ℕ × ℕ). e.0 ≤ rank) (entries_below f k)
all_ranks f rank zero each = λ i d lt. absurd (omega arith)
all_ranks f rank (suc k) each =
    All-append (λ (e : ℕ × ℕ). e.0 ≤ rank) (map (entry k) (f k)) (entries_below f k) (elim (each k) [
      | inl e ↦ subst (λ (xs : List ℕ). All (λ (x : ℕ × ℕ). x.0 ≤ rank) (map (entry k) xs)) (sym e) (λ i d lt. absurd (omega arith))
      | inr le ↦ all_mapped k rank (f k) le
    ])
    (all_ranks f rank k each)

-- one more variable in the chain of a level
module _ (f g : ℕ → List ℕ) (l v : ℕ) (here : g l ≡ v ∷ f l) (others : (m : ℕ) → m ≢ l → g m ≡ f m) where
  pub one_more_entry : (k : ℕ) → l < k → IsPermutation (entry l v ∷ entries_below f k) (entries_below g k)
  one_more_entry zero lt = absurd (omega arith)
  one_more_entry (suc k) lt = elim (cases_eq l k) [
    | inl e ↦
        (let now : g k ≡ v ∷ f k = subst (λ n. g n ≡ v ∷ f n) e here in
        let below = entries_same g f k (λ m less. others m (omega arith)) in
        let is : entries_below g (suc k) ≡ entry l v ∷ entries_below f (suc k) =
        ap (λ (xs : List ℕ). map (entry k) xs ++ entries_below g k) now
        ∙ ap (λ (es : List (ℕ × ℕ)). entry k v ∷ (map (entry k) (f k) ++ es)) below
        ∙ ap (λ n. entry n v ∷ entries_below f (suc k)) (sym e) in
        subst (IsPermutation (entry l v ∷ entries_below f (suc k))) (sym is)
        (IsPermutation-refl (entry l v ∷ entries_below f (suc k))))
    | inr ne ↦
        (let front = map (entry k) (f k) in
        let moved = IsPermutation-sym (front ++ entry l v ∷ entries_below f k) (entry l v ∷ (front ++ entries_below f k))
        (IsPermutation-middle front (entry l v) (entries_below f k)) in
        let below = IsPermutation-append_right front (entry l v ∷ entries_below f k) (entries_below g k)
        (one_more_entry k (omega arith)) in
        subst (λ (xs : List ℕ). IsPermutation (entry l v ∷ (front ++ entries_below f k)) (map (entry k) xs ++ entries_below g k))
        (sym (others k (λ e. ne (sym e))))
        (IsPermutation-trans (entry l v ∷ (front ++ entries_below f k)) (front ++ entry l v ∷ entries_below f k)
        (front ++ entries_below g k) moved below))
  ]

-- as many entries as there were: chains that are empty have none
module _ (head next : List ℕ) where
  empty_chain : (l : ℕ) → get_or head l 0 ≡ 0 → chain_of head next l ≡ []
  empty_chain l e = chain_none (length next) next (get_or head l 0) e

  pub no_entries : IsEmpty head → chained_entries head next ≡ []
  no_entries none = entries_none (chain_of head next) (length head) (λ l. empty_chain l (none l))

-- nothing waits in lists of zeros
pub new_chains : (head next : List ℕ) → IsEmpty head → length next ≤ length head → AreLevelChains head next 0 0
new_chains head next none le = record {
  chains = λ l. subst (IsChain next (get_or head l 0)) (sym (empty_chain head next l (none l))) (none l);
  none = λ l lt. none l;
  count = sym (ap length (no_entries head next none));
  sizes = le;
}

module _ (head next : List ℕ) (first waiting : ℕ) (h : AreLevelChains head next first waiting) where
  -- where no entry is there no level has a chain
  pub none_waits : waiting ≡ 0 → IsEmpty head
  none_waits e l = elim (cases_eq (get_or head l 0) 0) [
    | inl is ↦ is
    | inr ne ↦ elim (cases_lt l (length head)) [
      | inr le ↦ get_or_past head l 0 le
      | inl lt ↦
          (let b = begun next (get_or head l 0) (chain_of head next l) (h.chains l) ne in
          let i : Contains (chain_of head next l) (get_or head l 0) =
          subst (λ (xs : List ℕ). Contains xs (get_or head l 0)) (sym b.is) (0, omega arith, refl) in
          let k = entry_of (chain_of head next) (length head) l (get_or head l 0) lt i in
          let count = h.count in
          absurd (omega (arith, k.1)))
    ]
  ]

  -- where the search for the first level can begin
  pub none_after : (first' : ℕ) → (first' ≤ first) ⊎ (waiting ≡ 0) → IsEmptyBelow head first'
  none_after first' before m less = elim before [
    | inl le ↦ h.none m (omega arith)
    | inr e ↦ none_waits e m
  ]

  -- a variable that does not wait is in no chain
  module _ (v : ℕ) (alone : IsQueued (record { entries = chained_entries head next; capacity = length next }) v → ⊥) where
    pub in_no_chain : (l : ℕ) → Contains (chain_of head next l) v → ⊥
    in_no_chain l k = elim (cases_lt l (length head)) [
      | inl lt ↦
          alone (queued_from_entry (record { entries = chained_entries head next; capacity = length next }) (entry l v)
          (entry_of (chain_of head next) (length head) l v lt k))
      | inr le ↦
          no_element v (subst (λ (xs : List ℕ). Contains xs v) (empty_chain head next l (get_or_past head l 0 le)) k)
    ]

    -- it waits at a level
    module _ (l first' : ℕ) (lt : l < length head) (positive : 0 < v) (within : v < length next)
        (none : IsEmptyBelow head first') (le : first' ≤ l) where
      abbrev head' : List ℕ
      head' = set head l v

      abbrev next' : List ℕ
      next' = set next v (get_or head l 0)

      linked : IsChain next' v (v ∷ chain_of head next l)
      linked =
          let size = length-set next v (get_or head l 0) in (
            refl,
            positive,
            omega arith,
            in_no_chain l,
            rw (get_or-set_same next v (get_or head l 0) 0 within)
                (chain_kept next v (get_or head l 0) (get_or head l 0) (chain_of head next l) (in_no_chain l) (h.chains l)),
          )

      begins : get_or head' l 0 ≡ v
      begins = get_or-set_same head l v 0 lt

      here : chain_of head' next' l ≡ v ∷ chain_of head next l
      here =
          ap (λ at. chain (length next') next' at) begins
          ∙ chain_is (length next') next' v (v ∷ chain_of head next l) linked
          (chain_fits next' v (v ∷ chain_of head next l) linked)

      kept : (m : ℕ) → IsChain next' (get_or head m 0) (chain_of head next m)
      kept m = chain_kept next v (get_or head l 0) (get_or head m 0) (chain_of head next m) (in_no_chain m) (h.chains m)

      other : (m : ℕ) → m ≢ l → get_or head' m 0 ≡ get_or head m 0
      other m ne = get_or-set_other head l m v 0 ne

      others : (m : ℕ) → m ≢ l → chain_of head' next' m ≡ chain_of head next m
      others m ne =
          ap (λ at. chain (length next') next' at) (other m ne)
          ∙ chain_is (length next') next' (get_or head m 0) (chain_of head next m) (kept m)
          (chain_fits next' (get_or head m 0) (chain_of head next m) (kept m))

      pub pushed : IsPermutation (entry l v ∷ chained_entries head next) (chained_entries head' next')
      pushed =
          subst (λ n. IsPermutation (entry l v ∷ chained_entries head next) (entries_below (chain_of head' next') n))
          (sym (length-set head l v))
          (one_more_entry (chain_of head next) (chain_of head' next') l v here others (length head) lt)

      pub pushed_chains : AreLevelChains head' next' first' (waiting + 1)
      pushed_chains = record {
        chains = λ m. elim (cases_eq m l) [
          | inl e ↦
              subst (λ n. IsChain next' (get_or head' n 0) (chain_of head' next' n)) (sym e)
              (subst (λ at. IsChain next' at (chain_of head' next' l)) (sym begins) (subst (IsChain next' v) (sym here) linked))
          | inr ne ↦
              subst (λ at. IsChain next' at (chain_of head' next' m)) (sym (other m ne))
              (subst (IsChain next' (get_or head m 0)) (sym (others m ne)) (kept m))
        ];
        none = λ m less. other m (omega arith) ∙ none m less;
        count = (
            let more = length_permutation (entry l v ∷ chained_entries head next) (chained_entries head' next') pushed in
            let count = h.count in
            omega arith);
        sizes = (
            let a = length-set head l v in
            let b = length-set next v (get_or head l 0) in
            let le = h.sizes in
            omega arith);
      }

  -- the first variable of the first level is taken
  module _ (l : ℕ) (lt : l < length head) (some : get_or head l 0 ≢ 0) (none : IsEmptyBelow head l) where
    abbrev v : ℕ
    v = get_or head l 0

    abbrev rest' : List ℕ
    rest' = set head l (get_or next v 0)

    b : Begins next v (chain_of head next l)
    b = begun next v (chain_of head next l) (h.chains l) some

    now : get_or rest' l 0 ≡ get_or next v 0
    now = get_or-set_same head l (get_or next v 0) 0 lt

    then : chain_of rest' next l ≡ b.rest
    then =
        ap (λ at. chain (length next) next at) now
        ∙ chain_is (length next) next (get_or next v 0) b.rest b.leads
        (chain_fits next (get_or next v 0) b.rest b.leads)

    same : (m : ℕ) → m ≢ l → get_or rest' m 0 ≡ get_or head m 0
    same m ne = get_or-set_other head l m (get_or next v 0) 0 ne

    pub popped_inside : v < length next
    popped_inside = b.inside

    pub popped : IsPermutation (chained_entries head next) (entry l v ∷ chained_entries rest' next)
    popped =
        IsPermutation-sym (entry l v ∷ chained_entries rest' next) (chained_entries head next)
        (subst (λ n. IsPermutation (entry l v ∷ entries_below (chain_of rest' next) n) (chained_entries head next))
        (sym (length-set head l (get_or next v 0)))
        (one_more_entry (chain_of rest' next) (chain_of head next) l v (b.is ∙ ap (λ xs. v ∷ xs) (sym then))
        (λ m ne. ap (λ at. chain (length next) next at) (sym (same m ne))) (length head) lt))

    pub least : All (λ (e : ℕ × ℕ). e.0 ≤ 2 ^ 32 - 1 - l) (chained_entries rest' next)
    least = all_ranks (chain_of rest' next) (2 ^ 32 - 1 - l) (length rest') (λ m. elim (cases_lt m l) [
      | inl less ↦ inl (empty_chain rest' next m (same m (omega arith) ∙ none m less))
      | inr le ↦ inr (omega arith)
    ])

    pub popped_chains : AreLevelChains rest' next l (waiting - 1)
    popped_chains = record {
      chains = λ m. elim (cases_eq m l) [
        | inl e ↦
            subst (λ n. IsChain next (get_or rest' n 0) (chain_of rest' next n)) (sym e)
            (subst (λ at. IsChain next at (chain_of rest' next l)) (sym now)
            (subst (IsChain next (get_or next v 0)) (sym then) b.leads))
        | inr ne ↦
            subst (λ at. IsChain next at (chain (length next) next at)) (sym (same m ne)) (h.chains m)
      ];
      none = λ m less. same m (omega arith) ∙ none m less;
      count = (
          let less = length_permutation (chained_entries head next) (entry l v ∷ chained_entries rest' next) popped in
          let count = h.count in
          omega arith);
      sizes = (
          let a = length-set head l (get_or next v 0) in
          let le = h.sizes in
          omega arith);
    }

    -- as it is read
    pub popped_as : (variable after : ℕ) → variable ≡ get_or head l 0 → after ≡ get_or next variable 0
        → AreLevelChains (set head l after) next l (waiting - 1)
        × IsPermutation (chained_entries head next) (entry l variable ∷ chained_entries (set head l after) next)
        × All (λ (e : ℕ × ℕ). e.0 ≤ 2 ^ 32 - 1 - l) (chained_entries (set head l after) next)
    popped_as variable after e f =
        let g : after ≡ get_or next v 0 = f ∙ ap (λ n. get_or next n 0) e in
        subst (λ n. AreLevelChains (set head l n) next l (waiting - 1)
        × IsPermutation (chained_entries head next) (entry l variable ∷ chained_entries (set head l n) next)
        × All (λ (e : ℕ × ℕ). e.0 ≤ 2 ^ 32 - 1 - l) (chained_entries (set head l n) next)) (sym g) (
          popped_chains,
          subst (λ n. IsPermutation (chained_entries head next) (entry l n ∷ chained_entries rest' next)) (sym e) popped,
          least,
        )

  -- more zeros at the end of both lists
  module _ (more after : List ℕ) (same_head : (l : ℕ) → get_or more l 0 ≡ get_or head l 0)
      (same_next : (l : ℕ) → get_or after l 0 ≡ get_or next l 0) (longer : length head ≤ length more)
      (later : length next ≤ length after) (sizes : length after ≤ length more) where
    grown : (l : ℕ) → IsChain after (get_or head l 0) (chain_of head next l)
    grown l = chain_longer next after same_next later (get_or head l 0) (chain_of head next l) (h.chains l)

    as_before : (l : ℕ) → chain_of more after l ≡ chain_of head next l
    as_before l =
        ap (λ at. chain (length after) after at) (same_head l)
        ∙ chain_is (length after) after (get_or head l 0) (chain_of head next l) (grown l)
        (chain_fits after (get_or head l 0) (chain_of head next l) (grown l))

    pub more_entries : chained_entries more after ≡ chained_entries head next
    more_entries =
        entries_same (chain_of more after) (chain_of head next) (length more) (λ l lt. as_before l)
        ∙ entries_above (chain_of head next) (length head) (length more) longer
        (λ l le. empty_chain head next l (get_or_past head l 0 le))

    pub more_chains : AreLevelChains more after first waiting
    more_chains = record {
      chains = λ l. subst (λ at. IsChain after at (chain_of more after l)) (sym (same_head l))
          (subst (IsChain after (get_or head l 0)) (sym (as_before l)) (grown l));
      none = λ l lt. same_head l ∙ h.none l lt;
      count = h.count ∙ ap length (sym more_entries);
      sizes = sizes;
    }

pub zeros : (n l : ℕ) → let none : ℕ = 0 in get_or (replicate n none) l none ≡ none
zeros zero l = refl
zeros (suc n) zero = refl
zeros (suc n) (suc l) = zeros n l
