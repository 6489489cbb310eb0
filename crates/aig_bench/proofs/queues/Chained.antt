-- Chains of waiting variables, a chain for each level.
use Rattle.std.proofs.Common.{◌≡◌, ◌≢◌, ◌⊎◌, ◌↔◌, inl, inr, ℕ, zero, suc, ◌<◌, Bool, true, false, List, [], ◌∷◌, length}
use Rattle.std.proofs.Common.{get_or, set, replicate, Some, slice_get, Contains, refl, sym, ap, ◌∙◌, subst, arith}
use Rattle.std.proofs.Common.{get_or-set_other, get_or-set_same, length-set}
use Rattle.std.proofs.lemmas.Bool.{cases_eq, false≢true}
use Rattle.std.proofs.lemmas.List.{get_or_read, length-replicate, get_or-replicate}
use Rattle.std.proofs.lemmas.Option.{slice_get_within, get_or_from_slice_get}
use Rattle.aig_base.specs.state.Marks.{IsMarked}
use Rattle.aig_base.proofs.lists.Positions.{Contains-cons, no_element}
use Rattle.aig_bench.specs.state.Buckets.{IsBucketChain, HasChain, AreChained, IsFirst}
use Rattle.aig_bench.proofs.cells.CellLemmas.{get_set_same, get_set_other}

pub head_in : (x : ℕ) (xs : List ℕ) → Contains (x ∷ xs) x
head_in x xs = (0, omega arith, refl)

pub in_tail : (x : ℕ) (xs : List ℕ) (y : ℕ) → Contains xs y → Contains (x ∷ xs) y
in_tail x xs y (k, lt, is) = (suc k, omega arith, is)

-- a chain stays where a number that is not in it gets another next one
chain_kept : (next : List ℕ) (v y at : ℕ) (xs : List ℕ) → (Contains xs v → ⊥) → IsBucketChain next at xs
    → IsBucketChain (set next v y) at xs
chain_kept next v y at [] out h = h
chain_kept next v y at (x ∷ xs) out h =
    let other : x ≢ v = λ e. out (subst (Contains (x ∷ xs)) e (head_in x xs)) in
    let e : get_or (set next v y) x 0 ≡ get_or next x 0 = get_or-set_other next v x y 0 other in
    let size = length-set next v y in (
      h.0,
      h.1,
      omega (arith, h.2),
      h.3,
      rw e (chain_kept next v y (get_or next x 0) xs (λ k. out (in_tail x xs v k)) h.4),
    )

-- a chain that begins with no variable is empty
ends : (next : List ℕ) (at : ℕ) (xs : List ℕ) → IsBucketChain next at xs → at ≡ 0 → xs ≡ []
ends next at [] c e = refl
ends next at (x ∷ xs) c e = absurd (omega (arith, c.0, c.1))

-- what a chain is that begins with a variable
record Begins (next : List ℕ) (at : ℕ) (xs : List ℕ) : Type 0 where
  rest : List ℕ
  is : xs ≡ at ∷ rest
  inside : at < length next
  once : Contains rest at → ⊥
  leads : IsBucketChain next (get_or next at 0) rest

begun : (next : List ℕ) (at : ℕ) (xs : List ℕ) → IsBucketChain next at xs → at ≢ 0 → Begins next at xs
begun next at [] c ne = absurd (ne c)
begun next at (x ∷ xs) c ne = record {
  rest = xs;
  is = ap (λ z. z ∷ xs) (sym c.0);
  inside = omega (arith, c.0, c.2);
  once = λ k. c.3 (subst (Contains xs) c.0 k);
  leads = rw c.0 c.4;
}

-- a mark that was read as false
pub unmarked_read : (marks : List Bool) (v : ℕ) (b : Bool) → b ≡ get_or marks v b → b ≡ false → IsMarked marks v → ⊥
unmarked_read marks v b is off m =
    let e : get_or marks v b ≡ true = get_or_from_slice_get marks v true b m in
    false≢true (sym off ∙ is ∙ e)

none_true : (n v : ℕ) → slice_get (replicate n false) v ≡ Some true → ⊥
none_true zero v e = absurd (cc)
none_true (suc n) zero e = absurd (cc)
none_true (suc n) (suc v) e = none_true n v e

module _ (levels head next : List ℕ) (marks : List Bool) (h : AreChained levels head next marks) where
  -- a chain has marked variables alone
  out_of_chain : (v l : ℕ) → (IsMarked marks v → ⊥) → (c : HasChain levels head next marks l) → Contains c.chain v → ⊥
  out_of_chain v l nm c k = nm ((c.each v).0 k).0

  module _ (v l first : ℕ) (at : slice_get levels v ≡ Some l) (lt : l < length head) (positive : 0 < v)
      (is : first ≡ get_or head l first) (unmarked : IsMarked marks v → ⊥) where
    abbrev head' : List ℕ
    head' = set head l v

    abbrev next' : List ℕ
    next' = set next v first

    abbrev marks' : List Bool
    marks' = set marks v true

    inside : v < length levels
    inside = slice_get_within levels v l at

    now_marked : IsMarked marks' v
    now_marked = get_set_same marks v true (omega (arith, inside, h.marks_size))

    still : (u : ℕ) → IsMarked marks u → IsMarked marks' u
    still u m =
        let ne : u ≢ v = λ e. unmarked (subst (IsMarked marks) e m) in get_set_other marks v u true ne ∙ m

    pub linked_queued : (u : ℕ) → IsMarked marks' u ↔ (IsMarked marks u ⊎ (u ≡ v))
    linked_queued u = (
      λ m. elim (cases_eq u v) [ inl e ↦ inr e | inr ne ↦ inl (sym (get_set_other marks v u true ne) ∙ m) ],
      λ k. elim k [ inl m ↦ still u m | inr e ↦ subst (IsMarked marks') (sym e) now_marked ],
    )

    here : HasChain levels head' next' marks' l
    here =
        let c = h.chains l lt in
        let out = out_of_chain v l unmarked c in
        let e : get_or head l 0 ≡ first = sym (get_or_read head l first lt is 0) in
        let k : IsBucketChain next first c.chain = rw e at c.leads in
        let size = length-set next v first in
        let begins : get_or (set head l v) l 0 ≡ v = get_or-set_same head l v 0 lt in
        let then : get_or (set next v first) v 0 ≡ first =
        get_or-set_same next v first 0 (omega (arith, inside, h.next_size)) in
        record {
          chain = v ∷ c.chain;
          leads = (
            begins,
            positive,
            omega (arith, inside, h.next_size),
            out,
            rw then (chain_kept next v first first c.chain out k),
          );
          each = λ u. (
            λ i. elim (Contains-cons v c.chain u i) [
              | inl e ↦ (
                subst (IsMarked marks') (sym e) now_marked,
                subst (λ (n : ℕ). slice_get levels n ≡ Some l) (sym e) at,
              )
              | inr i ↦ (still u ((c.each u).0 i).0, ((c.each u).0 i).1)
            ],
            λ i. elim ((linked_queued u).0 i.0) [
              | inl m ↦ in_tail v c.chain u ((c.each u).1 (m, i.1))
              | inr e ↦ subst (Contains (v ∷ c.chain)) (sym e) (head_in v c.chain)
            ],
          );
        }

    elsewhere : (k : ℕ) → k ≢ l → k < length head → HasChain levels head' next' marks' k
    elsewhere k ne below =
        let c = h.chains k below in
        let out = out_of_chain v k unmarked c in
        let begins : get_or (set head l v) k 0 ≡ get_or head k 0 = get_or-set_other head l k v 0 ne in
        record {
          chain = c.chain;
          leads = rw begins (chain_kept next v first (get_or head k 0) c.chain out c.leads);
          each = λ u. (
            λ i. (still u ((c.each u).0 i).0, ((c.each u).0 i).1),
            λ i. elim ((linked_queued u).0 i.0) [
              | inl m ↦ (c.each u).1 (m, i.1)
              | inr e ↦
                  let a : slice_get levels v ≡ Some k = subst (λ (n : ℕ). slice_get levels n ≡ Some k) e i.1 in
                  absurd (ne (cc))
            ],
          );
        }

    pub linked : AreChained levels head' next' marks'
    linked = record {
      marks_size = length-set marks v true ∙ h.marks_size;
      next_size = length-set next v first ∙ h.next_size;
      chains = λ k below. elim (cases_eq k l) [
        | inl e ↦ subst (HasChain levels head' next' marks') (sym e) here
        | inr ne ↦ elsewhere k ne (let size = length-set head l v in omega arith)
      ];
      placed = λ u m. elim ((linked_queued u).0 m) [
        | inl k ↦ let (n, is, below) = h.placed u k in (n, is, (let size = length-set head l v in omega arith))
        | inr e ↦ (
          l,
          subst (λ (n : ℕ). slice_get levels n ≡ Some l) (sym e) at,
          (let size = length-set head l v in omega arith),
        )
      ];
    }

  module _ (l : ℕ) (lt : l < length head) where
    -- where a level has no first variable, none of it is marked
    pub none_of_level : get_or head l 0 ≡ 0 → (u : ℕ) → IsMarked marks u → slice_get levels u ≢ Some l
    none_of_level empty u m at =
        let c = h.chains l lt in
        no_element u (subst (λ xs. Contains xs u) (ends next (get_or head l 0) c.chain c.leads empty) ((c.each u).1 (m, at)))

    pub first_is : (first : ℕ) → get_or head l 0 ≡ first → IsFirst levels head marks l first
    first_is first is = record { is = is; none = λ e. none_of_level (is ∙ e) }

    module _ (first : ℕ) (is : get_or head l 0 ≡ first) (some : first ≢ 0) where
      begins : Begins next first (h.chains l lt).chain
      begins =
          let c = h.chains l lt in begun next first c.chain (rw is at c.leads) some

      first_in : Contains (h.chains l lt).chain first
      first_in = subst (λ xs. Contains xs first) (sym begins.is) (head_in first begins.rest)

      pub first_queued : IsMarked marks first
      first_queued = (((h.chains l lt).each first).0 first_in).0

      pub first_level : slice_get levels first ≡ Some l
      first_level = (((h.chains l lt).each first).0 first_in).1

      pub first_inside : first < length next
      first_inside = begins.inside

      pub first_inside_marks : first < length marks
      first_inside_marks = slice_get_within marks first true first_queued

      abbrev marks'' : List Bool
      marks'' = set marks first false

      pub taken_queued : (u : ℕ) → IsMarked marks'' u ↔ (IsMarked marks u × (u ≢ first))
      taken_queued u = (
        λ m.
            let ne : u ≢ first = λ e.
            let here : IsMarked marks'' first = subst (IsMarked marks'') e m in
            let there : slice_get marks'' first ≡ Some false = get_set_same marks first false first_inside_marks in
            absurd (cc) in
            (sym (get_set_other marks first u false ne) ∙ m, ne),
        λ k. get_set_other marks first u false k.1 ∙ k.0,
      )

      module _ (second : ℕ) (then : second ≡ get_or next first second) where
        here_less : HasChain levels (set head l second) next marks'' l
        here_less =
            let c = h.chains l lt in
            let at : get_or (set head l second) l 0 ≡ second = get_or-set_same head l second 0 lt in
            let e : get_or next first 0 ≡ second = sym (get_or_read next first second first_inside then 0) in
            record {
              chain = begins.rest;
              leads = rw (at, ← e) begins.leads;
              each = λ u. (
                λ i.
                    let k = (c.each u).0 (subst (λ xs. Contains xs u) (sym begins.is) (in_tail first begins.rest u i)) in
                    let ne : u ≢ first = λ e. begins.once (subst (Contains begins.rest) e i) in
                    ((taken_queued u).1 (k.0, ne), k.1),
                λ k.
                    let m = (taken_queued u).0 k.0 in
                    let i : Contains (first ∷ begins.rest) u =
                    subst (λ xs. Contains xs u) begins.is ((c.each u).1 (m.0, k.1)) in
                    elim (Contains-cons first begins.rest u i) [ inl e ↦ absurd (m.1 e) | inr j ↦ j ],
              );
            }

        elsewhere_less : (k : ℕ) → k ≢ l → k < length head → HasChain levels (set head l second) next marks'' k
        elsewhere_less k ne below =
            let c = h.chains k below in
            let at : get_or (set head l second) k 0 ≡ get_or head k 0 = get_or-set_other head l k second 0 ne in
            record {
              chain = c.chain;
              leads = rw at c.leads;
              each = λ u. (
                λ i.
                    let m = (c.each u).0 i in
                    let away : u ≢ first = λ e.
                    let a : slice_get levels first ≡ Some k = subst (λ (n : ℕ). slice_get levels n ≡ Some k) e m.1 in
                    let b = first_level in
                    ne (cc) in
                    ((taken_queued u).1 (m.0, away), m.1),
                λ m. (c.each u).1 (((taken_queued u).0 m.0).0, m.1),
              );
            }

        pub taken : AreChained levels (set head l second) next marks''
        taken = record {
          marks_size = length-set marks first false ∙ h.marks_size;
          next_size = h.next_size;
          chains = λ k below. elim (cases_eq k l) [
            | inl e ↦ subst (HasChain levels (set head l second) next marks'') (sym e) here_less
            | inr ne ↦ elsewhere_less k ne (let size = length-set head l second in omega arith)
          ];
          placed = λ u m.
              let (n, at, below) = h.placed u ((taken_queued u).0 m).0 in
              (n, at, (let size = length-set head l second in omega arith));
        }

-- where a variable does not wait, another next one of it changes nothing
pub next_freed : (levels head next : List ℕ) (marks : List Bool) → AreChained levels head next marks → (v y : ℕ)
    → (IsMarked marks v → ⊥) → AreChained levels head (set next v y) marks
next_freed levels head next marks h v y unmarked = record {
  marks_size = h.marks_size;
  next_size = length-set next v y ∙ h.next_size;
  chains = λ l lt.
      let c = h.chains l lt in
      record {
        chain = c.chain;
        leads = chain_kept next v y (get_or head l 0) c.chain
            (out_of_chain levels head next marks h v l unmarked c) c.leads;
        each = c.each;
      };
  placed = h.placed;
}

-- the first variable of a chain is within the list, or there is none
pub first_within : (levels head next : List ℕ) (marks : List Bool) → AreChained levels head next marks → (l : ℕ)
    → l < length head → (get_or head l 0 ≡ 0) ⊎ (get_or head l 0 < length next)
first_within levels head next marks h l lt = of (h.chains l lt).chain (h.chains l lt).leads
  where
    of : (chain : List ℕ) → IsBucketChain next (get_or head l 0) chain
        → (get_or head l 0 ≡ 0) ⊎ (get_or head l 0 < length next)
    of [] leads = inl leads
    of (x ∷ xs) leads = inr (omega (arith, leads.0, leads.2))

-- nothing is marked
pub none_marked : (size : ℕ) (head next : List ℕ) (marks : List Bool) → marks ≡ replicate size false → (v : ℕ)
    → IsMarked marks v → ⊥
none_marked size head next marks none v m = none_true size v (subst (λ xs. IsMarked xs v) none m)

-- nothing waits
module _ (size : ℕ) (head next : List ℕ) (marks : List Bool) (none : (v : ℕ) → IsMarked marks v → ⊥) where
  pub chained_none : head ≡ replicate size 0 → length next ≡ size → length marks ≡ size → (levels : List ℕ)
      → length levels ≡ size → AreChained levels head next marks
  chained_none eh next_size marks_size levels is = record {
    marks_size = marks_size ∙ sym is;
    next_size = next_size ∙ sym is;
    chains = λ l lt. record {
      chain = [];
      leads = first_zero l lt;
      each = λ v. (λ i. absurd (no_element v i), λ k. absurd (none v k.0));
    };
    placed = λ v m. absurd (none v m);
  }
    where
      first_zero : (l : ℕ) → l < length head → get_or head l 0 ≡ 0
      first_zero l lt =
          let is : length head ≡ size = ap length eh ∙ length-replicate size 0 in
          rw eh (get_or-replicate size l 0 0 (omega arith))
