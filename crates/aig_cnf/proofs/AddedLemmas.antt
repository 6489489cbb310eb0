-- Clauses that are given to a checker, piece by piece.
use Rattle.std.proofs.Common.{◌≡◌, ℕ, ◌+◌, ◌<◌, length, take, drop, get_or, Bool, true, List, [], ◌∷◌}
use Rattle.std.proofs.Common.{◌++◌, refl, sym, ◌∙◌, ap, subst}
use Rattle.std.specs.List.{list_all, flat_map}
use Rattle.std.proofs.lemmas.List.{append-nil, take-append-drop, take_more}
use Rattle.std.proofs.lemmas.List.Concat.{flat_map-append}
use Rattle.std.proofs.lemmas.Bool.{and_parts, and_from}
use Rattle.aig_sat.specs.checker.Clause.{meets, Satisfies}
use Rattle.aig_sat.specs.checker.Consequence.{Follows}
use Rattle.aig_cnf.specs.state.Added.{Adds}

-- the first clauses and the others
pub satisfies_parts : (values : ℕ → Bool) (xs ys : List (List ℕ)) → Satisfies values (xs ++ ys)
    → Satisfies values xs × Satisfies values ys
satisfies_parts values [] ys h = (refl, h)
satisfies_parts values (x ∷ xs) ys h =
    let (first, rest) = and_parts (meets values x) (list_all (meets values) (xs ++ ys)) h in
    let (left, right) = satisfies_parts values xs ys rest in
    (and_from (meets values x) (list_all (meets values) xs) first left, right)

pub adds_none : (old : List (List ℕ)) → Adds [] old old
adds_none old = record { satisfied = λ values h s. s }

pub adds_one : (clause : List ℕ) (old new : List (List ℕ)) → Follows (clause ∷ old) new → Adds (clause ∷ []) old new
adds_one clause old new follows = record {
  satisfied = λ values h s.
      follows values (and_from (meets values clause) (list_all (meets values) old) (and_parts (meets values clause) true h).0 s);
}

pub adds_then : {xs ys old middle new : List (List ℕ)} → Adds xs old middle → Adds ys middle new → Adds (xs ++ ys) old new
adds_then {xs} {ys} f g = record {
  satisfied = λ values h s.
      let (left, right) = satisfies_parts values xs ys h in g.satisfied values right (f.satisfied values left s);
}

-- fewer clauses admit more
pub adds_part : {xs old new : List (List ℕ)} (ys : List (List ℕ)) → Adds xs old new → Adds (xs ++ ys) old new
adds_part {xs} ys h = record { satisfied = λ values all s. h.satisfied values (satisfies_parts values xs ys all).0 s }

pub adds_same : {xs ys old new : List (List ℕ)} → Adds xs old new → xs ≡ ys → Adds ys old new
adds_same {xs} {ys} {old} {new} h e = subst (λ (zs : List (List ℕ)). Adds zs old new) e h

-- a checker that had no clauses has those
pub follows_all : (clauses none new : List (List ℕ)) → Follows [] none → Adds clauses none new → Follows clauses new
follows_all clauses none new f h values s = h.satisfied values s (f values refl)

-- ---- in a loop over items

-- one item more
pub adds_more : {Y : Type 0} (f : Y → List (List ℕ)) (xs : List Y) (i : ℕ) (d : Y) {old middle new : List (List ℕ)}
    → Adds (flat_map f (take i xs)) old middle → i < length xs → Adds (f (get_or xs i d)) middle new
    → Adds (flat_map f (take (i + 1) xs)) old new
adds_more f xs i d before lt here =
    adds_same (adds_then before here)
    (ap (λ (cs : List (List ℕ)). flat_map f (take i xs) ++ cs) (sym (append-nil (f (get_or xs i d))))
    ∙ sym (flat_map-append f (take i xs) (get_or xs i d ∷ [])) ∙ ap (flat_map f) (sym (take_more xs i d lt)))

-- items that were left out
pub adds_some : {Y : Type 0} (f : Y → List (List ℕ)) (xs : List Y) (i : ℕ) {old new : List (List ℕ)}
    → Adds (flat_map f (take i xs)) old new → Adds (flat_map f xs) old new
adds_some f xs i h =
    adds_same (adds_part (flat_map f (drop i xs)) h)
    (sym (flat_map-append f (take i xs) (drop i xs)) ∙ ap (flat_map f) (take-append-drop i xs))
