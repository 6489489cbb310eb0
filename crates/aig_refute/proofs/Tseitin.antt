-- A circuit without latches, and an assignment that makes each gate an AND.
use Rattle.std.proofs.Common.{◌≡◌, ◌≢◌, ℕ, zero, suc, ◌-◌, Bool, true, false}
use Rattle.std.proofs.Common.{not, ◌&&◌, ◌||◌, List, [], ◌∷◌, flat_map, Some, slice_get}
use Rattle.std.proofs.Common.{refl, sym, ◌∙◌, ap, subst}
use Rattle.std.specs.List.{list_all, list_any}
use Rattle.std.proofs.lemmas.List.Folds.{list_all-append}
use Rattle.std.proofs.lemmas.List.Concat.{flat_map-cons}
use Rattle.std.proofs.lemmas.Bool.{and_parts}
use Rattle.aig_sat.proofs.checking.TruthLemmas.{true_negation}
use Rattle.aig_parts.specs.Ternary.{kleene_and, kleene_not}
use Rattle.aig_parts.specs.declared.gate.Gate.{Gate}
use Rattle.aig_parts.specs.declared.raw.Raw.{Raw}
use Rattle.aig_parts.specs.declared.ternary.Tern.{Tern}
use Rattle.aig_parts.specs.declared.ternary.Tern.TheVariants.{Zero, One, X}
use Rattle.aig_base.specs.Value as value
use Rattle.aig_base.specs.Value.{Value}
use Rattle.aig_cnf.specs.Formula.{gate_clauses}
use Rattle.aig_sat.specs.checker.Clause.{is_true, meets, Satisfies}
use Rattle.aig_refute.specs.Models.{tern_of}

-- ---- a gate's clauses

three : (x y z : Bool) → Bool
three x y z = (not x || (y || false)) && ((not x || (z || false)) && ((x || (not y || (not z || false))) && true))

three_are : (x y z : Bool) → (three x y z ≡ true → x ≡ (y && z)) × (x ≡ (y && z) → three x y z ≡ true)
unfolding three
three_are true true true = (λ _. refl, λ _. refl)
three_are true true false = (λ e. cc, λ e. cc)
three_are true false true = (λ e. cc, λ e. cc)
three_are true false false = (λ e. cc, λ e. cc)
three_are false true true = (λ e. cc, λ e. cc)
three_are false true false = (λ _. refl, λ _. refl)
three_are false false true = (λ _. refl, λ _. refl)
three_are false false false = (λ _. refl, λ _. refl)

clauses_of : (a : ℕ → Bool) (g : Gate)
    → list_all (meets a) (gate_clauses g) ≡ three (is_true a g.lhs) (is_true a g.rhs0) (is_true a g.rhs1)
unfolding three
clauses_of a g = rw (true_negation a g.lhs, true_negation a g.rhs0, true_negation a g.rhs1) refl

-- the clauses of a gate are met exactly where its left side is the AND of the right sides
abbrev IsAnd : (ℕ → Bool) → Gate → Type 0
IsAnd a g = is_true a g.lhs ≡ (is_true a g.rhs0 && is_true a g.rhs1)

pub gate_met : (a : ℕ → Bool) (g : Gate) → Satisfies a (gate_clauses g) → IsAnd a g
gate_met a g h =
    (three_are (is_true a g.lhs) (is_true a g.rhs0) (is_true a g.rhs1)).0 (sym (clauses_of a g) ∙ h)

pub meets_gate : (a : ℕ → Bool) (g : Gate) → IsAnd a g → Satisfies a (gate_clauses g)
meets_gate a g h =
    clauses_of a g ∙ (three_are (is_true a g.lhs) (is_true a g.rhs0) (is_true a g.rhs1)).1 h

pub both_and : {x y : Bool} → x ≡ true → y ≡ true → (x && y) ≡ true
both_and e f = rw (e, f) refl

-- the clauses of all gates
pub gates_met : (a : ℕ → Bool) (gates : List Gate) → Satisfies a (flat_map gate_clauses gates) → (q : ℕ) (g : Gate)
    → slice_get gates q ≡ Some g → IsAnd a g
gates_met a [] h q g at = cc
gates_met a (x ∷ xs) h q g at =
    let both = and_parts (list_all (meets a) (gate_clauses x)) (list_all (meets a) (flat_map gate_clauses xs))
    (sym (list_all-append (meets a) (gate_clauses x) (flat_map gate_clauses xs))
    ∙ ap (list_all (meets a)) (sym (flat_map-cons gate_clauses x xs)) ∙ h) in
    go q at both.0 (λ j f is. gates_met a xs both.1 j f is)
  where
    go : (q : ℕ) → slice_get (x ∷ xs) q ≡ Some g → list_all (meets a) (gate_clauses x) ≡ true
        → ((j : ℕ) (f : Gate) → slice_get xs j ≡ Some f → IsAnd a f) → IsAnd a g
    go zero at first later = let same : x ≡ g = cc in subst (IsAnd a) same (gate_met a x first)
    go (suc q) at first later = later q g at

pub meets_gates : (a : ℕ → Bool) (gates : List Gate)
    → ((q : ℕ) (g : Gate) → slice_get gates q ≡ Some g → IsAnd a g) → Satisfies a (flat_map gate_clauses gates)
meets_gates a [] each = refl
meets_gates a (x ∷ xs) each =
    ap (list_all (meets a)) (flat_map-cons gate_clauses x xs)
    ∙ list_all-append (meets a) (gate_clauses x) (flat_map gate_clauses xs)
    ∙ both_and (meets_gate a x (each 0 x refl)) (meets_gates a xs (λ q g at. each (suc q) g at))

-- ---- a clause

pub one_met : (a : ℕ → Bool) (ls : List ℕ) → meets a ls ≡ true
    → (i : ℕ) × (l : ℕ) × (slice_get ls i ≡ Some l) × (is_true a l ≡ true)
one_met a [] e = cc
one_met a (l ∷ ls) e = go (is_true a l) refl e (λ h. one_met a ls h)
  where
    go : (b : Bool) → is_true a l ≡ b → (b || list_any (is_true a) ls) ≡ true
        → (meets a ls ≡ true → (i : ℕ) × (m : ℕ) × (slice_get ls i ≡ Some m) × (is_true a m ≡ true))
        → (i : ℕ) × (m : ℕ) × (slice_get (l ∷ ls) i ≡ Some m) × (is_true a m ≡ true)
    go true is e later = (0, l, refl, is)
    go false is e later = let (i, m, at, t) = later e in (suc i, m, at, t)

pub meets_one : (a : ℕ → Bool) (ls : List ℕ) (i l : ℕ) → slice_get ls i ≡ Some l → is_true a l ≡ true
    → meets a ls ≡ true
meets_one a [] i l at t = cc
meets_one a (x ∷ ls) zero l at t = let same : x ≡ l = cc in rw (same, t) refl
meets_one a (x ∷ ls) (suc i) l at t = go (is_true a x) (meets_one a ls i l at t)
  where
    go : (b : Bool) → meets a ls ≡ true → (b || meets a ls) ≡ true
    go true h = refl
    go false h = h

-- ---- values

pub tern_and : (x y : Bool) → tern_of (x && y) ≡ kleene_and (tern_of x) (tern_of y)
tern_and true true = refl
tern_and true false = refl
tern_and false y = refl

pub tern_not : (x : Bool) → tern_of (not x) ≡ kleene_not (tern_of x)
tern_not true = refl
tern_not false = refl

pub none_of : {A : Type 0} (xs : List A) (p : ℕ) (x : A) → xs ≡ [] → slice_get xs p ≡ Some x → ⊥
none_of {A = A} xs p x e at = let f : slice_get {X = A} [] p ≡ Some x = subst (λ (ys : List A). slice_get ys p ≡ Some x) e at in cc

module _ (raw : Raw) (row : List Tern) (no_latches : raw.latches ≡ []) where
  pub only_row : (t : ℕ) (r : List Tern) → slice_get (row ∷ []) t ≡ Some r → row ≡ r
  only_row zero r e = cc
  only_row (suc t) r e = cc

  known_and : (b c : Tern) → b ≢ X → c ≢ X → kleene_and b c ≢ X
  known_and Zero c p q e = cc
  known_and One c p q e = q e
  known_and X c p q e = p refl

  known_not : (b : Tern) → b ≢ X → kleene_not b ≢ X
  known_not Zero p e = cc
  known_not One p e = cc
  known_not X p e = p refl

  -- where no input is unknown, no value is
  pub known : ((p : ℕ) (w : Tern) → slice_get row p ≡ Some w → w ≢ X)
      → {t l : ℕ} {w : Tern} → Value raw [] (row ∷ []) t l w → w ≢ X
  known all (value.constant_false t) = λ e. cc
  known all (value.constant_true t) = λ e. cc
  known all (value.input t p l w r at is cell) =
      all p w (subst (λ (r : List Tern). slice_get r p ≡ Some w) (sym (only_row t r is)) cell)
  known all (value.latch_first p x w at is) = absurd (none_of raw.latches p x no_latches at)
  known all (value.latch_next t p x w at v) = absurd (none_of raw.latches p x no_latches at)
  known all (value.gate t q g b c at vb vc) = known_and b c (known all vb) (known all vc)
  known all (value.negated t l w over neg v) = known_not w (known all v)
