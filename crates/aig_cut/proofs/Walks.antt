-- A list that is cut entry by entry, as far as it has come: what is done, and the new inputs so far.
use Rattle.std.proofs.Common.{◌≡◌, ℕ, ◌+◌, ◌*◌, ◌<◌, ◌≤◌, Bool, true, false, List, [], ◌∷◌, ◌++◌, length, drop, refl, sym}
use Rattle.std.proofs.Common.{◌∙◌, ap, ap₂, subst, arith, append_assoc}
use Rattle.std.proofs.lemmas.List.{append-nil, drop_all}
use Rattle.aig_parts.specs.declared.gate.Gate.{Gate}
use Rattle.aig_parts.specs.declared.latch.Latch.{Latch}
use Rattle.aig_cut.specs.Cuts.{Cuts}
use Rattle.aig_cut.specs.CutOf.{one_more, in_front, cut_latch, cut_latches, latch_inputs, cut_gate, cut_gates, gate_inputs}
use Rattle.aig_cut.specs.CutOf.{cut_constraints, demanded, next_of, reset_of}

put_front : (f : Bool) (l : ℕ) (ls more : List ℕ) → ls ++ in_front f l more ≡ (ls ++ in_front f l []) ++ more
unfolding in_front
put_front true l ls more = sym (append_assoc ls (l ∷ []) more)
put_front false l ls more = ap (λ (xs : List ℕ). xs ++ more) (sym (append-nil ls))

count_front : (f : Bool) (v l : ℕ) (more : List ℕ) → one_more f v + length more ≡ v + length (in_front f l more)
unfolding in_front one_more
count_front true v l more = omega arith
count_front false v l more = refl

-- ---- what a free entry is, and another one

pub free_next : (b : Bool) (v : ℕ) (x : Latch) → b ≡ true → next_of b v x ≡ 2 * v
unfolding next_of
free_next b v x is = rw is refl

pub own_next : (b : Bool) (v : ℕ) (x : Latch) → b ≡ false → next_of b v x ≡ x.next
unfolding next_of
own_next b v x is = rw is refl

pub any_reset : (b : Bool) (x : Latch) → b ≡ true → reset_of b x ≡ x.lit
unfolding reset_of
any_reset b x is = rw is refl

pub own_reset : (b : Bool) (x : Latch) → b ≡ false → reset_of b x ≡ x.reset
unfolding reset_of
own_reset b x is = rw is refl

pub free_front : (b : Bool) (l : ℕ) (now : List ℕ) → b ≡ true → now ++ in_front b l [] ≡ now ++ l ∷ []
unfolding in_front
free_front b l now is = rw is refl

pub own_front : (b : Bool) (l : ℕ) (now : List ℕ) → b ≡ false → now ++ in_front b l [] ≡ now
unfolding in_front
own_front b l now is = rw is (append-nil now)

pub free_more : (b : Bool) (v : ℕ) → b ≡ true → one_more b v ≡ v + 1
unfolding one_more
free_more b v is = rw is refl

pub own_more : (b : Bool) (v : ℕ) → b ≡ false → one_more b v ≡ v
unfolding one_more
own_more b v is = rw is refl

pub free_gate : (b : Bool) (v : ℕ) (g : Gate) (l m : ℕ) → b ≡ true → l ≡ 2 * v → m ≡ 1
    → record { lhs = g.lhs; rhs0 = l; rhs1 = m } ≡ cut_gate b v g
unfolding cut_gate
free_gate b v g l m is first second = rw is (λ i. record { lhs = g.lhs; rhs0 = first i; rhs1 = second i })

pub own_gate : (b : Bool) (v : ℕ) (g : Gate) → b ≡ false → cut_gate b v g ≡ g
unfolding cut_gate
own_gate b v g is = rw is refl

pub dropped : (b : Bool) (c : ℕ) → b ≡ true → demanded b c ≡ 1
unfolding demanded
dropped b c is = rw is refl

pub kept : (b : Bool) (c : ℕ) → b ≡ false → demanded b c ≡ c
unfolding demanded
kept b c is = rw is refl

pub constraints_more : (cuts : Cuts) (p c : ℕ) (cs : List ℕ)
    → cut_constraints cuts p (c ∷ cs) ≡ demanded (cuts.constraints p) c ∷ cut_constraints cuts (p + 1) cs
unfolding cut_constraints
constraints_more cuts p c cs = refl

pub constraints_none : (cuts : Cuts) (p : ℕ) → cut_constraints cuts p [] ≡ []
unfolding cut_constraints
constraints_none cuts p = refl

pub one_more_at_most : (f : Bool) (v : ℕ) → one_more f v ≤ v + 1
unfolding one_more
one_more_at_most true v = omega arith
one_more_at_most false v = omega arith

-- entries that are cut one after another, each by its own test
pub record IsWalk {A : Type 0} (free : A → Bool) (one : ℕ → A → A) (all : ℕ → List A → List A)
    (inputs : ℕ → List A → List ℕ) : Type 0 where
  pub none : (v : ℕ) → all v [] ≡ []
  pub more : (v : ℕ) (x : A) (xs : List A) → all v (x ∷ xs) ≡ one v x ∷ all (one_more (free x) v) xs
  pub no_inputs : (v : ℕ) → inputs v [] ≡ []
  pub more_inputs : (v : ℕ) (x : A) (xs : List A)
      → inputs v (x ∷ xs) ≡ in_front (free x) (2 * v) (inputs (one_more (free x) v) xs)

pub latches_walk : (cuts : Cuts) → IsWalk (λ (x : Latch). cuts.free x.lit) (cut_latch cuts) (cut_latches cuts) (latch_inputs cuts)
unfolding cut_latches latch_inputs
latches_walk cuts = record {
  none = λ v. refl;
  more = λ v x xs. refl;
  no_inputs = λ v. refl;
  more_inputs = λ v x xs. refl;
}

pub gates_walk : (cuts : Cuts)
    → IsWalk (λ (g : Gate). cuts.free g.lhs) (λ v g. cut_gate (cuts.free g.lhs) v g) (cut_gates cuts) (gate_inputs cuts)
unfolding cut_gates gate_inputs
gates_walk cuts = record {
  none = λ v. refl;
  more = λ v g gs. refl;
  no_inputs = λ v. refl;
  more_inputs = λ v g gs. refl;
}

-- after k of these entries, whose inputs come after these and have variables from one on
pub record HasCut {A : Type 0} (all : ℕ → List A → List A) (inputs : ℕ → List A → List ℕ) (first : ℕ) (own : List ℕ)
    (xs : List A) (k v : ℕ) (done : List A) (now : List ℕ) : Type 0 where
  pub entries : all first xs ≡ done ++ all v (drop k xs)
  pub inputs_are : own ++ inputs first xs ≡ now ++ inputs v (drop k xs)
  pub next : v + length (inputs v (drop k xs)) ≡ first + length (inputs first xs)
  pub few : v ≤ first + k

pub cut_start : {A : Type 0} (all : ℕ → List A → List A) (inputs : ℕ → List A → List ℕ) (first : ℕ) (own : List ℕ)
    (xs done : List A) → done ≡ [] → HasCut all inputs first own xs 0 first done own
cut_start all inputs first own xs done none = record {
  entries = ap (λ ys. ys ++ all first xs) (sym none);
  inputs_are = refl;
  next = refl;
  few = omega arith;
}

pub cut_more : {A : Type 0} (free : A → Bool) (one : ℕ → A → A) (all : ℕ → List A → List A)
    (inputs : ℕ → List A → List ℕ) → IsWalk free one all inputs → (first : ℕ) (own : List ℕ) (xs : List A) (k v w : ℕ)
    (done done' : List A) (now now' : List ℕ) (x y : A) → drop k xs ≡ x ∷ drop (k + 1) xs → y ≡ one v x
    → done' ≡ done ++ y ∷ [] → now' ≡ now ++ in_front (free x) (2 * v) [] → w ≡ one_more (free x) v
    → HasCut all inputs first own xs k v done now → HasCut all inputs first own xs (k + 1) w done' now'
cut_more {A = A} free one all inputs walk first own xs k v w done done' now now' x y at is pushed added next h =
    let rest : List A = drop (k + 1) xs in
    let u : ℕ = one_more (free x) v in
    let left : all v (drop k xs) ≡ y ∷ all w rest =
    ap (all v) at ∙ walk.more v x rest ∙ ap₂ (λ (z : A) (n : ℕ). z ∷ all n rest) (sym is) (sym next) in
    let news : inputs v (drop k xs) ≡ in_front (free x) (2 * v) (inputs w rest) =
    ap (inputs v) at ∙ walk.more_inputs v x rest ∙ ap (λ n. in_front (free x) (2 * v) (inputs n rest)) (sym next) in
    record {
      entries = h.entries ∙ ap (λ (ys : List A). done ++ ys) left ∙ sym (append_assoc done (y ∷ []) (all w rest))
          ∙ ap (λ (ys : List A). ys ++ all w rest) (sym pushed);
      inputs_are = h.inputs_are ∙ ap (λ (ls : List ℕ). now ++ ls) news ∙ put_front (free x) (2 * v) now (inputs w rest)
          ∙ ap (λ (ls : List ℕ). ls ++ inputs w rest) (sym added);
      next = ap (λ n. n + length (inputs w rest)) next ∙ count_front (free x) v (2 * v) (inputs w rest)
          ∙ ap (λ (ls : List ℕ). v + length ls) (sym news) ∙ h.next;
      few = omega (arith, next, one_more_at_most (free x) v, h.few);
    }

-- all of them
pub record AreCutEntries {A : Type 0} (all : ℕ → List A → List A) (inputs : ℕ → List A → List ℕ) (first : ℕ) (own : List ℕ)
    (xs : List A) (v : ℕ) (done : List A) (now : List ℕ) : Type 0 where
  pub entries : done ≡ all first xs
  pub inputs_are : now ≡ own ++ inputs first xs
  pub next : v ≡ first + length (inputs first xs)

pub cut_all : {A : Type 0} (free : A → Bool) (one : ℕ → A → A) (all : ℕ → List A → List A)
    (inputs : ℕ → List A → List ℕ) → IsWalk free one all inputs → (first : ℕ) (own : List ℕ) (xs : List A) (k v : ℕ)
    (done : List A) (now : List ℕ) → drop k xs ≡ [] → HasCut all inputs first own xs k v done now
    → AreCutEntries all inputs first own xs v done now
cut_all {A = A} free one all inputs walk first own xs k v done now end h =
    let none : all v (drop k xs) ≡ [] = ap (all v) end ∙ walk.none v in
    let nothing : inputs v (drop k xs) ≡ [] = ap (inputs v) end ∙ walk.no_inputs v in
    record {
      entries = sym (h.entries ∙ ap (λ (ys : List A). done ++ ys) none ∙ append-nil done);
      inputs_are = sym (h.inputs_are ∙ ap (λ (ls : List ℕ). now ++ ls) nothing ∙ append-nil now);
      next = omega (arith, ap length nothing, h.next);
    }
