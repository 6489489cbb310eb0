-- The text of a formula, part by part.
use Rattle.std.proofs.Common.{◌≡◌, ◌⊎◌, inl, inr, ℕ, zero, suc, ◌+◌, ◌-◌, ◌*◌, ◌<◌, ◌≤◌, List, [], ◌∷◌, ◌++◌, length}
use Rattle.std.proofs.Common.{refl, sym, ◌∙◌, ap, ap₂, arith}
use Rattle.std.proofs.Common.{append_assoc, length-append, add-one}
use Rattle.std.proofs.lemmas.Nat.{mul-le}
use Rattle.std.specs.List.{flat_map}
use Rattle.std.proofs.lemmas.List.Concat.{flat_map-append, flat_map-cons}
use Rattle.std.proofs.lemmas.List.{append-nil, length-map}
use Rattle.aig_parts.specs.Formed.{limit}
use Rattle.aig_parts.specs.Limits.{frame_limit}
use Rattle.aig_parts.specs.declared.gate.Gate.{Gate}
use Rattle.aig_parts.specs.Literal.{negation}
use Rattle.aig_unroll.specs.Unrolled.{frames}
use Rattle.aig_cnf.specs.Dimacs.{clause_text, formula_text, gate_text, problem_line}
use Rattle.aig_cnf.specs.Formula.{all_but_last, clauses, first_reached, gate_clauses, goal_clauses, implies}
use Rattle.aig_cnf.specs.declared.query.Goal.{Goal}
use Rattle.aig_cnf.specs.declared.query.Goal.TheVariants as asked

-- the clauses of items, item by item
joined_text : {A : Type 0} (f : A → List (List ℕ)) (xs : List A)
    → flat_map (λ x. flat_map clause_text (f x)) xs ≡ flat_map clause_text (flat_map f xs)
joined_text f [] = refl
joined_text f (x ∷ xs) =
    flat_map-cons (λ y. flat_map clause_text (f y)) x xs
    ∙ ap (λ (bs : List ℕ). flat_map clause_text (f x) ++ bs) (joined_text f xs)
    ∙ sym (ap (flat_map clause_text) (flat_map-cons f x xs) ∙ flat_map-append clause_text (f x) (flat_map f xs))

-- ---- gates

pub gates_text : (gates : List Gate) → flat_map gate_text gates ≡ flat_map clause_text (flat_map gate_clauses gates)
unfolding gate_text
gates_text gates = joined_text gate_clauses gates

pub length-clauses : (gates : List Gate) → length (flat_map gate_clauses gates) ≡ 3 * length gates
length-clauses [] = refl
length-clauses (g ∷ gates) =
    ap length (flat_map-cons gate_clauses g gates) ∙ length-append (gate_clauses g) (flat_map gate_clauses gates)
    ∙ ap (λ n. 3 + n) (length-clauses gates) ∙ omega arith

-- ---- frames

-- the frames up to t stand first
pub frames_split : {A : Type 0} (f : ℕ → List A) (t k : ℕ) → t ≤ k → (rest : List A) × (frames f k ≡ frames f t ++ rest)
frames_split {A = A} f t zero le = ([], let e : t ≡ 0 = omega arith in rw e refl)
frames_split {A = A} f t (suc k) le = go (below_or t k le) (λ h. frames_split f t k h)
  where
    below_or : (t k : ℕ) → t ≤ suc k → (t ≤ k) ⊎ (t ≡ suc k)
    below_or t k le = grind (arith, le)

    go : (t ≤ k) ⊎ (t ≡ suc k) → (t ≤ k → (rest : List A) × (frames f k ≡ frames f t ++ rest))
        → (rest : List A) × (frames f (suc k) ≡ frames f t ++ rest)
    go (inl h) earlier =
        let (rest, e) = earlier h in
        (rest ++ f k, ap (λ xs. xs ++ f k) e ∙ append_assoc (frames f t) rest (f k))
    go (inr e) earlier = ([], rw e (sym (append-nil (frames f (suc k)))))

-- one frame more, and those after it
pub frames_more : {A : Type 0} (f : ℕ → List A) (t : ℕ) → frames f t ++ f t ≡ frames f (t + 1)
frames_more f t = ap (frames f) (sym (add-one t))

pub frames_rest : {A : Type 0} (f : ℕ → List A) (t k : ℕ) → t < k → (rest : List A) × ((frames f t ++ f t) ++ rest ≡ frames f k)
frames_rest f t k lt =
    let (rest, e) = frames_split f (t + 1) k (omega arith) in
    (rest, ap (λ xs. xs ++ rest) (frames_more f t) ∙ sym e)

-- ---- the goal of a step

-- the clause that the literal is false
abbrev pub denied : ℕ → List (List ℕ)
denied l = (negation l ∷ []) ∷ []

unfoldable pub denied_text : ℕ → List ℕ
denied_text l = flat_map clause_text (denied l)

pub first_reached-append : (xs : List ℕ) (x : ℕ) → first_reached (xs ++ x ∷ []) ≡ flat_map denied xs ++ (x ∷ []) ∷ []
first_reached-append [] x = refl
first_reached-append (y ∷ []) x = refl
first_reached-append (y ∷ z ∷ ys) x =
    ap (λ cs. (negation y ∷ []) ∷ cs) (first_reached-append (z ∷ ys) x)
    ∙ ap (λ cs. cs ++ (x ∷ []) ∷ []) (sym (flat_map-cons denied y (z ∷ ys)))

pub first_text : (xs : List ℕ) (x : ℕ)
    → flat_map denied_text xs ++ clause_text (x ∷ []) ≡ flat_map clause_text (first_reached (xs ++ x ∷ []))
unfolding denied_text
first_text xs x =
    ap₂ (λ (bs ds : List ℕ). bs ++ ds) (joined_text denied xs) (sym (append-nil (clause_text (x ∷ []))))
    ∙ sym (flat_map-append clause_text (flat_map denied xs) ((x ∷ []) ∷ []))
    ∙ ap (flat_map clause_text) (sym (first_reached-append xs x))

pub length-first_reached : (ls : List ℕ) → length (first_reached ls) ≡ length ls
length-first_reached [] = refl
length-first_reached (l ∷ []) = refl
length-first_reached (l ∷ m ∷ ls) = ap suc (length-first_reached (m ∷ ls))

-- ---- the goal of an induction

pub all_but_last-append : (xs : List ℕ) (x : ℕ) → all_but_last (xs ++ x ∷ []) ≡ xs
unfolding all_but_last
all_but_last-append [] x = refl
all_but_last-append (y ∷ []) x = refl
all_but_last-append (y ∷ z ∷ ys) x = ap (λ ls. y ∷ ls) (all_but_last-append (z ∷ ys) x)

pub starts_of_none : (ms ls : List ℕ) → ls ≡ [] → [] ≡ flat_map (implies ms) (all_but_last ls)
unfolding all_but_last
starts_of_none ms ls e = sym (ap (λ (xs : List ℕ). flat_map (implies ms) (all_but_last xs)) e)

length-all_but_last : (ls : List ℕ) → length (all_but_last ls) ≡ length ls - 1
unfolding all_but_last
length-all_but_last [] = refl
length-all_but_last (l ∷ []) = refl
length-all_but_last (l ∷ m ∷ ls) = let e = length-all_but_last (m ∷ ls) in omega (arith, e)

-- the clause that the second literal is true if the first one is
abbrev pub implied : ℕ → ℕ → List (List ℕ)
implied l m = (negation l ∷ m ∷ []) ∷ []

pub implied_each : (l : ℕ) (ms : List ℕ) → flat_map (implied l) ms ≡ implies ms l
implied_each l [] = refl
implied_each l (m ∷ ms) = flat_map-cons (implied l) m ms ∙ ap (λ cs. (negation l ∷ m ∷ []) ∷ cs) (implied_each l ms)

unfoldable pub implied_text : ℕ → ℕ → List ℕ
implied_text l m = flat_map clause_text (implied l m)

pub all_implied_text : (l : ℕ) (ms : List ℕ) → flat_map (implied_text l) ms ≡ flat_map clause_text (implies ms l)
unfolding implied_text
all_implied_text l ms = joined_text (implied l) ms ∙ ap (flat_map clause_text) (implied_each l ms)

unfoldable pub implies_text : List ℕ → ℕ → List ℕ
implies_text ms l = flat_map clause_text (implies ms l)

pub starts_text : (ms ls : List ℕ) → flat_map (implies_text ms) ls ≡ flat_map clause_text (flat_map (implies ms) ls)
unfolding implies_text
starts_text ms ls = joined_text (implies ms) ls

length-implies : (ms ls : List ℕ) → length (flat_map (implies ms) ls) ≡ length ls * length ms
length-implies ms [] = omega arith
length-implies ms (l ∷ ls) =
    let e = ap length (flat_map-cons (implies ms) l ls) ∙ length-append (implies ms l) (flat_map (implies ms) ls) in
    let f : length (implies ms l) ≡ length ms = length-map ms (λ m. negation l ∷ m ∷ []) in
    let g : suc (length ls) * length ms ≡ length ms + length ls * length ms = omega arith in
    omega (arith, e, f, g, length-implies ms ls)

pub length-induction : (ms ls : List ℕ)
    → length (flat_map (implies ms) (all_but_last ls)) ≡ (length ls - 1) * length ms
length-induction ms ls =
    length-implies ms (all_but_last ls) ∙ ap (λ n. n * length ms) (length-all_but_last ls)

-- ---- the whole

-- how many clauses a goal has at most: 1 + 65,536 * 4,194,303
pub length-goal_clauses : (goal : Goal) (ms ls : List ℕ) → length ms ≤ limit → length ls ≤ frame_limit
    → length (goal_clauses goal ms ls) ≤ 274877841409
length-goal_clauses asked.Within ms ls some few = omega arith
length-goal_clauses asked.Last ms ls some few = omega arith
length-goal_clauses asked.Step ms ls some few = let e = length-first_reached ls in omega (arith, e, few)
length-goal_clauses asked.Induction ms ls some few =
    let e = length-induction ms ls in
    let most : (length ls - 1) * length ms ≤ 65536 * 4194303 =
    mul-le (length ls - 1) (length ms) 65536 4194303 (omega (arith, few)) some in
    omega (arith, e, most)

pub length-formula : (goal : Goal) (ms ls : List ℕ) (gates : List Gate)
    → length (clauses goal ms ls gates) ≡ 1 + length (goal_clauses goal ms ls) + 3 * length gates
length-formula goal ms ls gates =
    omega (
      arith,
      length-append (goal_clauses goal ms ls) (flat_map gate_clauses gates),
      length-clauses gates,
    )

pub clauses_text : (goal : Goal) (ms ls : List ℕ) (gates : List Gate) (all : List (List ℕ)) → clauses goal ms ls gates ≡ all
    → clause_text (1 ∷ []) ++ (flat_map clause_text (goal_clauses goal ms ls) ++ flat_map gate_text gates) ≡ flat_map clause_text all
clauses_text goal ms ls gates all e =
    ap (λ (xs : List ℕ). clause_text (1 ∷ []) ++ (flat_map clause_text (goal_clauses goal ms ls) ++ xs)) (gates_text gates)
    ∙ ap (λ (xs : List ℕ). clause_text (1 ∷ []) ++ xs)
    (sym (flat_map-append clause_text (goal_clauses goal ms ls) (flat_map gate_clauses gates)))
    ∙ sym (flat_map-cons clause_text (1 ∷ []) (goal_clauses goal ms ls ++ flat_map gate_clauses gates))
    ∙ ap (flat_map clause_text) e

pub formula_parts : (v n w : ℕ) (all : List (List ℕ)) → v ≡ w → n ≡ length all
    → problem_line v n ++ flat_map clause_text all ≡ formula_text w all
unfolding formula_text
formula_parts v n w all e f = ap₂ (λ i j. problem_line i j ++ flat_map clause_text all) e f
