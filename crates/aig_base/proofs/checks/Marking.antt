-- The search for the grounded variables: one more mark, one more gate, one more variable whose readers are visited.
use Rattle.std.proofs.Common.{◌≡◌, ℕ, zero, suc, ◌+◌, ◌*◌, ◌/◌, ◌<◌, ◌⊎◌, inl, inr, List, [], ◌∷◌, ◌++◌, length, set}
use Rattle.std.proofs.Common.{map, get_or, Bool, true, false, not, cond, Some, option_map, refl, sym, ap, subst, ◌∙◌}
use Rattle.std.proofs.Common.{arith, slice_get, Contains, Result, Ok, Err, OnOk, ◌≤◌, ◌%◌, replicate}
use Rattle.std.proofs.Common.{get_or-set_other, get_or-set_same}
use Rattle.std.proofs.lemmas.List.{length-set, length_push, set-get_or, length-replicate, get_or-replicate}
use Rattle.std.proofs.lemmas.Bool.{cases_Bool, cases_eq}
use Rattle.std.proofs.lemmas.List.Elements.{Contains-push, Contains-push_cases, Contains-append_left}
use Rattle.std.proofs.lemmas.List.Elements.{Contains-append_right, Contains-append_cases, All-contains}
use Rattle.std.proofs.lemmas.List.Sums.{sum_by-set}
use Rattle.std.proofs.lemmas.Option.{slice_get-get_or, slice_get_within, same_Some, get_or_from_slice_get}
use Rattle.std.proofs.lemmas.Option.{slice_get-map, none-some}
use Rattle.aig_parts.specs.declared.gate.Gate.{Gate}
use Rattle.aig_parts.specs.declared.raw.Raw.{Raw}
use Rattle.aig_base.specs.Grounded as grounded
use Rattle.aig_base.specs.Grounded.{IsSource, Grounded, Level}
use Rattle.aig_base.specs.Levels.{AreLevels}
use Rattle.aig_base.specs.Sound.{IsSound}
use Rattle.aig_base.specs.state.Descent.{level_above}
use Rattle.aig_base.specs.state.LeastFaulty.{latch_variable}
use Rattle.aig_base.specs.state.KeyChains.{LeadsTo, AreKeyChains}
use Rattle.aig_parts.specs.Formed.{limit}
use Rattle.aig_parts.specs.Literal.{variable}
use Rattle.aig_base.specs.state.Marks.{IsMarked, AreGroundedMarks, sides, AreStarted, AddsMark, AddsMarks, IsQueuedFrom}
use Rattle.aig_base.specs.state.Marks.{IsMarking}
use Rattle.aig_base.specs.state.Walk.{Meets}
use Rattle.aig_base.proofs.lists.Chains.{leads_cases, leads_nowhere, side_first, side_second}
use Rattle.aig_base.proofs.levels.LevelBound.{level_bound}
use Rattle.aig_base.proofs.levels.OneLevel.{Grounded-of_level, same_level}
use Rattle.aig_base.proofs.lists.Gets.{slice_get-set_same, slice_get-set_other, Contains-from_get, get_from_Contains}
use Rattle.aig_base.proofs.lists.Gets.{All-by_get, same_element}

module _ (v : ℕ) (marks : List Bool) (pending : List ℕ) where
  -- a variable that was not marked
  pub mark_new : slice_get marks v ≡ Some false → AddsMark v marks pending (set marks v true) (pending ++ v ∷ [])
  mark_new at =
      let within : v < length marks = slice_get_within marks v false at in
      let was : get_or marks v false ≡ false = get_or_from_slice_get marks v false false at in
      let sums = sum_by-set (λ b. cond (not b) 1 0) marks v true false within in
      let weight = λ (b : Bool). let n : ℕ = cond (not b) 1 0 in n in
      let one : weight (get_or marks v false) ≡ weight false = ap weight was in
      record {
        size = length-set marks v true;
        steps = omega (arith, length_push pending v, sums, one);
        marked = slice_get-set_same marks v true within;
        kept = λ u h. elim (cases_eq u v) [
          | inl e ↦ subst (λ w. slice_get (set marks v true) w ≡ Some true) (sym e)
              (slice_get-set_same marks v true within)
          | inr ne ↦ slice_get-set_other marks v u true ne ∙ h
        ];
        new = λ u h. elim (cases_eq u v) [
          | inl e ↦ inr (e, subst (λ w. Contains (pending ++ v ∷ []) w) (sym e) (Contains-push pending v))
          | inr ne ↦ inl (sym (slice_get-set_other marks v u true ne) ∙ h)
        ];
        listed = λ u h. Contains-append_left pending (v ∷ []) u h;
        new_listed = λ u h. elim (Contains-push_cases pending v u h) [ inl a ↦ inl a | inr e ↦ inr (sym e) ];
      }

  -- a variable that was marked
  pub mark_none : IsMarked marks v → AddsMark v marks pending marks pending
  mark_none h = record {
    size = refl;
    steps = refl;
    marked = h;
    kept = λ u m. m;
    new = λ u m. inl m;
    listed = λ u c. c;
    new_listed = λ u c. inl c;
  }

-- a walk that meets a variable marks it
pub met_is_marked : (v : ℕ) (marks marks' : List Bool) (pending pending' : List ℕ) → v < length marks
    → Meets v marks marks' pending pending' → AddsMark v marks pending marks' pending'
met_is_marked v marks marks' pending pending' lt m = elim (cases_Bool (get_or marks v false)) [
  | inl e ↦
      let at : slice_get marks v ≡ Some true = slice_get-get_or marks v false lt ∙ ap Some e in
      let same : marks' ≡ marks = m.marked ∙ ap (λ (b : Bool). set marks v b) (sym e) ∙ set-get_or marks v false in
      let none : pending' ≡ pending = rw e at m.added in
      rw (same, none) (mark_none v marks pending at)
  | inr e ↦
      let at : slice_get marks v ≡ Some false = slice_get-get_or marks v false lt ∙ ap Some e in
      let more : pending' ≡ pending ++ v ∷ [] = rw e at m.added in
      rw (m.marked, more) (mark_new v marks pending at)
]

pub mark_meets : {T E : Type 0} (v : ℕ) (marks marks' : List Bool) (pending pending' : List ℕ) (r : Result T E)
    → v < length marks → OnOk r (Meets v marks marks' pending pending') → OnOk r
    (AddsMark v marks pending marks' pending')
mark_meets v marks marks' pending pending' (Ok x) lt m = met_is_marked v marks marks' pending pending' lt m
mark_meets v marks marks' pending pending' (Err e) lt m = tt

module _ {v : ℕ} {marks : List Bool} {pending : List ℕ} {marks' : List Bool} {pending' : List ℕ} where
  pub moves_from_mark : AddsMark v marks pending marks' pending' → AddsMarks marks pending marks' pending'
  moves_from_mark a = record {
    size = a.size;
    steps = a.steps;
    kept = a.kept;
    below = λ h. All-by_get (λ u. u < length marks') pending' (λ k u at. elim (a.new_listed u
        (Contains-from_get pending' k u at)) [
          | inl old ↦ let l : u < length marks = All-contains (λ w. w < length marks) pending u h old in
              omega (arith, a.size)
          | inr e ↦ let l : v < length marks' = slice_get_within marks' v true a.marked in omega arith
        ]);
  }

  -- the marked variables are one more
  pub started_more : (done : List ℕ) → AreStarted done marks pending → AddsMark v marks pending marks' pending'
      → AreStarted (done ++ v ∷ []) marks' pending'
  started_more done s a = record {
    each = λ u. (
      λ h. elim (a.new u h) [
        | inl old ↦ Contains-append_left done (v ∷ []) u ((s.each u).0 old)
        | inr new ↦ subst (λ w. Contains (done ++ v ∷ []) w) (sym new.0) (Contains-push done v)
      ],
      λ h. elim (Contains-push_cases done v u h) [
        | inl old ↦ a.kept u ((s.each u).1 old)
        | inr e ↦ subst (λ w. IsMarked marks' w) e a.marked
      ],
    );
    listed = λ u. (
      λ h. elim (a.new u h) [ inl old ↦ a.listed u ((s.listed u).0 old) | inr new ↦ new.1 ],
      λ h. elim (a.new_listed u h) [
        | inl old ↦ a.kept u ((s.listed u).1 old)
        | inr e ↦ subst (λ w. IsMarked marks' w) (sym e) a.marked
      ],
    );
  }

pub moves_then : {a : List Bool} {p : List ℕ} {b : List Bool} {q : List ℕ} {c : List Bool} {r : List ℕ}
    → AddsMarks a p b q → AddsMarks b q c r → AddsMarks a p c r
moves_then f g = record {
  size = g.size ∙ f.size;
  steps = g.steps ∙ f.steps;
  kept = λ u h. g.kept u (f.kept u h);
  below = λ h. g.below (f.below h);
}

module _ (raw : Raw) (next : List ℕ) (p link : ℕ) (gate : Gate) (at : slice_get raw.gates (p / 2)
    ≡ Some gate) (on : slice_get next p ≡ Some link) where
  -- a gate that waits at position p is this one, or waits further on
  queued_on : (q : ℕ) (g : Gate) → slice_get raw.gates q ≡ Some g → IsQueuedFrom next (suc p) q → (gate ≡ g) ⊎ IsQueuedFrom next link q
  queued_on q g is (o, l, e) = elim (leads_cases next l p refl) [
    | inl same ↦
        let f : q ≡ p / 2 = sym e ∙ ap (λ n. n / 2) same in
        inl (same_element raw.gates (p / 2) gate g at (subst (λ n. slice_get raw.gates n ≡ Some g) f is))
    | inr on' ↦ inr (o, subst (λ n. LeadsTo next n o) (same_element next p on'.0 link on'.1 on) on'.2, e)
  ]

  -- a gate with a side that is not marked
  pub visit_none : (marks : List Bool) (pending levels : List ℕ) → (IsMarked marks (variable gate.rhs0)
      → IsMarked marks (variable gate.rhs1) → ⊥)
      → IsMarking raw next (suc p) marks pending levels → IsMarking raw next link marks pending levels
  visit_none marks pending levels unmarked i = record {
    low = i.low;
    size = i.size;
    each = i.each;
    marked = i.marked;
    closed = λ q g is a b. elim (i.closed q g is a b) [
      | inl h ↦ inl h
      | inr r ↦ elim r [
        | inl h ↦ inr (inl h)
        | inr s ↦ elim s [
          | inl h ↦ inr (inr (inl h))
          | inr w ↦ elim (queued_on q g is w) [
            | inl same ↦ absurd (unmarked (subst (λ (x : Gate). IsMarked marks (variable x.rhs0)) (sym same) a) (subst
                (λ (x : Gate). IsMarked marks (variable x.rhs1)) (sym same) b))
            | inr later ↦ inr (inr (inr later))
          ]
        ]
      ]
    ];
  }

  -- a gate whose two sides are marked
  pub visit_both : (marks : List Bool) (pending : List ℕ) (marks' : List Bool) (pending' levels : List ℕ) (n : ℕ)
      → n ≡ level_above levels gate % 4294967296
      → IsMarked marks (variable gate.rhs0) → IsMarked marks (variable gate.rhs1)
      → AddsMark (variable gate.lhs) marks pending marks' pending'
      → IsMarking raw next (suc p) marks pending levels
      → IsMarking raw next link marks' pending' (set levels (variable gate.lhs) n)
  visit_both marks pending marks' pending' levels n is m0 m1 d i = record {
    low = i.low;
    size = length-set levels (variable gate.lhs) n ∙ i.size ∙ sym d.size;
    each = λ u h. elim (cases_eq u (variable gate.lhs)) [
      | inl e ↦ rw (e, get_or-set_same levels (variable gate.lhs) n 0 within, fits) level
      | inr ne ↦ elim (d.new u h) [
        | inl old ↦ rw (get_or-set_other levels (variable gate.lhs) u n 0 ne) (i.each u old)
        | inr new ↦ absurd (ne new.0)
      ]
    ];
    marked = λ u h. elim (d.new_listed u h) [
      | inl old ↦ d.kept u (i.marked u old)
      | inr e ↦ subst (λ w. IsMarked marks' w) (sym e) d.marked
    ];
    closed = λ q g is a b. elim (d.new _ a) [
      | inr new ↦ inr (inl new.1)
      | inl a' ↦ elim (d.new _ b) [
        | inr new ↦ inr (inr (inl new.1))
        | inl b' ↦ elim (i.closed q g is a' b') [
          | inl h ↦ inl (d.kept _ h)
          | inr r ↦ elim r [
            | inl h ↦ inr (inl (d.listed _ h))
            | inr s ↦ elim s [
              | inl h ↦ inr (inr (inl (d.listed _ h)))
              | inr w ↦ elim (queued_on q g is w) [
                | inl same ↦ inl (subst (λ (x : Gate). IsMarked marks' (variable x.lhs)) same d.marked)
                | inr later ↦ inr (inr (inr later))
              ]
            ]
          ]
        ]
      ]
    ];
  }
    where
      level : Level raw (variable gate.lhs) (level_above levels gate)
      level = grounded.Level.gate (p / 2) gate _ _ at (i.each (variable gate.rhs0) m0) (i.each (variable gate.rhs1) m1)

      fits : n ≡ level_above levels gate
      fits = let low = i.low (variable gate.lhs) (level_above levels gate) level in omega arith

      within : variable gate.lhs < length levels
      within = omega (arith, slice_get_within marks' (variable gate.lhs) true d.marked, d.size, i.size)

-- a variable is taken, and its readers wait at its first link
pub take_pending : (raw : Raw) (gates : List Gate) (first next : List ℕ) (v link : ℕ) (marks : List Bool)
    (pending rest levels : List ℕ)
    → AreKeyChains (sides gates) first next → raw.gates ≡ gates → slice_get first v ≡ Some link → pending ≡ rest ++ v ∷ []
    → IsMarking raw next 0 marks pending levels → IsMarking raw next link marks rest levels
take_pending raw gates first next v link marks pending rest levels links same at is i =
    let back = λ (u : ℕ) (h : Contains pending u). Contains-push_cases rest v u (subst (λ l. Contains l u) is h) in
    let here = λ (u : ℕ) (e : v ≡ u). subst (λ w. slice_get first w ≡ Some link) e at in
    record {
      low = i.low;
      size = i.size;
      each = i.each;
      marked = λ u h. i.marked u (subst (λ l. Contains l u) (sym is) (Contains-append_left rest (v ∷ []) u h));
      closed = λ q g on a b.
          let on' = subst (λ gs. slice_get gs q ≡ Some g) same on in
          elim (i.closed q g on a b) [
            | inl h ↦ inl h
            | inr r ↦ elim r [
              | inl h ↦ elim (back _ h) [
                | inl h' ↦ inr (inl h')
                | inr e ↦ inr (inr (inr (
                  2 * q,
                  links.found (2 * q) _ link (side_first gates q g on')
                      (here _ e),
                  omega arith,
                )))
              ]
              | inr s ↦ elim s [
                | inl h ↦ elim (back _ h) [
                  | inl h' ↦ inr (inr (inl h'))
                  | inr e ↦ inr (inr (inr (
                    2 * q + 1,
                    links.found (2 * q + 1) _ link (side_second gates q g on')
                        (here _ e),
                    omega arith,
                  )))
                ]
                | inr w ↦ absurd (leads_nowhere next w.1 refl)
              ]
            ]
          ];
    }

-- at the end each grounded variable is marked
pub marked_from_grounded : (raw : Raw) (next : List ℕ) (marks : List Bool) (levels : List ℕ)
    → IsMarking raw next 0 marks [] levels
    → ((v : ℕ) → IsSource raw v → IsMarked marks v) → (v : ℕ) → Grounded raw v → IsMarked marks v
marked_from_grounded raw next marks levels i sources v (grounded.source _ s) = sources v s
marked_from_grounded raw next marks levels i sources v (grounded.gate q g at a b) =
    elim (i.closed q g at (marked_from_grounded raw next marks levels i sources _ a)
    (marked_from_grounded raw next marks levels i sources _ b)) [
      | inl h ↦ h
      | inr r ↦ elim r [
        | inl h ↦ absurd (omega (arith, h.1))
        | inr s ↦ elim s [ inl h ↦ absurd (omega (arith, h.1)) | inr w ↦ absurd (leads_nowhere next w.1 refl) ]
      ]
    ]

-- the variables that the search starts from
abbrev pub source_variables : Raw → List ℕ
source_variables raw = 0 ∷ map variable raw.inputs ++ map latch_variable raw.latches

pub slice_get_unmap : {X : Type 0} (f : X → ℕ) (xs : List X) (k v : ℕ) → slice_get (map f xs) k ≡ Some v → (x : X)
    × (slice_get xs k ≡ Some x) × (f x ≡ v)
slice_get_unmap f [] k v h = absurd (none-some v h)
slice_get_unmap f (x ∷ xs) zero v h = (x, refl, same_Some (f x) v h)
slice_get_unmap f (x ∷ xs) (suc k) v h = slice_get_unmap f xs k v h

listed_source : (raw : Raw) (v : ℕ) → IsSource raw v → Contains (source_variables raw) v
listed_source raw v grounded.constant = (0, omega arith, refl)
listed_source raw v (grounded.input p l at) =
    Contains-append_left (0 ∷ map variable raw.inputs) (map latch_variable raw.latches) v
    (Contains-from_get (0 ∷ map variable raw.inputs) (suc p) v (slice_get-map variable raw.inputs p
    ∙ ap (option_map variable) at))
listed_source raw v (grounded.latch p x at) =
    Contains-append_right (0 ∷ map variable raw.inputs) (map latch_variable raw.latches) v
    (Contains-from_get (map latch_variable raw.latches) p v (slice_get-map latch_variable raw.latches p
    ∙ ap (option_map latch_variable) at))

source_listed : (raw : Raw) (v : ℕ) → Contains (source_variables raw) v → IsSource raw v
source_listed raw v h = elim (Contains-append_cases (0 ∷ map variable raw.inputs)
    (map latch_variable raw.latches) v h) [
      | inl a ↦ let k = get_from_Contains (0 ∷ map variable raw.inputs) v a in of_input k.0 k.1
      | inr b ↦
          let k = get_from_Contains (map latch_variable raw.latches) v b in
          let x = slice_get_unmap latch_variable raw.latches k.0 v k.1 in
          subst (λ w. IsSource raw w) x.2 (grounded.latch k.0 x.0 x.1)
    ]
  where
    of_input : (k : ℕ) → slice_get (0 ∷ map variable raw.inputs) k ≡ Some v → IsSource raw v
    of_input zero e = subst (λ w. IsSource raw w) (same_Some 0 v e) grounded.constant
    of_input (suc k) e =
        let x = slice_get_unmap variable raw.inputs k v e in
        subst (λ w. IsSource raw w) x.2 (grounded.input k x.0 x.1)

module _ (raw : Raw) (sound : IsSound raw) (next : List ℕ) (marks : List Bool) (pending : List ℕ) (s : AreStarted
    (source_variables raw) marks pending) where
  -- the search begins
  marking_starts : (levels : List ℕ) → raw.max_var ≤ limit → levels ≡ replicate (raw.max_var + 1) 0
      → length marks ≡ raw.max_var + 1 → IsMarking raw next 0 marks pending levels
  marking_starts levels fits zeros size = record {
    low = λ v n known. let le = level_bound raw sound known in omega arith;
    size = ap length zeros ∙ length-replicate (raw.max_var + 1) 0 ∙ sym size;
    each = λ v h. rw (
      zeros,
      get_or-replicate {A = ℕ} (raw.max_var + 1) v 0 0 (let lt = slice_get_within marks v true h
          in omega arith),
    ) (grounded.Level.source v (source_listed raw v ((s.each v).0 h)));
    marked = λ v h. (s.listed v).1 h;
    closed = λ q g at a b. inr (inl ((s.listed _).0 a));
  }

  -- the search ends: the marks are those of the grounded variables, and the levels are theirs
  pub marking_ends : (levels : List ℕ) (marks' : List Bool) (levels' : List ℕ) → raw.max_var ≤ limit
      → levels ≡ replicate (raw.max_var + 1) 0 → length marks ≡ raw.max_var + 1 → length marks' ≡ length marks
      → (IsMarking raw next 0 marks pending levels → IsMarking raw next 0 marks' [] levels')
      → ((v : ℕ) → IsMarked marks v → IsMarked marks' v) → AreGroundedMarks raw marks' × AreLevels raw levels'
  marking_ends levels marks' levels' fits zeros size size' moves kept = (
    record { size = size' ∙ size; each = λ v. (λ h. Grounded-of_level (i.each v h), found v) },
    record {
      size = i.size ∙ size' ∙ size;
      each = λ v n known.
          let h = found v (Grounded-of_level known) in
          slice_get-get_or levels' v 0 (omega (arith, slice_get_within marks' v true h, i.size))
          ∙ ap Some (same_level sound (i.each v h) known);
    },
  )
    where
      i : IsMarking raw next 0 marks' [] levels'
      i = moves (marking_starts levels fits zeros size)

      found : (v : ℕ) → Grounded raw v → IsMarked marks' v
      found = marked_from_grounded raw next marks' levels' i (λ u h. kept u ((s.each u).1 (listed_source raw u h)))

-- the first sources, before a loop and one input or latch on
pub started_same : (xs ys : List ℕ) (marks : List Bool) (pending : List ℕ) → xs ≡ ys → AreStarted xs marks pending
    → AreStarted ys marks pending
started_same xs ys marks pending e s = subst (λ zs. AreStarted zs marks pending) e s
