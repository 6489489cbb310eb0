-- The walk that finds what a property reads.
use Rattle.std.proofs.Common.{◌≡◌, inl, inr, ℕ, ◌+◌, ◌<◌, List, [], ◌∷◌, ◌++◌, length, set, get_or, Bool, true, false}
use Rattle.std.proofs.Common.{Some, slice_get, take, replicate, refl, sym, ◌∙◌, ap, subst, arith, get_or-set_same, length-set}
use Rattle.std.proofs.Common.{◌≤◌, All, Result, Ok, Err, Contains}
use Rattle.std.specs.Prelude.{OnOk}
use Rattle.std.proofs.lemmas.Bool.{cases_Bool, false≢true}
use Rattle.std.proofs.lemmas.List.{get_or-replicate, length-replicate, set-get_or, take_more}
use Rattle.std.proofs.lemmas.List.Elements.{All-append, All-cons, All-nil, All-weaker}
use Rattle.std.proofs.lemmas.List.Elements.{Contains-append_left, Contains-push, Contains-push_cases}
use Rattle.std.proofs.lemmas.Option.{get_or_from_slice_get, slice_get-get_or, slice_get_within}
use Rattle.aig_base.specs.Definition.{Defines, IsFree}
use Rattle.aig_base.specs.declared.circuit.definition.Definition.TheVariants as definition
use Rattle.aig_parts.specs.Literal.{variable}
use Rattle.aig_parts.specs.declared.gate.Gate.{Gate}
use Rattle.aig_parts.specs.declared.latch.Latch.{Latch}
use Rattle.aig_parts.specs.declared.raw.Raw.{Raw}
use Rattle.aig_base.specs.Part as by
use Rattle.aig_base.specs.Circuit.{IsCircuit}
use Rattle.aig_base.specs.Part.{AreReadMarks, IsRead, TestsRead}
use Rattle.aig_base.specs.Sections.{definitions, uses}
use Rattle.aig_base.specs.Sound.{IsInRange, IsSound}
use Rattle.aig_base.specs.state.ReadWalk.{HasMet, IsFollowed, IsMet, IsReading}
use Rattle.aig_base.specs.state.Walk.{Meets}
use Rattle.aig_base.proofs.checks.Walks.{meets_keep, meets_mark, meets_size, met_within, only_element, stays_met, was_met}
use Rattle.aig_base.proofs.circuits.Gates.{same_gate, sides_in_range}
use Rattle.aig_base.proofs.circuits.Places.{gate, input, latch}
use Rattle.aig_base.proofs.circuits.Roles.{one_place}
use Rattle.aig_base.proofs.renumbered.Renumberings.{not_free}
use Rattle.aig_base.proofs.circuits.EachUse.{each_use}
use Rattle.aig_base.proofs.lists.Gets.{All-at}
use Rattle.aig_base.proofs.lists.Joined.{All-right}
use Rattle.aig_base.proofs.lists.Positions.{no_element}

module _ (raw : Raw) (bad : ℕ) where
  stays_followed : (met : List Bool) (x v : ℕ) → x < length met → IsFollowed raw met v → IsFollowed raw (set met x true) v
  stays_followed met x v lt c = record {
    sides = λ q g at e. let (m0, m1) = c.sides q g at e in
        (stays_met met x (variable g.rhs0) lt m0, stays_met met x (variable g.rhs1) lt m1);
    next = λ p y at e. stays_met met x (variable y.next) lt (c.next p y at e);
  }

  pub reading_none : (met : List Bool) (pending : List ℕ) → met ≡ replicate (raw.max_var + 1) false → pending ≡ []
      → IsReading raw bad pending [] met
  reading_none met pending is e = record {
    size = ap length is ∙ length-replicate (raw.max_var + 1) false;
    read = λ v h. absurd (unmet v h);
    pending_met = λ v h. absurd (no_element v (rw e at h));
    owed_met = λ v h. absurd (no_element v h);
    each = λ v h. absurd (unmet v h);
  }
    where
      unmet : (v : ℕ) → get_or met v false ≡ true → ⊥
      unmet v h =
          let lt = met_within met v h in
          let size : length met ≡ raw.max_var + 1 = ap length is ∙ length-replicate (raw.max_var + 1) false in
          false≢true (sym (get_or-replicate (raw.max_var + 1) v false false (omega arith))
          ∙ sym (ap (λ xs. get_or xs v false) is) ∙ h)

  reading_again : (x : ℕ) (pending owed : List ℕ) (met : List Bool) → get_or met x false ≡ true
      → IsReading raw bad pending owed met → IsReading raw bad pending owed (set met x true)
  reading_again x pending owed met h w =
      let e : set met x true ≡ met = ap (set met x) (sym h) ∙ set-get_or met x false in
      rw e w

  reading_new : (x : ℕ) (pending owed : List ℕ) (met : List Bool) → x < length met → IsRead raw bad x
      → IsReading raw bad pending owed met → IsReading raw bad (pending ++ x ∷ []) owed (set met x true)
  reading_new x pending owed met lt r w = record {
    size = length-set met x true ∙ w.size;
    read = λ v h. elim (was_met met x v h) [ inl e ↦ rw e r | inr k ↦ w.read v k ];
    pending_met = λ v h. elim (Contains-push_cases pending x v h) [
      | inl k ↦ stays_met met x v lt (w.pending_met v k)
      | inr e ↦ rw (← e) (get_or-set_same met x true false lt)
    ];
    owed_met = λ v h. stays_met met x v lt (w.owed_met v h);
    each = λ v h. elim (was_met met x v h) [
      | inl e ↦ inl (rw e (Contains-push pending x))
      | inr k ↦ elim (w.each v k) [
        | inl p ↦ inl (Contains-append_left pending (x ∷ []) v p)
        | inr o ↦ elim o [
          | inl p ↦ inr (inl p)
          | inr c ↦ inr (inr (stays_followed met x v lt c))
        ]
      ]
    ];
  }

  -- a variable that is read is met
  pub reading_meet : (x : ℕ) (pending pending' owed : List ℕ) (met met' : List Bool) → x < length met → IsRead raw bad x
      → Meets x met met' pending pending' → IsReading raw bad pending owed met → IsReading raw bad pending' owed met'
  reading_meet x pending pending' owed met met' lt r m w = elim (cases_Bool (get_or met x false)) [
    | inl e ↦
        (let same : pending' ≡ pending = rw e at m.added in
        rw (m.marked, same) (reading_again x pending owed met e w))
    | inr e ↦
        (let same : pending' ≡ pending ++ x ∷ [] = rw e at m.added in
        rw (m.marked, same) (reading_new x pending owed met lt r w))
  ]

  -- the last pending variable is taken
  pub reading_pop : (u : ℕ) (pending rest : List ℕ) (met : List Bool) → pending ≡ rest ++ u ∷ []
      → IsReading raw bad pending [] met → IsReading raw bad rest (u ∷ []) met
  reading_pop u pending rest met e w = record {
    size = w.size;
    read = w.read;
    pending_met = λ v h. w.pending_met v (rw e (Contains-append_left rest (u ∷ []) v h));
    owed_met = λ v h. w.pending_met v (rw (e, ← only_element u v h) (Contains-push rest u));
    each = λ v h. elim (w.each v h) [
      | inl p ↦ elim (Contains-push_cases rest u v (rw e at p)) [
        | inl k ↦ inl k
        | inr k ↦ inr (inl (rw (← k) (Contains-push [] u)))
      ]
      | inr o ↦ elim o [
        | inl p ↦ absurd (no_element v p)
        | inr c ↦ inr (inr c)
      ]
    ];
  }

  -- it is followed
  pub reading_follow : (u : ℕ) (pending : List ℕ) (met : List Bool) → IsFollowed raw met u
      → IsReading raw bad pending (u ∷ []) met → IsReading raw bad pending [] met
  reading_follow u pending met c w = record {
    size = w.size;
    read = w.read;
    pending_met = w.pending_met;
    owed_met = λ v h. absurd (no_element v h);
    each = λ v h. elim (w.each v h) [
      | inl p ↦ inl p
      | inr o ↦ elim o [
        | inl p ↦ inr (inr (rw (← only_element u v p) c))
        | inr k ↦ inr (inr k)
      ]
    ];
  }

  -- ---- the end

  -- where the property and the constraints were met and nothing is pending, what was met is what is read
  pub reading_done : (met : List Bool) → IsReading raw bad [] [] met → IsMet met (variable bad)
      → ((c l : ℕ) → slice_get raw.constraints c ≡ Some l → IsMet met (variable l)) → TestsRead raw bad (λ v. get_or met v false)
  reading_done met w property constraints v = (w.read v, λ h. back h)
    where
      followed : (u : ℕ) → IsMet met u → IsFollowed raw met u
      followed u h = elim (w.each u h) [
        | inl p ↦ absurd (no_element u p)
        | inr o ↦ elim o [ inl p ↦ absurd (no_element u p) | inr c ↦ c ]
      ]

      back : {u : ℕ} → IsRead raw bad u → IsMet met u
      back by.property = property
      back (by.constraint c l at) = constraints c l at
      back (by.first q g at r) = ((followed (variable g.lhs) (back r)).sides q g at refl).0
      back (by.second q g at r) = ((followed (variable g.lhs) (back r)).sides q g at refl).1
      back (by.next p x at r) = (followed (variable x.lit) (back r)).next p x at refl

-- ---- what a variable reads

module _ (raw : Raw) (sound : IsSound raw) (u : ℕ) (met : List Bool) where
  followed_gate : (q : ℕ) (g : Gate) → slice_get raw.gates q ≡ Some g → variable g.lhs ≡ u → IsMet met (variable g.rhs0)
      → IsMet met (variable g.rhs1) → IsFollowed raw met u
  followed_gate q g there is m0 m1 = record {
    sides = λ r h at e.
        let same : h ≡ g = same_gate raw sound r q h g at there (e ∙ sym is) in
        (subst (λ (k : Gate). IsMet met (variable k.rhs0)) (sym same) m0, subst (λ (k : Gate). IsMet met (variable k.rhs1)) (sym same) m1);
    next = λ p x at e. absurd (let k = one_place raw sound (gate q) (latch p) g.lhs x.lit tt tt (g, there, refl) (x, at, refl) (is ∙ sym e) in cc);
  }

  followed_latch : (p : ℕ) (x : Latch) → slice_get raw.latches p ≡ Some x → variable x.lit ≡ u → IsMet met (variable x.next)
      → IsFollowed raw met u
  followed_latch p x there is m = record {
    sides = λ q g at e. absurd (let k = one_place raw sound (gate q) (latch p) g.lhs x.lit tt tt (g, at, refl) (x, there, refl) (e ∙ sym is) in cc);
    next = λ r y at e.
        let k = one_place raw sound (latch r) (latch p) y.lit x.lit tt tt (y, at, refl) (x, there, refl) (e ∙ sym is) in
        let place : r ≡ p = cc in
        let same : y ≡ x = (let f : Some y ≡ Some x = sym at ∙ ap (slice_get raw.latches) place ∙ there in cc) in
        subst (λ (z : Latch). IsMet met (variable z.next)) (sym same) m;
  }

  pub followed_input : (p : ℕ) → Defines raw u (definition.Input p) → IsFollowed raw met u
  followed_input p (l, there, is) = record {
    sides = λ q g at e. absurd (let k = one_place raw sound (gate q) (input p) g.lhs l tt tt (g, at, refl) there (e ∙ sym is) in cc);
    next = λ r x at e. absurd (let k = one_place raw sound (latch r) (input p) x.lit l tt tt (x, at, refl) there (e ∙ sym is) in cc);
  }

  pub followed_free : IsFree raw u → IsFollowed raw met u
  followed_free free = record {
    sides = λ q g at e. absurd (not_free raw (gate q) g.lhs u tt (g, at, refl) e free);
    next = λ p x at e. absurd (not_free raw (latch p) x.lit u tt (x, at, refl) e free);
  }

-- the gate or the latch that was found
pub gate_there : (raw : Raw) (u q : ℕ) (gates : List Gate) (g : Gate) → gates ≡ raw.gates → g ≡ get_or gates q g
    → Defines raw u (definition.Gate q) → (slice_get raw.gates q ≡ Some g) × (variable g.lhs ≡ u)
gate_there raw u q gates g e is (h, at, lhs) =
    let here : g ≡ get_or raw.gates q g = is ∙ ap (λ (gs : List Gate). get_or gs q g) e in
    let there : slice_get raw.gates q ≡ Some g = slice_get-get_or raw.gates q g (slice_get_within raw.gates q h at) ∙ ap Some (sym here) in
    let same : h ≡ g = (let f : Some h ≡ Some g = sym at ∙ there in cc) in
    (there, ap (λ (k : Gate). variable k.lhs) (sym same) ∙ lhs)

pub latch_there : (raw : Raw) (u p : ℕ) (latches : List Latch) (x : Latch) → latches ≡ raw.latches → x ≡ get_or latches p x
    → Defines raw u (definition.Latch p) → (slice_get raw.latches p ≡ Some x) × (variable x.lit ≡ u)
latch_there raw u p latches x e is (y, at, lit) =
    let here : x ≡ get_or raw.latches p x = is ∙ ap (λ (xs : List Latch). get_or xs p x) e in
    let there : slice_get raw.latches p ≡ Some x =
    slice_get-get_or raw.latches p x (slice_get_within raw.latches p y at) ∙ ap Some (sym here) in
    let same : y ≡ x = (let f : Some y ≡ Some x = sym at ∙ there in cc) in
    (there, ap (λ (z : Latch). variable z.lit) (sym same) ∙ lit)

module _ (raw : Raw) (sound : IsSound raw) (bad u : ℕ) where
  u_read : (pending : List ℕ) (met : List Bool) → IsReading raw bad pending (u ∷ []) met → IsRead raw bad u
  u_read pending met w = w.read u (w.owed_met u (0, omega arith, refl))

  pub read_gate : (q : ℕ) (g : Gate) → slice_get raw.gates q ≡ Some g → variable g.lhs ≡ u → (p0 p1 p2 : List ℕ) (m0 m1 m2 : List Bool)
      → Meets (variable g.rhs0) m0 m1 p0 p1 → Meets (variable g.rhs1) m1 m2 p1 p2 → IsReading raw bad p0 (u ∷ []) m0
      → IsReading raw bad p2 [] m2
  read_gate q g at is p0 p1 p2 m0 m1 m2 meet0 meet1 w =
      let size = meets_size (variable g.rhs0) p0 p1 m0 m1 meet0 in
      let (in0, in1) = sides_in_range raw sound q g at in
      let lt0 : variable g.rhs0 < length m0 = omega (arith, in0, w.size) in
      let lt1 : variable g.rhs1 < length m1 = omega (arith, in1, w.size, size) in
      let r : IsRead raw bad (variable g.lhs) = subst (IsRead raw bad) (sym is) (u_read p0 m0 w) in
      let w1 = reading_meet raw bad (variable g.rhs0) p0 p1 (u ∷ []) m0 m1 lt0 (by.first q g at r) meet0 w in
      let w2 = reading_meet raw bad (variable g.rhs1) p1 p2 (u ∷ []) m1 m2 lt1 (by.second q g at r) meet1 w1 in
      reading_follow raw bad u p2 m2
      (followed_gate raw sound u m2 q g at is
      (meets_keep (variable g.rhs1) (variable g.rhs0) p1 p2 m1 m2 lt1 meet1 (meets_mark (variable g.rhs0) p0 p1 m0 m1 lt0 meet0))
      (meets_mark (variable g.rhs1) p1 p2 m1 m2 lt1 meet1)) w2

  pub read_latch : (p : ℕ) (x : Latch) → slice_get raw.latches p ≡ Some x → variable x.lit ≡ u → (p0 p1 : List ℕ) (m0 m1 : List Bool)
      → variable x.next < length m0 → Meets (variable x.next) m0 m1 p0 p1 → IsReading raw bad p0 (u ∷ []) m0
      → IsReading raw bad p1 [] m1
  read_latch p x at is p0 p1 m0 m1 lt meet w =
      let r : IsRead raw bad (variable x.lit) = subst (IsRead raw bad) (sym is) (u_read p0 m0 w) in
      let w1 = reading_meet raw bad (variable x.next) p0 p1 (u ∷ []) m0 m1 lt (by.next p x at r) meet w in
      reading_follow raw bad u p1 m1 (followed_latch raw sound u m1 p x at is (meets_mark (variable x.next) p0 p1 m0 m1 lt meet)) w1

-- ---- the whole walk

pub on_ok : {A E P Q : Type 0} (r : Result A E) → OnOk r P → (P → Q) → OnOk r Q
on_ok (Ok x) h f = f h
on_ok (Err e) h f = tt

module _ (raw : Raw) (circuit : IsCircuit raw) (bad : ℕ) where
  pub has_begun : (p0 p1 : List ℕ) (m0 m1 : List Bool) → m0 ≡ replicate (raw.max_var + 1) false → p0 ≡ []
      → variable bad < length m0 → Meets (variable bad) m0 m1 p0 p1 → HasMet raw bad [] p1 m1
  has_begun p0 p1 m0 m1 is e lt meet = record {
    reading = reading_meet raw bad (variable bad) p0 p1 [] m0 m1 lt by.property meet (reading_none raw bad m0 p0 is e);
    property = meets_mark (variable bad) p0 p1 m0 m1 lt meet;
    each = All-nil (λ l. IsMet m1 (variable l));
  }

  pub constraint_below : (i l : ℕ) → slice_get raw.constraints i ≡ Some l → variable l ≤ raw.max_var
  constraint_below i l at =
      let r : IsInRange raw l =
      All-at (IsInRange raw) raw.constraints i l
      (each_use (IsInRange raw) raw (All-right (IsInRange raw) (definitions raw) (uses raw) circuit.sound.in_range)).constraints at in
      omega (arith, r)

  pub has_more : (i l : ℕ) (p0 p1 : List ℕ) (m0 m1 : List Bool) → slice_get raw.constraints i ≡ Some l
      → Meets (variable l) m0 m1 p0 p1 → HasMet raw bad (take i raw.constraints) p0 m0
      → HasMet raw bad (take (i + 1) raw.constraints) p1 m1
  has_more i l p0 p1 m0 m1 at meet h =
      let low = constraint_below i l at in
      let lt : variable l < length m0 = omega (arith, low, h.reading.size) in
      let within = slice_get_within raw.constraints i l at in
      let more : take (i + 1) raw.constraints ≡ take i raw.constraints ++ l ∷ [] =
      take_more raw.constraints i l within
      ∙ ap (λ k. take i raw.constraints ++ k ∷ []) (get_or_from_slice_get raw.constraints i l l at) in
      record {
        reading = reading_meet raw bad (variable l) p0 p1 [] m0 m1 lt (by.constraint i l at) meet h.reading;
        property = meets_keep (variable l) (variable bad) p0 p1 m0 m1 lt meet h.property;
        each = subst (All (λ k. IsMet m1 (variable k))) (sym more)
            (All-append (λ k. IsMet m1 (variable k)) (take i raw.constraints) (l ∷ [])
            (All-weaker (λ k. IsMet m0 (variable k)) (λ k. IsMet m1 (variable k))
            (λ k met. meets_keep (variable l) (variable k) p0 p1 m0 m1 lt meet met) (take i raw.constraints) h.each)
            (All-cons (λ k. IsMet m1 (variable k)) l [] (meets_mark (variable l) p0 p1 m0 m1 lt meet)
            (All-nil (λ k. IsMet m1 (variable k)))));
      }

  pub has_next : (u : ℕ) (pending rest p1 : List ℕ) (m0 m1 : List Bool) → pending ≡ rest ++ u ∷ []
      → (IsReading raw bad rest (u ∷ []) m0 → IsReading raw bad p1 [] m1) → ((v : ℕ) → IsMet m0 v → IsMet m1 v)
      → HasMet raw bad raw.constraints pending m0 → HasMet raw bad raw.constraints p1 m1
  has_next u pending rest p1 m0 m1 e step keep h = record {
    reading = step (reading_pop raw bad u pending rest m0 e h.reading);
    property = keep (variable bad) h.property;
    each = All-weaker (λ k. IsMet m0 (variable k)) (λ k. IsMet m1 (variable k)) (λ k met. keep (variable k) met) raw.constraints h.each;
  }

  pub has_all : (pending : List ℕ) (met : List Bool) → pending ≡ [] → HasMet raw bad raw.constraints pending met
      → AreReadMarks raw bad met
  has_all pending met e h = record {
    size = h.reading.size;
    exact = reading_done raw bad met (subst (λ (p : List ℕ). IsReading raw bad p [] met) e h.reading) h.property
        (λ c l at. All-at (λ k. IsMet met (variable k)) raw.constraints c l h.each at);
  }
