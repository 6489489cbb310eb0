-- A cut circuit is a circuit, if it is within the limits.
use Rattle.std.proofs.Common.{◌≡◌, ◌⊎◌, inl, inr, ℕ, zero, suc, ◌+◌, ◌*◌, ◌<◌, ◌≤◌, Bool, true, false, List, [], ◌∷◌, ◌++◌, length}
use Rattle.std.proofs.Common.{Some, slice_get, refl, sym, ◌∙◌, ap, ap₂, subst, arith, append_assoc, All, map, option_map}
use Rattle.std.proofs.lemmas.List.Elements.{All-append, All-weaker}
use Rattle.std.proofs.lemmas.Option.{none-some, same_Some, slice_get-map, slice_get_within}
use Rattle.aig_parts.specs.declared.gate.Gate.{Gate}
use Rattle.aig_parts.specs.declared.latch.Latch.{Latch}
use Rattle.aig_parts.specs.declared.raw.Raw.{Raw}
use Rattle.aig_parts.specs.Literal.{variable}
use Rattle.aig_base.specs.Circuit.{IsCircuit}
use Rattle.aig_base.specs.Grounded as grounded
use Rattle.aig_base.specs.Grounded.{Grounded, IsSource}
use Rattle.aig_base.specs.Sections.{IsDefined, definitions, uses}
use Rattle.aig_base.specs.Sound.{IsDefinition, IsInRange, IsRedefined, IsReset, IsSound}
use Rattle.aig_base.proofs.circuits.Circuits.{gate_defined, input_defined, latch_defined}
use Rattle.aig_base.proofs.circuits.Defined.{Grounded-of_defined, defined_cases}
use Rattle.aig_base.proofs.circuits.EachUse.{all_uses, each_use}
use Rattle.aig_base.proofs.lists.Gets.{All-at, All-by_get}
use Rattle.aig_base.proofs.lists.Joined.{All-left, All-right}
use Rattle.aig_base.proofs.lists.Positions.{Contains-from_slice_get, position_of, slice_get_left, slice_get_right, stands_at}
use Rattle.aig_base.proofs.lists.Positions.{unmap, unmap_option}
use Rattle.aig_cut.specs.Cut.{IsCut, IsCutGate, IsCutLatch, StandsFor}
use Rattle.aig_cut.specs.Cuts.{Cuts, named_by}
use Rattle.aig_cut.specs.CutOf.{cut_gate, cut_gates, cut_latches, cut_of, gate_inputs, in_front, latch_inputs, new_inputs, one_more}
use Rattle.aig_cut.specs.Lines.{IsCutBy, IsOverLimit}
use Rattle.aig_cut.proofs.CutParts.{cut_formed, gates_many}
use Rattle.aig_cut.proofs.CutsAre.{cut_of_circuit}

-- what stands in joined lists stands in the first, or in the second
split : (ls ms : List ℕ) (i l : ℕ) → slice_get (ls ++ ms) i ≡ Some l
    → (slice_get ls i ≡ Some l) ⊎ ((k : ℕ) × (i ≡ length ls + k) × (slice_get ms k ≡ Some l))
split [] ms i l at = inr (i, omega arith, at)
split (a ∷ ls) ms zero l at = inl at
split (a ∷ ls) ms (suc i) l at = elim (split ls ms i l at) [
  | inl h ↦ inl h
  | inr h ↦ inr (h.0, omega (arith, h.1), h.2)
]

-- ---- the new inputs have the next literals in turn

front_at : (f : Bool) (v : ℕ) (ls : List ℕ) → ((k l : ℕ) → slice_get ls k ≡ Some l → l ≡ 2 * (one_more f v + k))
    → (k l : ℕ) → slice_get (in_front f (2 * v) ls) k ≡ Some l → l ≡ 2 * (v + k)
unfolding in_front one_more
front_at true v ls later zero l at = let e : 2 * v ≡ l = same_Some (2 * v) l at in omega (arith, e)
front_at true v ls later (suc k) l at = let e = later k l at in omega (arith, e)
front_at false v ls later k l at = later k l at

latch_new : (cuts : Cuts) (v : ℕ) (xs : List Latch) (k l : ℕ) → slice_get (latch_inputs cuts v xs) k ≡ Some l → l ≡ 2 * (v + k)
unfolding latch_inputs
latch_new cuts v [] k l at = absurd (none-some l at)
latch_new cuts v (x ∷ xs) k l at =
    front_at (cuts.free x.lit) v (latch_inputs cuts (one_more (cuts.free x.lit) v) xs)
    (latch_new cuts (one_more (cuts.free x.lit) v) xs) k l at

gate_new : (cuts : Cuts) (v : ℕ) (gs : List Gate) (k l : ℕ) → slice_get (gate_inputs cuts v gs) k ≡ Some l → l ≡ 2 * (v + k)
unfolding gate_inputs
gate_new cuts v [] k l at = absurd (none-some l at)
gate_new cuts v (g ∷ gs) k l at =
    front_at (cuts.free g.lhs) v (gate_inputs cuts (one_more (cuts.free g.lhs) v) gs)
    (gate_new cuts (one_more (cuts.free g.lhs) v) gs) k l at

-- ---- the others stay

same_lits : (cuts : Cuts) (v : ℕ) (xs : List Latch)
    → map (λ (x : Latch). x.lit) (cut_latches cuts v xs) ≡ map (λ (x : Latch). x.lit) xs
unfolding cut_latches
same_lits cuts v [] = refl
same_lits cuts v (x ∷ xs) = ap (λ (ls : List ℕ). x.lit ∷ ls) (same_lits cuts (one_more (cuts.free x.lit) v) xs)

same_side : (f : Bool) (v : ℕ) (g : Gate) → (cut_gate f v g).lhs ≡ g.lhs
unfolding cut_gate
same_side true v g = refl
same_side false v g = refl

same_sides : (cuts : Cuts) (v : ℕ) (gs : List Gate)
    → map (λ (g : Gate). g.lhs) (cut_gates cuts v gs) ≡ map (λ (g : Gate). g.lhs) gs
unfolding cut_gates
same_sides cuts v [] = refl
same_sides cuts v (g ∷ gs) =
    ap₂ (λ (l : ℕ) (ls : List ℕ). l ∷ ls) (same_side (cuts.free g.lhs) v g)
    (same_sides cuts (one_more (cuts.free g.lhs) v) gs)

module _ (cuts : Cuts) (raw : Raw) (circuit : IsCircuit raw) where
  abbrev v : ℕ
  v = raw.max_var + 1

  abbrev x : Raw
  x = cut_of cuts raw

  abbrev new : List ℕ
  new = new_inputs cuts raw

  abbrev lits : List ℕ
  lits = map (λ (y : Latch). y.lit) raw.latches

  abbrev sides : List ℕ
  sides = map (λ (g : Gate). g.lhs) raw.gates

  cut : IsCut raw x
  cut = cut_of_circuit cuts raw circuit

  new_at : (k l : ℕ) → slice_get new k ≡ Some l → l ≡ 2 * (v + k)
  new_at k l at =
      let first : List ℕ = latch_inputs cuts v raw.latches in
      elim (split first (gate_inputs cuts (v + length first) raw.gates) k l at) [
        | inl h ↦ latch_new cuts v raw.latches k l h
        | inr h ↦
            let e = gate_new cuts (v + length first) raw.gates h.0 l h.2 in
            let p = h.1 in
            omega (arith, e, p)
      ]

  -- ---- definitions

  defined_there : definitions x ≡ raw.inputs ++ (new ++ (lits ++ sides))
  defined_there =
      ap₂ (λ (ls ms : List ℕ). ((raw.inputs ++ new) ++ ls) ++ ms) (same_lits cuts v raw.latches)
      (same_sides cuts (v + length (latch_inputs cuts v raw.latches)) raw.gates)
      ∙ append_assoc (raw.inputs ++ new) lits sides ∙ append_assoc raw.inputs new (lits ++ sides)

  defined_here : definitions raw ≡ raw.inputs ++ (lits ++ sides)
  defined_here = append_assoc raw.inputs lits sides

  -- a place of the circuit's definitions, and the one that it has there
  IsMoved : ℕ → ℕ → Type 0
  IsMoved i j = ((i < length raw.inputs) × (j ≡ i)) ⊎ ((length raw.inputs ≤ j) × (i ≡ j + length new))

  IsNew : ℕ → ℕ → Type 0
  IsNew i l = (k : ℕ) × (i ≡ length raw.inputs + k) × (k < length new) × (l ≡ 2 * (v + k))

  IsOld : ℕ → ℕ → Type 0
  unfolding IsMoved
  IsOld i l = (j : ℕ) × (slice_get (definitions raw) j ≡ Some l) × IsMoved i j

  origin : (i l : ℕ) → slice_get (definitions x) i ≡ Some l → IsNew i l ⊎ IsOld i l
  unfolding IsMoved IsNew IsOld
  origin i l at =
      elim (split raw.inputs (new ++ (lits ++ sides)) i l (subst (λ (ls : List ℕ). slice_get ls i ≡ Some l) defined_there at)) [
        | inl h ↦ inr (i, old i (slice_get_left raw.inputs (lits ++ sides) i l h), inl (slice_get_within raw.inputs i l h, refl))
        | inr h ↦
            let p = h.1 in
            elim (split new (lits ++ sides) h.0 l h.2) [
              | inl fresh ↦ inl (h.0, h.1, slice_get_within new h.0 l fresh, new_at h.0 l fresh)
              | inr later ↦
                  let q = later.1 in
                  inr (
                    length raw.inputs + later.0,
                    old (length raw.inputs + later.0) (slice_get_right raw.inputs (lits ++ sides) later.0 l later.2),
                    inr (omega arith, omega (arith, p, q)),
                  )
            ]
      ]
    where
      old : (j : ℕ) → slice_get (raw.inputs ++ (lits ++ sides)) j ≡ Some l → slice_get (definitions raw) j ≡ Some l
      old j h = subst (λ (ls : List ℕ). slice_get ls j ≡ Some l) (sym defined_here) h

  old_in_range : (j l : ℕ) → slice_get (definitions raw) j ≡ Some l → l ≤ 2 * raw.max_var + 1
  old_in_range j l at =
      All-at (IsInRange raw) (definitions raw) j l (All-left (IsInRange raw) (definitions raw) (uses raw) circuit.sound.in_range) at

  definitions_in_range : All (IsInRange x) (definitions x)
  unfolding IsMoved IsNew IsOld
  definitions_in_range = All-by_get (IsInRange x) (definitions x) (λ i l at. elim (origin i l at) [
    | inl fresh ↦ let lt = fresh.2 in let e = fresh.3 in omega (arith, lt, e)
    | inr old ↦ let le = old_in_range old.0 l old.1 in omega (arith, le)
  ])

  are_definitions : All IsDefinition (definitions x)
  unfolding IsMoved IsNew IsOld
  are_definitions = All-by_get IsDefinition (definitions x) (λ i l at. elim (origin i l at) [
    | inl fresh ↦ let e = fresh.3 in (omega (arith, e), omega (arith, e))
    | inr old ↦ All-at IsDefinition (definitions raw) old.0 l circuit.sound.definitions old.1
  ])

  -- no variable is defined twice
  once : (w : ℕ) → IsRedefined x w → ⊥
  unfolding IsMoved IsNew IsOld
  once w (i, j, lt, at, is) =
      let (l, here, l_is) = unmap_option variable (slice_get (definitions x) i) w (sym (slice_get-map variable (definitions x) i) ∙ at) in
      let (m, there, m_is) = unmap_option variable (slice_get (definitions x) j) w (sym (slice_get-map variable (definitions x) j) ∙ is) in
      elim (origin i l here) [
        | inl fresh ↦
            let a = fresh.1 in
            let b = fresh.3 in
            elim (origin j m there) [
              | inl other ↦ let c = other.1 in let d = other.3 in omega (arith, a, b, c, d, lt, l_is, m_is)
              | inr other ↦ let le = old_in_range other.0 m other.1 in omega (arith, b, le, l_is, m_is)
            ]
        | inr known ↦
            elim (origin j m there) [
              | inl other ↦
                  let d = other.3 in
                  let le = old_in_range known.0 l known.1 in
                  omega (arith, d, le, l_is, m_is)
              | inr other ↦
                  circuit.sound.once w (
                    known.0,
                    other.0,
                    in_order i j known.0 other.0 lt known.2 other.2,
                    slice_get-map variable (definitions raw) known.0 ∙ ap (λ o. option_map variable o) known.1 ∙ ap Some l_is,
                    slice_get-map variable (definitions raw) other.0 ∙ ap (λ o. option_map variable o) other.1 ∙ ap Some m_is,
                  )
            ]
      ]
    where
      in_order : (i j a b : ℕ) → i < j → IsMoved i a → IsMoved j b → a < b
      in_order i j a b lt (inl f) (inl g) = let p = f.1 in let q = g.1 in omega (arith, lt, p, q)
      in_order i j a b lt (inl f) (inr g) = let p = f.0 in let q = f.1 in let r = g.0 in omega (arith, p, q, r)
      in_order i j a b lt (inr f) (inl g) =
          let p = f.0 in let q = f.1 in let r = g.0 in let s = g.1 in omega (arith, lt, p, q, r, s)
      in_order i j a b lt (inr f) (inr g) = let p = f.1 in let q = g.1 in omega (arith, lt, p, q)

  -- ---- the same latches and gates

  latch_there : (p : ℕ) (y : Latch) → slice_get raw.latches p ≡ Some y
      → (z : Latch) × (slice_get x.latches p ≡ Some z) × IsCutLatch cut.new cut.meant y z
  latch_there p y at =
      let many = cut.latches_many in
      let (z, there) = stands_at x.latches p (omega (arith, many, slice_get_within raw.latches p y at)) in
      (z, there, cut.latches_are p y z at there)

  latch_here : (p : ℕ) (z : Latch) → slice_get x.latches p ≡ Some z
      → (y : Latch) × (slice_get raw.latches p ≡ Some y) × IsCutLatch cut.new cut.meant y z
  latch_here p z there =
      let many = cut.latches_many in
      let (y, at) = stands_at raw.latches p (omega (arith, many, slice_get_within x.latches p z there)) in
      (y, at, cut.latches_are p y z at there)

  gate_here : (q : ℕ) (h : Gate) → slice_get x.gates q ≡ Some h
      → (g : Gate) × (slice_get raw.gates q ≡ Some g) × IsCutGate cut.new cut.meant g h
  gate_here q h there =
      let many = gates_many cuts (v + length (latch_inputs cuts v raw.latches)) raw.gates in
      let (g, at) = stands_at raw.gates q (omega (arith, many, slice_get_within x.gates q h there)) in
      let (k, here, c) = cut.gates_are q g at in
      (g, at, subst (λ (k : Gate). IsCutGate cut.new cut.meant g k) (same_Some k h (sym here ∙ there)) c)

  source_there : (w : ℕ) → IsSource raw w → IsSource x w
  source_there w grounded.constant = grounded.constant
  source_there w (grounded.input i l at) = grounded.input i l (slice_get_left raw.inputs new i l at)
  source_there w (grounded.latch p y at) =
      let (z, there, c) = latch_there p y at in
      subst (λ (l : ℕ). IsSource x (variable l)) c.lit (grounded.latch p z there)

  source_defined : (w : ℕ) → IsSource x w → IsDefined x w
  source_defined w grounded.constant = (0, omega arith, refl)
  source_defined w (grounded.input p l at) = input_defined x p l at
  source_defined w (grounded.latch p y at) = latch_defined x p y at

  defined_too : (w : ℕ) → IsDefined raw w → IsDefined x w
  defined_too w h = elim (defined_cases raw w h) [
    | inl s ↦ source_defined w (source_there w s)
    | inr k ↦
        let (g, q, at, is) = unmap (λ (h : Gate). variable h.lhs) raw.gates w k in
        let (h, there, c) = cut.gates_are q g at in
        subst (λ (u : ℕ). IsDefined x u) (ap variable c.lhs ∙ is) (gate_defined x q h there)
  ]

  -- ---- uses

  -- a new input is in range and defined
  stands_for : (l m : ℕ) → StandsFor cut.new cut.meant l m
      → (p : ℕ) × (slice_get x.inputs p ≡ Some l)
  stands_for l m (k, here, there) = (
    length raw.inputs + k,
    subst (λ (ls : List ℕ). slice_get ls (length raw.inputs + k) ≡ Some l) (sym cut.inputs_are)
        (slice_get_right raw.inputs cut.new k l here),
  )

  IsUsed : ℕ → Type 0
  IsUsed l = IsInRange x l × IsDefined x (variable l)

  fresh_used : (p l : ℕ) → slice_get x.inputs p ≡ Some l → IsUsed l
  unfolding IsUsed
  fresh_used p l at = (
    All-at (IsInRange x) x.inputs p l
        (All-left (IsInRange x) x.inputs (map (λ (y : Latch). y.lit) x.latches)
        (All-left (IsInRange x) (x.inputs ++ map (λ (y : Latch). y.lit) x.latches) (map (λ (g : Gate). g.lhs) x.gates)
        definitions_in_range)) at,
    input_defined x p l at,
  )

  constant_used : IsUsed 1
  unfolding IsUsed
  constant_used = (omega arith, (0, omega arith, refl))

  abbrev WasUsed : ℕ → Type 0
  WasUsed l = IsInRange raw l × IsDefined raw (variable l)

  still_used : (l : ℕ) → WasUsed l → IsUsed l
  unfolding IsUsed
  still_used l (range, defined) = (omega (arith, range), defined_too (variable l) defined)

  was_used : All WasUsed (uses raw)
  was_used k d lt = (
    All-right (IsInRange raw) (definitions raw) (uses raw) circuit.sound.in_range k d lt,
    circuit.sound.defined k d lt,
  )

  all_used : All IsUsed (uses x)
  all_used =
      let u = each_use WasUsed raw was_used in
      all_uses IsUsed x (record {
        nexts = All-by_get (λ (z : Latch). IsUsed z.next) x.latches (λ p z there.
            let (y, at, c) = latch_here p z there in
            elim c.next [
              | inl is ↦
                  subst IsUsed (sym is) (still_used y.next (All-at (λ (y : Latch). WasUsed y.next) raw.latches p y u.nexts at))
              | inr fresh ↦ let (q, here) = stands_for z.next y.next fresh in fresh_used q z.next here
            ]);
        outputs = All-weaker WasUsed IsUsed still_used raw.outputs u.outputs;
        bad = All-weaker WasUsed IsUsed still_used raw.bad u.bad;
        constraints = All-by_get IsUsed x.constraints (λ p l at.
            elim (cut.constraints_are l (Contains-from_slice_get x.constraints p l at)) [
              | inl one ↦ subst IsUsed (sym one) constant_used
              | inr k ↦
                  let (q, here) = position_of raw.constraints l k in
                  still_used l (All-at WasUsed raw.constraints q l u.constraints here)
            ]);
        justice = All-weaker (All WasUsed) (All IsUsed) (λ ls h. All-weaker WasUsed IsUsed still_used ls h) raw.justice u.justice;
        fairness = All-weaker WasUsed IsUsed still_used raw.fairness u.fairness;
        sides = All-by_get (λ (h : Gate). IsUsed h.rhs0 × IsUsed h.rhs1) x.gates (λ q h there.
            let (g, at, c) = gate_here q h there in
            let both = All-at (λ (g : Gate). WasUsed g.rhs0 × WasUsed g.rhs1) raw.gates q g u.sides at in
            elim c.sides [
              | inl same ↦ (
                subst IsUsed (sym same.0) (still_used g.rhs0 both.0),
                subst IsUsed (sym same.1) (still_used g.rhs1 both.1),
              )
              | inr free ↦
                  let (p, here) = stands_for h.rhs0 g.lhs free.0 in
                  (fresh_used p h.rhs0 here, subst IsUsed (sym free.1) constant_used)
            ]);
      })

  sound : IsSound x
  unfolding IsUsed
  sound = record {
    in_range = All-append (IsInRange x) (definitions x) (uses x) definitions_in_range
        (All-weaker IsUsed (IsInRange x) (λ l h. h.0) (uses x) all_used);
    definitions = are_definitions;
    once = once;
    defined = All-weaker IsUsed (λ l. IsDefined x (variable l)) (λ l h. h.1) (uses x) all_used;
    resets = All-by_get IsReset x.latches (λ p z there.
        let (y, at, c) = latch_here p z there in
        reset_there y z c (All-at IsReset raw.latches p y circuit.sound.resets at));
  }
    where
      reset_there : (y z : Latch) → IsCutLatch cut.new cut.meant y z → IsReset y → IsReset z
      reset_there y z c was = elim c.reset [
        | inl same ↦ elim was [
          | inl low ↦ inl (same ∙ low)
          | inr other ↦ elim other [
            | inl high ↦ inr (inl (same ∙ high))
            | inr own ↦ inr (inr (same ∙ own ∙ sym c.lit))
          ]
        ]
        | inr own ↦ inr (inr own)
      ]

  -- ---- no cycle

  grounded_there : (w : ℕ) → Grounded raw w → Grounded x w
  grounded_there w (grounded.source _ s) = grounded.source w (source_there w s)
  grounded_there w (grounded.gate q g at a b) =
      let (h, there, c) = cut.gates_are q g at in
      subst (λ (l : ℕ). Grounded x (variable l)) c.lhs (elim c.sides [
        | inl same ↦
            grounded.gate q h there
            (subst (λ (l : ℕ). Grounded x (variable l)) (sym same.0) (grounded_there (variable g.rhs0) a))
            (subst (λ (l : ℕ). Grounded x (variable l)) (sym same.1) (grounded_there (variable g.rhs1) b))
        | inr free ↦
            let (p, here) = stands_for h.rhs0 g.lhs free.0 in
            grounded.gate q h there (grounded.source (variable h.rhs0) (grounded.input p h.rhs0 here))
            (subst (λ (l : ℕ). Grounded x (variable l)) (sym free.1) (grounded.source 0 grounded.constant))
      ])

  pub cut_circuit : (IsOverLimit x → ⊥) → IsCircuit x
  cut_circuit within = record {
    formed = cut_formed cuts raw circuit.formed within;
    sound = sound;
    acyclic = λ w k.
        let (h, q, there, is) = unmap (λ (h : Gate). variable h.lhs) x.gates w k in
        let (g, at, c) = gate_here q h there in
        subst (λ (u : ℕ). Grounded x u) is (subst (λ (l : ℕ). Grounded x (variable l)) (sym c.lhs)
        (grounded_there (variable g.lhs) (Grounded-of_defined raw circuit.acyclic (variable g.lhs) (gate_defined raw q g at))));
  }

pub cut_by_text_circuit : (raw x : Raw) (text : List ℕ) → IsCircuit raw → IsCutBy raw text x → (IsOverLimit x → ⊥) → IsCircuit x
cut_by_text_circuit raw x text circuit by within =
    subst (λ (r : Raw). IsCircuit r) (sym by.is)
    (cut_circuit (named_by by.cuts) raw circuit (λ over. within (subst (λ (r : Raw). IsOverLimit r) (sym by.is) over)))
