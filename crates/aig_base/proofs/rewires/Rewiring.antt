-- The two changes write one entry, and keep a circuit a circuit.
use Rattle.std.proofs.Common.{◌≡◌, ℕ, zero, suc, ◌+◌, ◌*◌, ◌/◌, ◌<◌, ◌≤◌, ◌⊎◌, Bool, true, false, cond, nat_eq, List}
use Rattle.std.proofs.Common.{[], ◌∷◌, ◌++◌, map, get_or, set, Some, option_map, refl, sym, ap, subst}
use Rattle.std.proofs.Common.{◌∙◌, arith, rules, slice_get, All, Contains}
use Rattle.std.proofs.lemmas.List.{length-map}
use Rattle.std.proofs.lemmas.List.Elements.{All-map}
use Rattle.std.proofs.lemmas.Bool.{eqb-true}
use Rattle.std.proofs.lemmas.Bool.Decides.{Decides-eqb}
use Rattle.std.proofs.lemmas.Option.{slice_get-map, same_Some, none-some, get_or_from_slice_get}
use Rattle.aig_base.specs.declared.circuit.definition.Definition.{Definition}
use Rattle.aig_base.specs.declared.circuit.definition.Definition.TheVariants as definition
use Rattle.aig_base.specs.declared.circuit.definitions.Definitions.{Definitions}
use Rattle.aig_base.specs.declared.circuit.definitions.Definitions.TheVariants as kept
use Rattle.aig_parts.specs.declared.gate.Gate.{Gate}
use Rattle.aig_parts.specs.declared.latch.Latch.{Latch}
use Rattle.aig_parts.specs.declared.raw.Raw.{Raw}
use Rattle.aig_parts.specs.declared.symbols.Kind.{Kind}
use Rattle.aig_parts.specs.declared.symbols.Kind.TheVariants as kind
use Rattle.aig_parts.specs.declared.ternary.Tern.{Tern}
use Rattle.aig_parts.specs.declared.ternary.Tern.TheVariants.{Zero, One, X}
use Rattle.aig_base.specs.Changes.{rewired, with_gate, reset_literal, restarted, with_reset}
use Rattle.aig_base.specs.Circuit.{IsCircuit}
use Rattle.aig_base.specs.Definition.{Defines}
use Rattle.aig_base.specs.state.Definitions.{AreDefinitionsOf, IsNumberOf}
use Rattle.aig_parts.specs.Formed.{IsFormed, section_length}
use Rattle.aig_base.specs.Grounded as grounded
use Rattle.aig_base.specs.Grounded.{IsSource, Grounded, IsAcyclic}
use Rattle.aig_parts.specs.Literal.{variable}
use Rattle.aig_base.specs.Sections.{definitions, uses, IsDefined, IsLatchLiteral, IsLeftSide}
use Rattle.aig_base.specs.Sound.{IsInRange, IsDefinition, IsReset, IsSound, StandsTwice}
use Rattle.aig_base.proofs.checks.Faults.{in_range_joined, in_range_parted, uses_joined, uses_parted}
use Rattle.aig_base.proofs.lists.Gets.{get_from_Contains, All-at}
use Rattle.aig_base.proofs.lists.Joined.{All-left}
use Rattle.aig_base.proofs.checks.Marking.{slice_get_unmap}
use Rattle.aig_base.proofs.circuits.EntryPlaces.{same_gate, same_latch, gate_defines, latch_defines}

map_same : {A : Type 0} (f : A → A) (xs : List A) → ((k : ℕ) (z : A) → slice_get xs k ≡ Some z → f z ≡ z) → xs
    ≡ map f xs
map_same f [] h = refl
map_same f (x ∷ xs) h =
    ap (λ y. y ∷ xs) (sym (h 0 x refl)) ∙ ap (λ ys. f x ∷ ys) (map_same f xs (λ k z at. h (suc k) z at))

-- a map that changes one entry alone
map_one : {A : Type 0} (f : A → A) (xs : List A) (q : ℕ) (x : A) → slice_get xs q ≡ Some x
    → ((k : ℕ) (z : A) → slice_get xs k ≡ Some z → (k ≡ q → ⊥) → f z ≡ z) → set xs q (f x) ≡ map f xs
map_one f [] q x at h = absurd (none-some x at)
map_one f (y ∷ xs) zero x at h =
    ap (λ z. f z ∷ xs) (sym (same_Some y x at)) ∙ ap (λ ys. f y ∷ ys) (map_same f xs (λ k z is. h (suc k) z is
    (λ e. omega arith)))
map_one f (y ∷ xs) (suc q) x at h =
    ap (λ z. z ∷ set xs q (f x)) (sym (h 0 y refl (λ e. omega arith)))
    ∙ ap (λ ys. f y ∷ ys) (map_one f xs q x at (λ k z is ne. h (suc k) z is (λ e. ne (omega arith))))

of_both : {A : Type 0} (P : A → Type 0) (b : Bool) (x y : A) → P x → P y → P (cond b x y)
of_both P true x y p q = p
of_both P false x y p q = q

-- a literal of a defined variable is in range
pub in_range_from_defined : (raw : Raw) (r : ℕ) → IsSound raw → IsDefined raw (variable r) → IsInRange raw r
in_range_from_defined raw r s has =
    let k = get_from_Contains (0 ∷ map variable (definitions raw)) (variable r) has in
    of k.0 k.1
  where
    by_variable : (l : ℕ) → l ≤ 2 * raw.max_var + 1 → l / 2 ≡ r / 2 → r ≤ 2 * raw.max_var + 1
    by_variable l a e = omega arith

    of : (k : ℕ) → slice_get (0 ∷ map variable (definitions raw)) k ≡ Some (variable r) → IsInRange raw r
    of zero e = let f : 0 ≡ r / 2 = same_Some 0 (variable r) e in omega arith
    of (suc k) e =
        let (l, at, f) = slice_get_unmap variable (definitions raw) k (variable r) e in
        by_variable l (All-at (IsInRange raw) (definitions raw) k l (All-left (IsInRange raw) (definitions raw)
        (uses raw) s.in_range) at) f

module _ (lhs r0 r1 : ℕ) where
  rewired_here : (g : Gate) → g.lhs ≡ lhs → rewired lhs r0 r1 g ≡ record { lhs = lhs; rhs0 = r0; rhs1 = r1 }
  rewired_here g e = rw ((Decides-eqb g.lhs lhs).1 e) (ap (λ l. let h : Gate = record { lhs = l; rhs0 = r0; rhs1 = r1 }
      in h) e)

  rewired_other : (g : Gate) → (g.lhs ≡ lhs → ⊥) → rewired lhs r0 r1 g ≡ g
  rewired_other g ne = of (nat_eq g.lhs lhs) refl
    where
      of : (b : Bool) → nat_eq g.lhs lhs ≡ b → rewired lhs r0 r1 g ≡ g
      of true e = absurd (ne (eqb-true g.lhs lhs e))
      of false e = rw e refl

  module _ (raw : Raw) where
    -- one write makes the change
    pub gate_written : IsSound raw → (q : ℕ) (g : Gate) → slice_get raw.gates q ≡ Some g → g.lhs ≡ lhs
        → set raw.gates q (record { lhs = lhs; rhs0 = r0; rhs1 = r1 }) ≡ map (rewired lhs r0 r1) raw.gates
    gate_written s q g at e =
        ap (set raw.gates q) (sym (rewired_here g e))
        ∙ map_one (rewired lhs r0 r1) raw.gates q g at (λ k h is ne. rewired_other h (λ f. ne
        (same_gate raw s k q h g is at (f ∙ sym e))))

    same_lhs : (gs : List Gate) → map (λ g. g.lhs) (map (rewired lhs r0 r1) gs) ≡ map (λ g. g.lhs) gs
    same_lhs [] = refl
    same_lhs (g ∷ gs) = ap (λ ls. g.lhs ∷ ls) (same_lhs gs)

    same_definitions : definitions raw ≡ definitions (with_gate raw lhs r0 r1)
    same_definitions = ap (λ ls. raw.inputs ++ map (λ (x : Latch). x.lit) raw.latches ++ ls) (sym (same_lhs raw.gates))

    still_defined : (v : ℕ) → IsDefined raw v → IsDefined (with_gate raw lhs r0 r1) v
    still_defined v h = subst (λ ls. Contains (0 ∷ map variable ls) v) same_definitions h

    gate_sections : (k : Kind) → section_length raw k ≡ section_length (with_gate raw lhs r0 r1) k
    gate_sections kind.Input = refl
    gate_sections kind.Latch = refl
    gate_sections kind.Output = refl
    gate_sections kind.Bad = refl
    gate_sections kind.Constraint = refl
    gate_sections kind.Justice = refl
    gate_sections kind.Fairness = refl

    gate_formed : IsFormed raw → IsFormed (with_gate raw lhs r0 r1)
    gate_formed f = record {
      counts = record {
        max_var = f.counts.max_var;
        inputs = f.counts.inputs;
        latches = f.counts.latches;
        outputs = f.counts.outputs;
        bad = f.counts.bad;
        constraints = f.counts.constraints;
        justice = f.counts.justice;
        fairness = f.counts.fairness;
        gates = rw length-map f.counts.gates;
        justice_literals = f.counts.justice_literals;
      };
      symbols = λ k d h. let s = f.symbols k d h in (
        subst (λ n. (get_or raw.symbols k d).0.1 < n)
            (gate_sections _) s.0,
        s.1,
      );
      names = f.names;
    }

    rewired_sides : (P : ℕ → Type 0) → P r0 → P r1 → All (λ g. P g.rhs0 × P g.rhs1) raw.gates
        → All (λ g. P g.rhs0 × P g.rhs1) (map (rewired lhs r0 r1) raw.gates)
    rewired_sides P p q all =
        All-map (λ g. P g.rhs0 × P g.rhs1) (rewired lhs r0 r1) raw.gates
        (λ k d h. let g : Gate = get_or raw.gates k d in let s = all k d h in
        (of_both P (nat_eq g.lhs lhs) r0 g.rhs0 p s.0, of_both P (nat_eq g.lhs lhs) r1 g.rhs1 q s.1))

    gate_in_range : IsSound raw → IsDefined raw (variable r0) → IsDefined raw (variable r1)
        → All (IsInRange raw) (definitions (with_gate raw lhs r0 r1) ++ uses (with_gate raw lhs r0 r1))
    gate_in_range s d0 d1 =
        let h = in_range_parted raw s.in_range in
        let sides = rewired_sides (IsInRange raw) (in_range_from_defined raw r0 s d0)
        (in_range_from_defined raw r1 s d1) (λ k d l. let g = h.gates k d l in (g.1, g.2)) in
        let left = All-map (λ g. IsInRange raw g.lhs) (rewired lhs r0 r1) raw.gates (λ k d l. (h.gates k d l).0) in
        in_range_joined (with_gate raw lhs r0 r1)
        (record {
          inputs = h.inputs;
          latches = h.latches;
          outputs = h.outputs;
          bad = h.bad;
          constraints = h.constraints;
          justice = h.justice;
          fairness = h.fairness;
          gates = λ k d l. (left k d l, (sides k d l).0, (sides k d l).1);
        })

    gate_sound : IsSound raw → IsDefined raw (variable r0) → IsDefined raw (variable r1)
        → IsSound (with_gate raw lhs r0 r1)
    gate_sound s d0 d1 =
        let P : ℕ → Type 0 = λ l. IsDefined (with_gate raw lhs r0 r1) (variable l) in
        let u = uses_parted raw P (λ k d l. still_defined _ (s.defined k d l)) in
        record {
          in_range = gate_in_range s d0 d1;
          definitions = subst (λ ls. All IsDefinition ls) same_definitions s.definitions;
          once = λ v twice. s.once v (subst (λ ls. StandsTwice (map variable ls) v) (sym same_definitions) twice);
          defined = uses_joined (with_gate raw lhs r0 r1) P u.0 u.1 u.2 u.3 u.4 u.5 (rewired_sides P
              (still_defined _ d0) (still_defined _ d1) u.6);
          resets = s.resets;
        }

    pub with_gate-circuit : IsCircuit raw → IsDefined raw (variable r0) → IsDefined raw (variable r1)
        → IsAcyclic (with_gate raw lhs r0 r1) → IsCircuit (with_gate raw lhs r0 r1)
    with_gate-circuit c d0 d1 a = record {
      formed = gate_formed c.formed;
      sound = gate_sound c.sound d0 d1;
      acyclic = a;
    }

    pub with_gate-describes : (d : Definitions) → AreDefinitionsOf raw d → AreDefinitionsOf (with_gate raw lhs r0 r1) d
    with_gate-describes kept.InOrder h = sym same_definitions ∙ h
    with_gate-describes (kept.Listed table) h = record {
      size = h.size;
      numbers = λ v n at. subst (λ ls. IsNumberOf (map variable ls) v n) same_definitions (h.numbers v n at);
    }

    -- the write that the table leads to makes the change
    pub gate_changed : IsSound raw → IsLeftSide raw lhs → (v q : ℕ) (d : Definition) (gates : List Gate) → v
        ≡ variable lhs → d ≡ definition.Gate q
        → Defines raw v d → gates ≡ set raw.gates q (record { lhs = lhs; rhs0 = r0; rhs1 = r1 }) → gates
        ≡ map (rewired lhs r0 r1) raw.gates
    gate_changed s is v q d gates ev ed found eg =
        let at = subst (λ e. Defines raw (variable lhs) e) ed (subst (λ u. Defines raw u d) ev found) in
        let (k, g, same, here, e) = gate_defines raw s lhs is (Some (definition.Gate q)) at tt in
        let f : k ≡ q = of (definition.Gate k) k refl (same_Some (definition.Gate q) (definition.Gate k) same) in
        eg ∙ gate_written s q g (subst (λ n. slice_get raw.gates n ≡ Some g) f here) e
      where
        of : (x : Definition) (k : ℕ) → x ≡ definition.Gate k → definition.Gate q ≡ x → k ≡ q
        of x k e f = cc

module _ (lit : ℕ) (w : Tern) where
  restarted_here : (x : Latch) → x.lit ≡ lit → restarted lit w x
      ≡ record { lit = lit; next = x.next; reset = reset_literal lit w }
  restarted_here x e =
      rw ((Decides-eqb x.lit lit).1 e) (ap (λ l. let y : Latch = record {
        lit = l;
        next = x.next;
        reset = reset_literal
            lit w;
      } in y) e)

  restarted_other : (x : Latch) → (x.lit ≡ lit → ⊥) → restarted lit w x ≡ x
  restarted_other x ne = of (nat_eq x.lit lit) refl
    where
      of : (b : Bool) → nat_eq x.lit lit ≡ b → restarted lit w x ≡ x
      of true e = absurd (ne (eqb-true x.lit lit e))
      of false e = rw e refl

  is_reset_literal : (u : Tern) (l : ℕ) → (reset_literal l u ≡ 0) ⊎ (reset_literal l u ≡ 1) ⊎ (reset_literal l u ≡ l)
  is_reset_literal Zero l = search rules
  is_reset_literal One l = search rules
  is_reset_literal X l = search rules

  restarted_reset : (x : Latch) (b : Bool) → nat_eq x.lit lit ≡ b → IsReset x
      → IsReset (record { lit = x.lit; next = x.next; reset = cond b (reset_literal lit w) x.reset })
  restarted_reset x true e h = rw (eqb-true x.lit lit e) (is_reset_literal w lit)
  restarted_reset x false e h = h

  module _ (raw : Raw) where
    -- one write makes the change
    pub reset_written : IsSound raw → (p : ℕ) (x : Latch) → slice_get raw.latches p ≡ Some x → x.lit ≡ lit
        → set raw.latches p (record { lit = lit; next = x.next; reset = reset_literal lit w })
        ≡ map (restarted lit w) raw.latches
    reset_written s p x at e =
        ap (set raw.latches p) (sym (restarted_here x e))
        ∙ map_one (restarted lit w) raw.latches p x at (λ k y is ne. restarted_other y (λ f. ne
        (same_latch raw s k p y x is at (f ∙ sym e))))

    same_lit : (xs : List Latch) → map (λ x. x.lit) (map (restarted lit w) xs) ≡ map (λ x. x.lit) xs
    same_lit [] = refl
    same_lit (x ∷ xs) = ap (λ ls. x.lit ∷ ls) (same_lit xs)

    reset_definitions : definitions raw ≡ definitions (with_reset raw lit w)
    reset_definitions = ap (λ ls. raw.inputs ++ ls ++ map (λ (g : Gate). g.lhs) raw.gates) (sym (same_lit raw.latches))

    reset_defined : (v : ℕ) → IsDefined raw v → IsDefined (with_reset raw lit w) v
    reset_defined v h = subst (λ ls. Contains (0 ∷ map variable ls) v) reset_definitions h

    reset_sections : (k : Kind) → section_length raw k ≡ section_length (with_reset raw lit w) k
    reset_sections kind.Input = refl
    reset_sections kind.Latch = sym (length-map raw.latches (restarted lit w))
    reset_sections kind.Output = refl
    reset_sections kind.Bad = refl
    reset_sections kind.Constraint = refl
    reset_sections kind.Justice = refl
    reset_sections kind.Fairness = refl

    reset_formed : IsFormed raw → IsFormed (with_reset raw lit w)
    reset_formed f = record {
      counts = record {
        max_var = f.counts.max_var;
        inputs = f.counts.inputs;
        latches = rw length-map f.counts.latches;
        outputs = f.counts.outputs;
        bad = f.counts.bad;
        constraints = f.counts.constraints;
        justice = f.counts.justice;
        fairness = f.counts.fairness;
        gates = f.counts.gates;
        justice_literals = f.counts.justice_literals;
      };
      symbols = λ k d h. let s = f.symbols k d h in (
        subst (λ n. (get_or raw.symbols k d).0.1 < n)
            (reset_sections _) s.0,
        s.1,
      );
      names = f.names;
    }

    reset_in_range : IsSound raw → All (IsInRange raw) (definitions (with_reset raw lit w)
        ++ uses (with_reset raw lit w))
    reset_in_range s =
        let h = in_range_parted raw s.in_range in
        in_range_joined (with_reset raw lit w)
        (record {
          inputs = h.inputs;
          latches = All-map (λ x. IsInRange raw x.lit × IsInRange raw x.next) (restarted lit w) raw.latches h.latches;
          outputs = h.outputs;
          bad = h.bad;
          constraints = h.constraints;
          justice = h.justice;
          fairness = h.fairness;
          gates = h.gates;
        })

    reset_sound : IsSound raw → IsSound (with_reset raw lit w)
    reset_sound s =
        let P : ℕ → Type 0 = λ l. IsDefined (with_reset raw lit w) (variable l) in
        let u = uses_parted raw P (λ k d l. reset_defined _ (s.defined k d l)) in
        record {
          in_range = reset_in_range s;
          definitions = subst (λ ls. All IsDefinition ls) reset_definitions s.definitions;
          once = λ v twice. s.once v (subst (λ ls. StandsTwice (map variable ls) v) (sym reset_definitions) twice);
          defined = uses_joined (with_reset raw lit w) P (All-map (λ x. P x.next)
              (restarted lit w) raw.latches u.0) u.1 u.2 u.3 u.4 u.5 u.6;
          resets = All-map IsReset (restarted lit w) raw.latches (λ k d h. restarted_reset
              (get_or raw.latches k d) _ refl (s.resets k d h));
        }

    reset_source : (v : ℕ) → IsSource raw v → IsSource (with_reset raw lit w) v
    reset_source v grounded.constant = grounded.constant
    reset_source v (grounded.input p l at) = grounded.input p l at
    reset_source v (grounded.latch p x at) =
        grounded.latch p (restarted lit w x) (slice_get-map (restarted lit w) raw.latches p
        ∙ ap (option_map (restarted lit w)) at)

    reset_grounded : (v : ℕ) → Grounded raw v → Grounded (with_reset raw lit w) v
    reset_grounded v (grounded.source _ s) = grounded.source v (reset_source v s)
    reset_grounded v (grounded.gate q g at a b) = grounded.gate q g at (reset_grounded _ a) (reset_grounded _ b)

    pub with_reset-circuit : IsCircuit raw → IsCircuit (with_reset raw lit w)
    with_reset-circuit c = record {
      formed = reset_formed c.formed;
      sound = reset_sound c.sound;
      acyclic = λ v is.
          reset_grounded v (c.acyclic v is);
    }

    pub with_reset-describes : (d : Definitions) → AreDefinitionsOf raw d → AreDefinitionsOf (with_reset raw lit w) d
    with_reset-describes kept.InOrder h = sym reset_definitions ∙ h
    with_reset-describes (kept.Listed table) h = record {
      size = h.size;
      numbers = λ v n at. subst (λ ls. IsNumberOf (map variable ls) v n) reset_definitions (h.numbers v n at);
    }

    -- the write that the table leads to makes the change
    pub reset_changed : IsSound raw → IsLatchLiteral raw lit → (v p : ℕ) (d : Definition) (x : Latch)
        (latches : List Latch) → v ≡ variable lit → d ≡ definition.Latch p
        → Defines raw v d → x ≡ get_or raw.latches p x
        → latches ≡ set raw.latches p (record { lit = lit; next = x.next; reset = reset_literal lit w }) → latches
        ≡ map (restarted lit w) raw.latches
    reset_changed s is v p d x latches ev ed found read el =
        let at = subst (λ e. Defines raw (variable lit) e) ed (subst (λ u. Defines raw u d) ev found) in
        let (k, y, same, here, e) = latch_defines raw s lit is (Some (definition.Latch p)) at tt in
        let f : k ≡ p = of (definition.Latch k) k refl (same_Some (definition.Latch p) (definition.Latch k) same) in
        let here' = subst (λ n. slice_get raw.latches n ≡ Some y) f here in
        let g : x ≡ y = read ∙ get_or_from_slice_get raw.latches p y x here' in
        let there = subst (λ z. slice_get raw.latches p ≡ Some z) (sym g) here' in
        el ∙ reset_written s p x there (ap (λ (z : Latch). z.lit) g ∙ e)
      where
        of : (x : Definition) (k : ℕ) → x ≡ definition.Latch k → definition.Latch p ≡ x → k ≡ p
        of x k e f = cc
