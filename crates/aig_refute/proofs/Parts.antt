-- The bad state property of a strengthened circuit is 1 exactly where a part of it is.
use Rattle.std.proofs.Common.{◌≡◌, ◌⊎◌, inl, inr, ◌↔◌, ℕ, zero, suc, ◌+◌, ◌*◌, ◌<◌, Bool, true, false, if◌then◌else◌, nat_lt}
use Rattle.std.proofs.Common.{List, [], ◌∷◌, ◌++◌, length, map, Contains, Some, slice_get, refl, sym, ◌∙◌, ap, subst, arith}
use Rattle.std.proofs.Common.{append_assoc}
use Rattle.std.proofs.lemmas.List.Elements.{Contains-append_right}
use Rattle.aig_parts.specs.Literal.{negation, variable}
use Rattle.aig_parts.specs.Ternary.{kleene_and, kleene_not}
use Rattle.aig_parts.specs.declared.gate.Gate.{Gate}
use Rattle.aig_parts.specs.declared.raw.Raw.{Raw}
use Rattle.aig_parts.specs.declared.ternary.Tern.{Tern}
use Rattle.aig_parts.specs.declared.ternary.Tern.TheVariants.{Zero, One, X}
use Rattle.aig_base.specs.Circuit.{IsCircuit}
use Rattle.aig_base.specs.Renumbered.{ready_gate}
use Rattle.aig_base.specs.Sections.{IsDefined}
use Rattle.aig_base.specs.Value.{Fits, Value}
use Rattle.aig_base.proofs.circuits.EachUse.{each_use}
use Rattle.aig_base.proofs.lists.Gets.{All-at}
use Rattle.aig_base.proofs.lists.Positions.{Contains-cons, position_of}
use Rattle.aig_base.proofs.values.NegatedValues.{of_negation, of_ready}
use Rattle.aig_base.proofs.values.OneValue.{exists_value}
use Rattle.aig_base.proofs.values.Refined.{and-zero}
use Rattle.aig_base.proofs.values.UniqueValue.{unique}
use Rattle.aig_certificate.specs.Strengthened.{IsStrengthened, chain, chain_end, claims, own_literals, translated_gate}
use Rattle.aig_certificate.proofs.Extensions.{twice_negated}

zero_side : (a b : Tern) → kleene_and a b ≡ Zero → (a ≡ Zero) ⊎ (b ≡ Zero)
zero_side Zero b e = inl refl
zero_side One Zero e = inr refl
zero_side One One e = inl e
zero_side One X e = inr e
zero_side X Zero e = inr refl
zero_side X One e = inl e
zero_side X X e = inl e

later : (p : ℕ) (ps : List ℕ) (q : ℕ) → Contains ps q → Contains (p ∷ ps) q
later p ps q (k, lt, is) = (suc k, omega (arith, lt), is)

-- ---- the values of a run at a frame

module _ (x : Raw) (circuit : IsCircuit x) (start : List Tern) (rows : List (List Tern)) (fits : Fits x start rows) (t : ℕ)
    (lt : t < length rows) where
  abbrev Has : ℕ → Tern → Type 0
  Has l w = Value x start rows t l w

  valued : (l : ℕ) → IsDefined x (variable l) → (w : Tern) × Has l w
  valued l defined = exists_value x start rows circuit.sound circuit.acyclic fits t lt l defined

  negated : (l : ℕ) (w : Tern) → Has l w → Has (negation l) (kleene_not w)
  negated l w v = of_negation x start rows circuit.sound.definitions v

  back : (l : ℕ) (w : Tern) → Has (negation l) w → Has l (kleene_not w)
  back l w v = subst (λ (m : ℕ). Has m (kleene_not w)) (twice_negated l) (negated (negation l) w v)

  -- ---- a gate whose sides are in order

  both_defined : (q : ℕ) (g : Gate) → slice_get x.gates q ≡ Some g → IsDefined x (variable g.rhs0) × IsDefined x (variable g.rhs1)
  both_defined q g at =
      All-at (λ (h : Gate). IsDefined x (variable h.rhs0) × IsDefined x (variable h.rhs1)) x.gates q g
      (each_use (λ l. IsDefined x (variable l)) x circuit.sound.defined).sides at

  sides_defined : (q lhs a b : ℕ) → slice_get x.gates q ≡ Some (ready_gate lhs a b)
      → IsDefined x (variable a) × IsDefined x (variable b)
  sides_defined q lhs a b = go (nat_lt a b)
    where
      go : (s : Bool)
          → slice_get x.gates q ≡ Some (if s then record { lhs = lhs; rhs0 = b; rhs1 = a } else record { lhs = lhs; rhs0 = a; rhs1 = b })
          → IsDefined x (variable a) × IsDefined x (variable b)
      go true at = let (first, second) = both_defined q (record { lhs = lhs; rhs0 = b; rhs1 = a }) at in (second, first)
      go false at = both_defined q (record { lhs = lhs; rhs0 = a; rhs1 = b }) at

  gate_value : (q lhs a b : ℕ) (u w : Tern) → slice_get x.gates q ≡ Some (ready_gate lhs a b) → Has a u → Has b w
      → Has lhs (kleene_and u w)
  gate_value q lhs a b u w at va vb = of_ready x start rows circuit.sound.definitions t q lhs a b u w at va vb

  -- it is 0 exactly if a side is
  side_zero : (q lhs a b : ℕ) → slice_get x.gates q ≡ Some (ready_gate lhs a b) → Has lhs Zero → Has a Zero ⊎ Has b Zero
  side_zero q lhs a b at low =
      let (defined_a, defined_b) = sides_defined q lhs a b at in
      let (u, va) = valued a defined_a in
      let (w, vb) = valued b defined_b in
      go u w va vb (zero_side u w (unique x start rows circuit.sound (gate_value q lhs a b u w at va vb) low))
    where
      go : (u w : Tern) → Has a u → Has b w → (u ≡ Zero) ⊎ (w ≡ Zero) → Has a Zero ⊎ Has b Zero
      go u w va vb (inl is) = inl (subst (λ (v : Tern). Has a v) is va)
      go u w va vb (inr is) = inr (subst (λ (v : Tern). Has b v) is vb)

  zero_first : (q lhs a b : ℕ) → slice_get x.gates q ≡ Some (ready_gate lhs a b) → Has a Zero → Has lhs Zero
  zero_first q lhs a b at va =
      let (w, vb) = valued b (sides_defined q lhs a b at).1 in gate_value q lhs a b Zero w at va vb

  zero_second : (q lhs a b : ℕ) → slice_get x.gates q ≡ Some (ready_gate lhs a b) → Has b Zero → Has lhs Zero
  zero_second q lhs a b at vb =
      let (u, va) = valued a (sides_defined q lhs a b at).0 in
      subst (λ (v : Tern). Has lhs v) (and-zero u) (gate_value q lhs a b u Zero at va vb)

  -- ---- a chain of them

  abbrev AreGates : List Gate → Type 0
  AreGates gates = (g : Gate) → Contains gates g → Contains x.gates g

  first_gate : (g : Gate) (gates : List Gate) → AreGates (g ∷ gates) → (q : ℕ) × (slice_get x.gates q ≡ Some g)
  first_gate g gates within = position_of x.gates g (within g (0, omega arith, refl))

  other_gates : (g : Gate) (gates : List Gate) → AreGates (g ∷ gates) → AreGates gates
  other_gates g gates within h (k, lt, is) = within h (suc k, omega (arith, lt), is)

  -- its last gate is 0 where its first literal is
  from_first : (v l : ℕ) (parts : List ℕ) → AreGates (chain v l parts) → Has l Zero → Has (chain_end v l parts) Zero
  unfolding chain chain_end
  from_first v l [] within low = low
  from_first v l (p ∷ parts) within low =
      let (q, at) = first_gate (ready_gate (2 * v) (negation p) l) (chain (v + 1) (2 * v) parts) within in
      from_first (v + 1) (2 * v) parts (other_gates (ready_gate (2 * v) (negation p) l) (chain (v + 1) (2 * v) parts) within)
      (zero_second q (2 * v) (negation p) l at low)

  -- and where the negation of a part is
  from_part : (v l : ℕ) (parts : List ℕ) → AreGates (chain v l parts) → (part : ℕ) → Contains parts part
      → Has (negation part) Zero → Has (chain_end v l parts) Zero
  unfolding chain chain_end
  from_part v l [] within part (k, lt, is) low = absurd (omega (arith, lt))
  from_part v l (p ∷ parts) within part has low =
      let (q, at) = first_gate (ready_gate (2 * v) (negation p) l) (chain (v + 1) (2 * v) parts) within in
      let rest = other_gates (ready_gate (2 * v) (negation p) l) (chain (v + 1) (2 * v) parts) within in
      elim (Contains-cons p parts part has) [
        | inl same ↦
            from_first (v + 1) (2 * v) parts rest
            (zero_first q (2 * v) (negation p) l at (subst (λ (m : ℕ). Has (negation m) Zero) same low))
        | inr more ↦ from_part (v + 1) (2 * v) parts rest part more low
      ]

  -- and nowhere else
  to_part : (v l : ℕ) (parts : List ℕ) → AreGates (chain v l parts) → Has (chain_end v l parts) Zero
      → Has l Zero ⊎ ((part : ℕ) × Contains parts part × Has (negation part) Zero)
  unfolding chain chain_end
  to_part v l [] within low = inl low
  to_part v l (p ∷ parts) within low =
      let (q, at) = first_gate (ready_gate (2 * v) (negation p) l) (chain (v + 1) (2 * v) parts) within in
      let rest = other_gates (ready_gate (2 * v) (negation p) l) (chain (v + 1) (2 * v) parts) within in
      go (λ here. side_zero q (2 * v) (negation p) l at here) (to_part (v + 1) (2 * v) parts rest low)
    where
      go : (Has (2 * v) Zero → Has (negation p) Zero ⊎ Has l Zero)
          → Has (2 * v) Zero ⊎ ((part : ℕ) × Contains parts part × Has (negation part) Zero)
          → Has l Zero ⊎ ((part : ℕ) × Contains (p ∷ parts) part × Has (negation part) Zero)
      go side (inr (part, has, z)) = inr (part, later p parts part has, z)
      go side (inl here) = elim (side here) [
        | inl z ↦ inr (p, (0, omega arith, refl), z)
        | inr z ↦ inl z
      ]

-- ---- the law

module _ (raw certificate x : Raw) (p : ℕ) (circuit : IsCircuit x) (s : IsStrengthened raw p certificate x)
    (start : List Tern) (rows : List (List Tern)) (fits : Fits x start rows) (t : ℕ) (lt : t < length rows) where
  abbrev broken : List ℕ
  broken = claims certificate s.literal

  abbrev first : ℕ
  first = raw.max_var + length (own_literals s.meanings certificate) + 1

  abbrev links : List Gate
  links = chain first (negation s.bad) broken

  abbrev last : ℕ
  last = chain_end first (negation s.bad) broken

  abbrev HasPart : Type 0
  HasPart = (part : ℕ) × Contains x.outputs part × Value x start rows t part One

  within : (g : Gate) → Contains links g → Contains x.gates g
  within g has =
      let translated : List Gate = map (translated_gate s.literal) certificate.gates in
      let gates : x.gates ≡ raw.gates ++ (translated ++ links) =
      ap (λ (r : Raw). r.gates) s.is ∙ append_assoc raw.gates translated links in
      subst (λ (gs : List Gate). Contains gs g) (sym gates)
      (Contains-append_right raw.gates (translated ++ links) g (Contains-append_right translated links g has))

  outputs_are : x.outputs ≡ s.bad ∷ broken
  outputs_are = ap (λ (r : Raw). r.outputs) s.is

  bad_is : (bad : ℕ) → slice_get x.bad 0 ≡ Some bad → bad ≡ negation last
  bad_is bad at =
      let here : Some (negation last) ≡ Some bad = sym (ap (λ (r : Raw). slice_get r.bad 0) s.is) ∙ at in cc

  as_output : (part : ℕ) → Contains (s.bad ∷ broken) part → Contains x.outputs part
  as_output part has = subst (λ (ls : List ℕ). Contains ls part) (sym outputs_are) has

  some_part : Value x start rows t (negation last) One → HasPart
  some_part v =
      go (to_part x circuit start rows fits t lt first (negation s.bad) broken within (back x circuit start rows fits t lt last One v))
    where
      go : Value x start rows t (negation s.bad) Zero ⊎ ((part : ℕ) × Contains broken part × Value x start rows t (negation part) Zero)
          → HasPart
      go (inl low) = (s.bad, as_output s.bad (0, omega arith, refl), back x circuit start rows fits t lt s.bad Zero low)
      go (inr (part, has, low)) =
          (part, as_output part (later s.bad broken part has), back x circuit start rows fits t lt part Zero low)

  by_part : HasPart → Value x start rows t (negation last) One
  by_part (part, has, v) =
      let low = negated x circuit start rows fits t lt part One v in
      negated x circuit start rows fits t lt last Zero
      (go low (Contains-cons s.bad broken part (subst (λ (ls : List ℕ). Contains ls part) outputs_are has)))
    where
      go : Value x start rows t (negation part) Zero → (part ≡ s.bad) ⊎ Contains broken part → Value x start rows t last Zero
      go low (inl same) =
          from_first x circuit start rows fits t lt first (negation s.bad) broken within
          (subst (λ (m : ℕ). Value x start rows t (negation m) Zero) same low)
      go low (inr more) =
          from_part x circuit start rows fits t lt first (negation s.bad) broken within part more low

  pub exactly_parts : (bad : ℕ) → slice_get x.bad 0 ≡ Some bad → Value x start rows t bad One ↔ HasPart
  exactly_parts bad at =
      subst (λ (l : ℕ). Value x start rows t l One ↔ HasPart) (sym (bad_is bad at)) (some_part, by_part)
