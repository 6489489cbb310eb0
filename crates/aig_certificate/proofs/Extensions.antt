-- What is strengthened extends the model.
use Rattle.std.proofs.Common.{◌≡◌, ℕ, ◌+◌, ◌-◌, ◌*◌, ◌%◌, Bool, true, false, inl, inr, ◌⊎◌, suc, if◌then◌else◌, nat_lt}
use Rattle.std.proofs.Common.{List, [], ◌∷◌, ◌++◌, length, map, Some, slice_get, Contains}
use Rattle.std.proofs.Common.{refl, sym, ap, subst, ◌∙◌, arith, append_assoc}
use Rattle.std.proofs.lemmas.List.Elements.{Contains-append_right}
use Rattle.aig_parts.specs.declared.gate.Gate.{Gate}
use Rattle.aig_parts.specs.declared.raw.Raw.{Raw}
use Rattle.aig_parts.specs.Literal.{negation}
use Rattle.aig_base.specs.Renumbered.{ready_gate, relabelled_latch}
use Rattle.aig_certificate.specs.Extension.{IsAndOf, IsExtension}
use Rattle.aig_certificate.specs.Extension as and_of
use Rattle.aig_certificate.specs.Strengthened.{IsStrengthened, chain, chain_end, claims, own, own_literals}
use Rattle.aig_certificate.specs.Strengthened.{translated_gate}

-- a literal is the negation of its negation
pub twice_negated : (l : ℕ) → negation (negation l) ≡ l
twice_negated l = elim (parity l) [
  | inl even ↦
      (let e : negation l ≡ l + 1 = rw even refl in
      let odd : (l + 1) % 2 ≡ 1 = omega (arith, even) in
      let back : negation (l + 1) ≡ l + 1 - 1 = rw odd refl in
      ap negation e ∙ back ∙ omega arith)
  | inr odd ↦
      (let e : negation l ≡ l - 1 = rw odd refl in
      let even : (l - 1) % 2 ≡ 0 = omega (arith, odd) in
      let back : negation (l - 1) ≡ l - 1 + 1 = rw even refl in
      ap negation e ∙ back ∙ omega (arith, odd))
]
  where
    parity : (n : ℕ) → (n % 2 ≡ 0) ⊎ (n % 2 ≡ 1)
    parity n = grind arith

module _ (gates : List Gate) (part : ℕ) where
  -- a gate that reads an AND of the part is one
  reads_and : (lhs a l : ℕ) → Contains gates (ready_gate lhs a l) → IsAndOf gates part l → IsAndOf gates part lhs
  reads_and lhs a l = go (nat_lt a l)
    where
      go : (s : Bool)
          → Contains gates (if s then record { lhs = lhs; rhs0 = l; rhs1 = a } else record { lhs = lhs; rhs0 = a; rhs1 = l })
          → IsAndOf gates part l → IsAndOf gates part lhs
      go true here h = and_of.first (record { lhs = lhs; rhs0 = l; rhs1 = a }) here h
      go false here h = and_of.second (record { lhs = lhs; rhs0 = a; rhs1 = l }) here h

  -- the last gate of a chain is an AND of the part where the chain begins with one
  pub chain_covers : (v l : ℕ) (parts : List ℕ) → ((g : Gate) → Contains (chain v l parts) g → Contains gates g)
      → IsAndOf gates part l → IsAndOf gates part (chain_end v l parts)
  unfolding chain chain_end
  chain_covers v l [] within h = h
  chain_covers v l (p ∷ parts) within h =
      let g : Gate = ready_gate (2 * v) (negation p) l in
      let here : Contains gates g = within g (0, omega arith, refl) in
      chain_covers (v + 1) (2 * v) parts (λ g' (k, lt, is). within g' (suc k, omega (arith, lt), is))
      (reads_and (2 * v) (negation p) l here h)

-- the strengthened circuit extends the model
pub extends : (model : Raw) (p : ℕ) (certificate x : Raw) → IsStrengthened model p certificate x
    → (b : ℕ) × (slice_get model.bad p ≡ Some b) × IsExtension model x b
extends model p certificate x s = (
  s.bad,
  s.bad_is,
  record {
    more_inputs = map s.literal (own s.meanings.inputs certificate.inputs);
    more_latches = map (relabelled_latch s.literal) (own s.meanings.latches certificate.latches);
    more_gates = translated ++ links;
    bad = negation last;
    inputs_are = ap (λ (r : Raw). r.inputs) s.is;
    latches_are = ap (λ (r : Raw). r.latches) s.is;
    gates_are = gates;
    constraints_are = ap (λ (r : Raw). r.constraints) s.is;
    bad_is = ap (λ (r : Raw). r.bad) s.is;
    covers = subst (λ l. IsAndOf x.gates (negation s.bad) l) (sym (twice_negated last))
        (chain_covers x.gates (negation s.bad) first (negation s.bad) broken
        (λ g k. subst (λ gs. Contains gs g) (sym gates)
        (Contains-append_right model.gates (translated ++ links) g (Contains-append_right translated links g k))) and_of.itself);
  },
)
  where
    broken : List ℕ
    broken = claims certificate s.literal

    first : ℕ
    first = model.max_var + length (own_literals s.meanings certificate) + 1

    last : ℕ
    last = chain_end first (negation s.bad) broken

    links : List Gate
    links = chain first (negation s.bad) broken

    translated : List Gate
    translated = map (translated_gate s.literal) certificate.gates

    gates : x.gates ≡ model.gates ++ (translated ++ links)
    gates = ap (λ (r : Raw). r.gates) s.is ∙ append_assoc model.gates translated links
