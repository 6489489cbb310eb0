-- The parts of the strengthened circuit, put together.
use Rattle.std.proofs.Common.{◌≡◌, ℕ, ◌+◌, ◌*◌, ◌≤◌, Bool, true, false, nat_lt, if◌then◌else◌, List, ◌++◌, length, map}
use Rattle.std.proofs.Common.{arith, ap}
use Rattle.std.proofs.lemmas.List.{length-append, length-map}
use Rattle.aig_parts.specs.declared.gate.Gate.{Gate}
use Rattle.aig_parts.specs.declared.latch.Latch.{Latch}
use Rattle.aig_parts.specs.declared.raw.Raw.{Raw}
use Rattle.aig_parts.specs.Formed.{IsFormed, limit}
use Rattle.aig_parts.specs.Literal.{negation}
use Rattle.aig_base.specs.Renumbered.{relabelled_latch}
use Rattle.aig_certificate.specs.Shared.{Meanings}
use Rattle.aig_certificate.specs.Strengthened.{claims, own, own_literals, properties}
use Rattle.aig_certificate.proofs.OwnEntries.{length-own}

-- circuits with the same parts are the same
pub same_parts : (x y : Raw) → x.max_var ≡ y.max_var → x.inputs ≡ y.inputs → x.latches ≡ y.latches → x.outputs ≡ y.outputs
    → x.bad ≡ y.bad → x.constraints ≡ y.constraints → x.justice ≡ y.justice → x.fairness ≡ y.fairness → x.gates ≡ y.gates
    → x.symbols ≡ y.symbols → x.comment ≡ y.comment → x ≡ y
same_parts x y variables inputs latches outputs bad constraints justice fairness gates symbols comment = λ i. record {
  max_var = variables i;
  inputs = inputs i;
  latches = latches i;
  outputs = outputs i;
  bad = bad i;
  constraints = constraints i;
  justice = justice i;
  fairness = fairness i;
  gates = gates i;
  symbols = symbols i;
  comment = comment i;
}

module _ (model certificate : Raw) (meanings : Meanings) (literal : ℕ → ℕ) where
  -- how many inputs and latches there are, and how many variables of the certificate's own
  pub record Counted (inputs : List ℕ) (latches : List Latch) : Type 0 where
    pub more_inputs : length model.inputs ≤ length inputs
    pub more_latches : length model.latches ≤ length latches
    pub own_are : length inputs + length latches + length certificate.gates
        ≡ length (own_literals meanings certificate) + length model.inputs + length model.latches
    pub own_few : length (own_literals meanings certificate) ≤ 3 * limit

  properties_few : IsFormed certificate → length (properties certificate) ≤ limit
  properties_few formed = go (nat_lt 0 (length certificate.bad))
    where
      go : (b : Bool) → length (if b then certificate.bad else certificate.outputs) ≤ limit
      go true = formed.counts.bad
      go false = formed.counts.outputs

  pub few_claims : IsFormed certificate → length (claims certificate literal) ≤ 2 * limit
  few_claims formed =
      let c1 : length (map literal (properties certificate)) ≡ length (properties certificate) =
      length-map (properties certificate) literal in
      let c2 : length (map (λ (c : ℕ). negation (literal c)) certificate.constraints) ≡ length certificate.constraints =
      length-map certificate.constraints (λ (c : ℕ). negation (literal c)) in
      let c3 = length-append (map literal (properties certificate)) (map (λ (c : ℕ). negation (literal c)) certificate.constraints) in
      omega (arith, c1, c2, c3, properties_few formed, formed.counts.constraints)

  pub counted : IsFormed certificate → (inputs : List ℕ) (latches : List Latch)
      → inputs ≡ model.inputs ++ map literal (own meanings.inputs certificate.inputs)
      → latches ≡ model.latches ++ map (relabelled_latch literal) (own meanings.latches certificate.latches)
      → Counted inputs latches
  counted formed inputs latches inputs_are latches_are =
      let is : List ℕ = own meanings.inputs certificate.inputs in
      let ls : List Latch = own meanings.latches certificate.latches in
      let lits : List ℕ = map (λ (x : Latch). x.lit) ls in
      let lefts : List ℕ = map (λ (g : Gate). g.lhs) certificate.gates in
      let i1 : length inputs ≡ length (model.inputs ++ map literal is) = ap length inputs_are in
      let i2 : length (model.inputs ++ map literal is) ≡ length model.inputs + length (map literal is) =
      length-append model.inputs (map literal is) in
      let i3 : length (map literal is) ≡ length is = length-map is literal in
      let l1 : length latches ≡ length (model.latches ++ map (relabelled_latch literal) ls) = ap length latches_are in
      let l2 : length (model.latches ++ map (relabelled_latch literal) ls)
      ≡ length model.latches + length (map (relabelled_latch literal) ls) =
      length-append model.latches (map (relabelled_latch literal) ls) in
      let l3 : length (map (relabelled_latch literal) ls) ≡ length ls = length-map ls (relabelled_latch literal) in
      let o1 : length (is ++ lits ++ lefts) ≡ length (is ++ lits) + length lefts = length-append (is ++ lits) lefts in
      let o2 : length (is ++ lits) ≡ length is + length lits = length-append is lits in
      let o3 : length lits ≡ length ls = length-map ls (λ (x : Latch). x.lit) in
      let o4 : length lefts ≡ length certificate.gates = length-map certificate.gates (λ (g : Gate). g.lhs) in
      let b1 : length is ≤ length certificate.inputs = length-own meanings.inputs certificate.inputs in
      let b2 : length ls ≤ length certificate.latches = length-own meanings.latches certificate.latches in
      let few = formed.counts in
      record {
        more_inputs = omega (arith, i1, i2);
        more_latches = omega (arith, l1, l2);
        own_are = omega (arith, i1, i2, i3, l1, l2, l3, o1, o2, o3, o4);
        own_few = omega (arith, o1, o2, o3, o4, b1, b2, few.inputs, few.latches, few.gates);
      }
