-- What holds of each literal that something reads, section by section.
use Rattle.std.proofs.Common.{ℕ, List, [], ◌∷◌, ◌++◌, map, All, arith}
use Rattle.std.specs.List.{flat_map}
use Rattle.std.proofs.lemmas.List.Elements.{All-nil, All-cons, All-head, All-tail, All-append, All-map, All-weaker}
use Rattle.aig_parts.specs.declared.gate.Gate.{Gate}
use Rattle.aig_parts.specs.declared.latch.Latch.{Latch}
use Rattle.aig_parts.specs.declared.raw.Raw.{Raw}
use Rattle.aig_base.specs.Sections.{uses}
use Rattle.aig_base.proofs.lists.Joined.{All-left, All-right, All-unmap}

-- what holds of each element of joined lists
pub All-joined : {X A : Type 0} (P : A → Type 0) (f : X → List A) (xs : List X) → All P (flat_map f xs)
    → All (λ x. All P (f x)) xs
All-joined P f [] h = All-nil (λ x. All P (f x))
All-joined P f (x ∷ xs) h = All-cons (λ x. All P (f x)) x xs (All-left P (f x) (flat_map f xs) h)
    (All-joined P f xs (All-right P (f x) (flat_map f xs) h))

pub All-join : {X A : Type 0} (P : A → Type 0) (f : X → List A) (xs : List X) → All (λ x. All P (f x)) xs
    → All P (flat_map f xs)
All-join P f [] h = All-nil P
All-join P f (x ∷ xs) h =
    All-append P (f x) (flat_map f xs) (All-head (λ x. All P (f x)) x xs h)
    (All-join P f xs (All-tail (λ x. All P (f x)) x xs h))

pub record EachUse (P : ℕ → Type 0) (raw : Raw) : Type 0 where
  pub nexts : All (λ x. P x.next) raw.latches
  pub outputs : All P raw.outputs
  pub bad : All P raw.bad
  pub constraints : All P raw.constraints
  pub justice : All (All P) raw.justice
  pub fairness : All P raw.fairness
  pub sides : All (λ g. P g.rhs0 × P g.rhs1) raw.gates

module _ (P : ℕ → Type 0) (raw : Raw) where
  pub each_use : All P (uses raw) → EachUse P raw
  each_use h =
      let nexts : List ℕ = map (λ x. x.next) raw.latches in
      let justice : List ℕ = flat_map (λ p. p) raw.justice in
      let sides : List ℕ = flat_map (λ g. g.rhs0 ∷ g.rhs1 ∷ []) raw.gates in
      let u5 = All-left P (nexts ++ raw.outputs ++ raw.bad ++ raw.constraints ++ justice ++ raw.fairness) sides h in
      let u4 = All-left P (nexts ++ raw.outputs ++ raw.bad ++ raw.constraints ++ justice) raw.fairness u5 in
      let u3 = All-left P (nexts ++ raw.outputs ++ raw.bad ++ raw.constraints) justice u4 in
      let u2 = All-left P (nexts ++ raw.outputs ++ raw.bad) raw.constraints u3 in
      let u1 = All-left P (nexts ++ raw.outputs) raw.bad u2 in
      record {
        nexts = All-unmap P (λ (x : Latch). x.next) raw.latches (All-left P nexts raw.outputs u1);
        outputs = All-right P nexts raw.outputs u1;
        bad = All-right P (nexts ++ raw.outputs) raw.bad u2;
        constraints = All-right P (nexts ++ raw.outputs ++ raw.bad) raw.constraints u3;
        justice = All-joined P (λ p. p) raw.justice
            (All-right P (nexts ++ raw.outputs ++ raw.bad ++ raw.constraints) justice u4);
        fairness = All-right P (nexts ++ raw.outputs ++ raw.bad ++ raw.constraints ++ justice) raw.fairness u5;
        sides = All-weaker (λ (g : Gate). All P (g.rhs0 ∷ g.rhs1 ∷ [])) (λ (g : Gate). P g.rhs0 × P g.rhs1)
            (λ g both. (both 0 0 (omega arith), both 1 0 (omega arith))) raw.gates
            (All-joined P (λ (g : Gate). g.rhs0 ∷ g.rhs1 ∷ []) raw.gates
            (All-right P (nexts ++ raw.outputs ++ raw.bad ++ raw.constraints ++ justice ++ raw.fairness) sides h));
      }

  pub all_uses : EachUse P raw → All P (uses raw)
  all_uses h =
      let nexts : List ℕ = map (λ x. x.next) raw.latches in
      let justice : List ℕ = flat_map (λ p. p) raw.justice in
      let u0 = All-map P (λ (x : Latch). x.next) raw.latches h.nexts in
      let u1 = All-append P nexts raw.outputs u0 h.outputs in
      let u2 = All-append P (nexts ++ raw.outputs) raw.bad u1 h.bad in
      let u3 = All-append P (nexts ++ raw.outputs ++ raw.bad) raw.constraints u2 h.constraints in
      let u4 = All-append P (nexts ++ raw.outputs ++ raw.bad ++ raw.constraints) justice u3
      (All-join P (λ p. p) raw.justice h.justice) in
      let u5 = All-append P (nexts ++ raw.outputs ++ raw.bad ++ raw.constraints ++ justice) raw.fairness u4
      h.fairness in
      All-append P (nexts ++ raw.outputs ++ raw.bad ++ raw.constraints ++ justice ++ raw.fairness)
      (flat_map (λ g. g.rhs0 ∷ g.rhs1 ∷ []) raw.gates) u5
      (All-join P (λ (g : Gate). g.rhs0 ∷ g.rhs1 ∷ []) raw.gates
      (All-weaker (λ (g : Gate). P g.rhs0 × P g.rhs1) (λ (g : Gate). All P (g.rhs0 ∷ g.rhs1 ∷ []))
      (λ g both. All-cons P g.rhs0 (g.rhs1 ∷ []) both.0 (All-cons P g.rhs1 [] both.1 (All-nil P))) raw.gates h.sides))
