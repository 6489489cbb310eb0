-- The numbers of a file's body, section by section.
use Rattle.std.proofs.Common.{ℕ, suc, ◌≤◌, List, [], ◌∷◌, ◌++◌, get_or, map, All, arith}
use Rattle.std.specs.List.{flat_map}
use Rattle.std.proofs.lemmas.List.Elements.{All-nil, All-cons, All-append, All-map}
use Rattle.aig_parts.specs.declared.raw.Raw.{Raw}
use Rattle.aig_parts.specs.declared.latch.Latch.{Latch}
use Rattle.aig_parts.specs.declared.gate.Gate.{Gate}
use Rattle.aig_base.specs.Sections.{definitions, uses}
use Rattle.aig_base.proofs.lists.Joined.{All-left, All-right, All-unmap, All-unflat}
use Rattle.aig_format.specs.Spells.{greatest, body_numbers}

abbrev pub is_small : ℕ → Type 0
is_small n = n ≤ greatest

abbrev pub AreSmall : List ℕ → Type 0
AreSmall ns = All is_small ns

-- no number of a section is over its limit
pub record HasSmallNumbers (raw : Raw) : Type 0 where
  pub inputs : AreSmall raw.inputs
  pub latches : All (λ x. (x.lit ≤ greatest) × (x.next ≤ greatest) × (x.reset ≤ greatest)) raw.latches
  pub outputs : AreSmall raw.outputs
  pub bad : AreSmall raw.bad
  pub constraints : AreSmall raw.constraints
  pub justice : All AreSmall raw.justice
  pub fairness : AreSmall raw.fairness
  pub gates : All (λ g. (g.lhs ≤ greatest) × (g.rhs0 ≤ greatest) × (g.rhs1 ≤ greatest)) raw.gates

pub by_section : (raw : Raw) → AreSmall (body_numbers raw) → HasSmallNumbers raw
by_section raw small =
    let lits : List ℕ = map (λ x. x.lit) raw.latches in
    let resets : List ℕ = map (λ x. x.reset) raw.latches in
    let lhss : List ℕ = map (λ g. g.lhs) raw.gates in
    let nexts : List ℕ = map (λ x. x.next) raw.latches in
    let js : List ℕ = flat_map (λ p. p) raw.justice in
    let sides : List ℕ = flat_map (λ g. g.rhs0 ∷ g.rhs1 ∷ []) raw.gates in
    let all = All-left is_small (definitions raw ++ uses raw) resets small in
    let defs = All-left is_small (definitions raw) (uses raw) all in
    let used = All-right is_small (definitions raw) (uses raw) all in
    let d1 = All-left is_small (raw.inputs ++ lits) lhss defs in
    let u1 = All-left is_small (nexts ++ raw.outputs ++ raw.bad ++ raw.constraints ++ js ++ raw.fairness) sides used in
    let u2 = All-left is_small (nexts ++ raw.outputs ++ raw.bad ++ raw.constraints ++ js) raw.fairness u1 in
    let u3 = All-left is_small (nexts ++ raw.outputs ++ raw.bad ++ raw.constraints) js u2 in
    let u4 = All-left is_small (nexts ++ raw.outputs ++ raw.bad) raw.constraints u3 in
    let u5 = All-left is_small (nexts ++ raw.outputs) raw.bad u4 in
    let lit : All (λ x. x.lit ≤ greatest) raw.latches =
    All-unmap is_small (λ x. x.lit) raw.latches (All-right is_small raw.inputs lits d1) in
    let next : All (λ x. x.next ≤ greatest) raw.latches =
    All-unmap is_small (λ x. x.next) raw.latches (All-left is_small nexts raw.outputs u5) in
    let reset : All (λ x. x.reset ≤ greatest) raw.latches =
    All-unmap is_small (λ x. x.reset) raw.latches (All-right is_small (definitions raw ++ uses raw) resets small) in
    let lhs : All (λ g. g.lhs ≤ greatest) raw.gates =
    All-unmap is_small (λ g. g.lhs) raw.gates (All-right is_small (raw.inputs ++ lits) lhss defs) in
    let rhs : All (λ g. AreSmall (g.rhs0 ∷ g.rhs1 ∷ [])) raw.gates =
    All-unflat is_small (λ g. g.rhs0 ∷ g.rhs1 ∷ []) raw.gates
    (All-right is_small (nexts ++ raw.outputs ++ raw.bad ++ raw.constraints ++ js ++ raw.fairness) sides used) in
    record {
      inputs = All-left is_small raw.inputs lits d1;
      latches = λ k d lt. (lit k d lt, next k d lt, reset k d lt);
      outputs = All-right is_small nexts raw.outputs u5;
      bad = All-right is_small (nexts ++ raw.outputs) raw.bad u4;
      constraints = All-right is_small (nexts ++ raw.outputs ++ raw.bad) raw.constraints u3;
      justice =
          All-unflat is_small (λ p. p) raw.justice
          (All-right is_small (nexts ++ raw.outputs ++ raw.bad ++ raw.constraints) js u2);
      fairness = All-right is_small (nexts ++ raw.outputs ++ raw.bad ++ raw.constraints ++ js) raw.fairness u1;
      gates = λ k d lt. (lhs k d lt, rhs k d lt 0 0 (omega arith), rhs k d lt 1 0 (omega arith));
    }

All-flat : {Y : Type 0} (f : Y → List ℕ) (ys : List Y) → All (λ y. AreSmall (f y)) ys → AreSmall (flat_map f ys)
All-flat f [] h = All-nil is_small
All-flat f (y ∷ ys) h =
    All-append is_small (f y) (flat_map f ys) (h 0 y (omega arith)) (All-flat f ys (λ k d l. h (suc k) d (omega arith)))

pub in_all : (raw : Raw) → HasSmallNumbers raw → AreSmall (body_numbers raw)
in_all raw h =
    let lits : List ℕ = map (λ x. x.lit) raw.latches in
    let resets : List ℕ = map (λ x. x.reset) raw.latches in
    let lhss : List ℕ = map (λ g. g.lhs) raw.gates in
    let nexts : List ℕ = map (λ x. x.next) raw.latches in
    let js : List ℕ = flat_map (λ p. p) raw.justice in
    let sides : List ℕ = flat_map (λ g. g.rhs0 ∷ g.rhs1 ∷ []) raw.gates in
    let lit : AreSmall lits = All-map is_small (λ (x : Latch). x.lit) raw.latches (λ k d lt. (let p = h.latches k d lt in p.0)) in
    let next : AreSmall nexts = All-map is_small (λ (x : Latch). x.next) raw.latches (λ k d lt. (let p = h.latches k d lt in p.1)) in
    let reset : AreSmall resets = All-map is_small (λ (x : Latch). x.reset) raw.latches (λ k d lt. (let p = h.latches k d lt in p.2)) in
    let lhs : AreSmall lhss = All-map is_small (λ (g : Gate). g.lhs) raw.gates (λ k d lt. (let p = h.gates k d lt in p.0)) in
    let side : AreSmall sides = All-flat (λ (g : Gate). g.rhs0 ∷ g.rhs1 ∷ []) raw.gates (λ k d lt.
    (let p = h.gates k d lt in
    let g : Gate = get_or raw.gates k d in
    All-cons is_small g.rhs0 (g.rhs1 ∷ []) p.1 (All-cons is_small g.rhs1 [] p.2 (All-nil is_small)))) in
    let d1 = All-append is_small raw.inputs lits h.inputs lit in
    let defs : AreSmall (definitions raw) = All-append is_small (raw.inputs ++ lits) lhss d1 lhs in
    let u5 = All-append is_small nexts raw.outputs next h.outputs in
    let u4 = All-append is_small (nexts ++ raw.outputs) raw.bad u5 h.bad in
    let u3 = All-append is_small (nexts ++ raw.outputs ++ raw.bad) raw.constraints u4 h.constraints in
    let u2 =
    All-append is_small (nexts ++ raw.outputs ++ raw.bad ++ raw.constraints) js u3
    (All-flat (λ (p : List ℕ). p) raw.justice h.justice) in
    let u1 = All-append is_small (nexts ++ raw.outputs ++ raw.bad ++ raw.constraints ++ js) raw.fairness u2 h.fairness in
    let used : AreSmall (uses raw) =
    All-append is_small (nexts ++ raw.outputs ++ raw.bad ++ raw.constraints ++ js ++ raw.fairness) sides u1 side in
    All-append is_small (definitions raw ++ uses raw) resets (All-append is_small (definitions raw) (uses raw) defs used)
    reset
