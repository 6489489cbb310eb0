-- The literals of a circuit's gates have eight digits at most.
use Rattle.std.proofs.Common.{ℕ, ◌^◌, ◌<◌, List, [], ◌∷◌, ◌++◌, map, arith, All}
use Rattle.std.specs.List.{flat_map}
use Rattle.std.proofs.lemmas.List.Elements.{All-weaker}
use Rattle.aig_parts.specs.declared.raw.Raw.{Raw}
use Rattle.aig_base.specs.Circuit.{IsCircuit}
use Rattle.aig_base.specs.Sections.{definitions, uses}
use Rattle.aig_base.specs.Sound.{IsInRange}
use Rattle.aig_base.proofs.lists.Joined.{All-left, All-right, All-unmap, All-unflat}

abbrev is_short : ℕ → Type 0
is_short l = l < 10 ^ 8

pub short_gates : (raw : Raw) → IsCircuit raw
    → All (λ g. (g.lhs < 10 ^ 8) × (g.rhs0 < 10 ^ 8) × (g.rhs1 < 10 ^ 8)) raw.gates
short_gates raw c k d lt =
    let all : All is_short (definitions raw ++ uses raw) =
    All-weaker (IsInRange raw) is_short (λ l h. (let m = c.formed.counts.max_var in omega (arith, h, m)))
    (definitions raw ++ uses raw) c.sound.in_range in
    let lits : List ℕ = map (λ x. x.lit) raw.latches in
    let lhss : List ℕ = map (λ g. g.lhs) raw.gates in
    let others : List ℕ =
    map (λ x. x.next) raw.latches ++ raw.outputs ++ raw.bad ++ raw.constraints ++ flat_map (λ p. p) raw.justice ++ raw.fairness in
    let sides : List ℕ = flat_map (λ g. g.rhs0 ∷ g.rhs1 ∷ []) raw.gates in
    let defs = All-left is_short (definitions raw) (uses raw) all in
    let used = All-right is_short (definitions raw) (uses raw) all in
    let lhs : All (λ g. g.lhs < 10 ^ 8) raw.gates =
    All-unmap is_short (λ g. g.lhs) raw.gates (All-right is_short (raw.inputs ++ lits) lhss defs) in
    let rhs : All (λ g. All is_short (g.rhs0 ∷ g.rhs1 ∷ [])) raw.gates =
    All-unflat is_short (λ g. g.rhs0 ∷ g.rhs1 ∷ []) raw.gates (All-right is_short others sides used) in
    (lhs k d lt, rhs k d lt 0 0 (omega arith), rhs k d lt 1 0 (omega arith))
