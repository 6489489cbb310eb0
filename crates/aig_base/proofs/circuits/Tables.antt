-- What the number of a definition says.
use Rattle.std.proofs.Common.{◌≡◌, inl, inr, ℕ, zero, suc, ◌+◌, ◌<◌, ◌≤◌, List, ◌++◌, length, map, get_or}
use Rattle.std.proofs.Common.{Some, slice_get, sym, ap, subst, ◌∙◌, arith}
use Rattle.std.proofs.lemmas.List.{length-append, length-map, get_or-map}
use Rattle.std.proofs.lemmas.Option.{slice_get-get_or, slice_get_within, same_Some}
use Rattle.aig_parts.specs.declared.gate.Gate.{Gate}
use Rattle.aig_parts.specs.declared.latch.Latch.{Latch}
use Rattle.aig_parts.specs.declared.raw.Raw.{Raw}
use Rattle.aig_base.specs.declared.circuit.definition.Definition.{Definition}
use Rattle.aig_base.specs.declared.circuit.definition.Definition.TheVariants as definition
use Rattle.aig_parts.specs.Literal.{variable}
use Rattle.aig_base.specs.Sections.{definitions, uses}
use Rattle.aig_base.specs.Sound.{IsSound, IsInRange}
use Rattle.aig_base.proofs.lists.Gets.{slice_get_left, slice_get_right}
use Rattle.aig_base.proofs.lists.Joined.{All-left}
use Rattle.aig_base.proofs.checks.Marking.{slice_get_unmap}
use Rattle.aig_base.proofs.circuits.InOrder.{free_past_all, free_zero, gate_defines, input_defines, latch_defines}
use Rattle.aig_base.proofs.circuits.InOrder.{size_is}
use Rattle.aig_base.specs.Definition.{Defines, IsFree, IsInOrder}
use Rattle.aig_base.specs.state.Definitions.{HasNumber, IsNoNumber, IsNumberOf, IsDefinitionTable}

-- in order, the number is the variable
pub defines_in_order : (raw : Raw) (v : ℕ) (d : Definition) → IsInOrder raw → HasNumber raw v d → Defines raw v d
defines_in_order raw v (definition.Input p) order h = input_defines raw order v p h.0 h.1
defines_in_order raw v (definition.Latch p) order h = latch_defines raw order v p h.0 h.1
defines_in_order raw v (definition.Gate q) order h = gate_defines raw order v q h.0 h.1

pub free_in_order : (raw : Raw) (v : ℕ) → IsInOrder raw → IsNoNumber raw v → IsFree raw v
free_in_order raw v order (inl e) = free_zero raw order v e
free_in_order raw v order (inr l) = free_past_all raw order v (omega (arith, size_is raw order))

number_of : (defined : List ℕ) (v n k : ℕ) → n ≡ 1 + k → IsNumberOf defined v n → slice_get defined k ≡ Some v
number_of defined v zero k is h = absurd (omega arith)
number_of defined v (suc j) k is h = let e : j ≡ k = omega arith in subst (λ i. slice_get defined i ≡ Some v) e h

-- an element of joined lists that stands in the first
from_left : {X : Type 0} (xs ys : List X) (k : ℕ) (x : X) → k < length xs → slice_get (xs ++ ys) k ≡ Some x
    → slice_get xs k ≡ Some x
from_left xs ys k x l at =
    let here = slice_get-get_or xs k x l in
    here ∙ ap Some (same_Some (get_or xs k x) x (sym (slice_get_left xs ys k (get_or xs k x) here) ∙ at))

-- what follows from what a clause says of a `None`
-- what a variable's number says
pub defines_numbered : (raw : Raw) (v n : ℕ) (d : Definition) → HasNumber raw n d
    → IsNumberOf (map variable (definitions raw)) v n → Defines raw v d
defines_numbered raw v n d h is = of d h
  where
    lits : List ℕ
    lits = map (λ (x : Latch). x.lit) raw.latches

    sides : List ℕ
    sides = map (λ (g : Gate). g.lhs) raw.gates

    many : length lits ≡ length raw.latches
    many = length-map raw.latches (λ (x : Latch). x.lit)

    stands : (k : ℕ) → n ≡ 1 + k → (l : ℕ) × (slice_get (definitions raw) k ≡ Some l) × (variable l ≡ v)
    stands k e = slice_get_unmap variable (definitions raw) k v (number_of (map variable (definitions raw)) v n k e is)

    of : (d : Definition) → HasNumber raw n d → Defines raw v d
    of (definition.Input p) h =
        let (l, at, e) = stands p h.1 in
        let low : p < length (raw.inputs ++ lits) = omega (arith, length-append raw.inputs lits, h.0) in
        (l, from_left raw.inputs lits p l h.0 (from_left (raw.inputs ++ lits) sides p l low at), e)
    of (definition.Latch p) h =
        let k = length raw.inputs + p in
        let (l, at, e) = stands k (omega (arith, h.1)) in
        let low : k < length (raw.inputs ++ lits) = omega (arith, length-append raw.inputs lits, many, h.0) in
        let there = sym (slice_get_right raw.inputs lits p) ∙ from_left (raw.inputs ++ lits) sides k l low at in
        let (x, here, same) = slice_get_unmap (λ (y : Latch). y.lit) raw.latches p l there in
        (x, here, ap variable {x = x.lit} same ∙ e)
    of (definition.Gate q) h =
        let (l, at, e) = stands (length (raw.inputs ++ lits) + q)
        (omega (arith, length-append raw.inputs lits, many, h.1)) in
        let there = sym (slice_get_right (raw.inputs ++ lits) sides q) ∙ at in
        let (g, here, same) = slice_get_unmap (λ (y : Gate). y.lhs) raw.gates q l there in
        (g, here, ap variable {x = g.lhs} same ∙ e)

-- how many definitions there are
pub length-definitions : (raw : Raw)
    → length (map variable (definitions raw)) ≡ length raw.inputs + length raw.latches + length raw.gates
length-definitions raw =
    let lits = map (λ (x : Latch). x.lit) raw.latches in
    let sides = map (λ (g : Gate). g.lhs) raw.gates in
    omega (
      arith,
      length-map (definitions raw) variable,
      length-append (raw.inputs ++ lits) sides,
      length-append raw.inputs lits,
      length-map raw.latches (λ (x : Latch). x.lit),
      length-map raw.gates (λ (g : Gate). g.lhs),
    )

pub free_numbered : (raw : Raw) (v n : ℕ) → IsNoNumber raw n → IsNumberOf (map variable (definitions raw)) v n
    → IsFree raw v
free_numbered raw v zero missing h = h
free_numbered raw v (suc k) (inl e) h = absurd (omega arith)
free_numbered raw v (suc k) (inr l) h =
    absurd (omega (arith, length-definitions raw, slice_get_within (map variable (definitions raw)) k v h))

-- nothing defines a variable over the greatest
pub free_over : (raw : Raw) (v : ℕ) → IsSound raw → raw.max_var < v → IsFree raw v
free_over raw v sound over (k, lt, is) =
    let below : k < length (definitions raw) = rw length-map at lt in
    let here : IsInRange raw (get_or (definitions raw) k 0) = All-left (IsInRange raw) (definitions raw)
    (uses raw) sound.in_range k 0 below in
    let at : variable (get_or (definitions raw) k 0) ≡ v = sym (get_or-map variable (definitions raw) k 0 v below)
    ∙ is in
    omega arith

-- the number that reading the table gives
pub number_at : (raw : Raw) (table : List ℕ) (v n : ℕ) → IsDefinitionTable raw table → v < length table
    → n ≡ get_or table v n → IsNumberOf (map variable (definitions raw)) v n
number_at raw table v n t lt is = t.numbers v n (slice_get-get_or table v n lt ∙ ap Some (sym is))

-- past the table nothing is defined
pub free_past : (raw : Raw) (table : List ℕ) (v : ℕ) → IsDefinitionTable raw table → IsSound raw → length table ≤ v
    → IsFree raw v
free_past raw table v t sound past = free_over raw v sound (omega (arith, t.size))
