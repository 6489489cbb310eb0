-- Gates against what else is defined, and against each other.
use Rattle.std.proofs.Common.{◌≡◌, ◌↔◌, None, IfSome, IfNone, IsTrue, is_some, inl, inr, ℕ, zero, suc, [], ◌∷◌}
use Rattle.std.proofs.Common.{flat_map, All, ◌++◌, ◌≤◌, List, map, Option, Some, slice_get, Contains, refl, sym, ◌∙◌}
use Rattle.std.proofs.Common.{ap, subst, arith, option_map}
use Rattle.std.proofs.lemmas.Bool.{false≢true}
use Rattle.std.proofs.lemmas.Option.{slice_get-map, same_Some, none-some}
use Rattle.std.proofs.lemmas.List.Elements.{All-contains, Contains-append_left, Contains-append_right}
use Rattle.aig_parts.specs.declared.gate.Gate.{Gate}
use Rattle.aig_parts.specs.declared.latch.Latch.{Latch}
use Rattle.aig_parts.specs.declared.raw.Raw.{Raw}
use Rattle.aig_base.specs.declared.circuit.definition.Definition.{Definition}
use Rattle.aig_base.specs.declared.circuit.definition.Definition.TheVariants as definition
use Rattle.aig_base.specs.Definition.{Defines, IsFree}
use Rattle.aig_parts.specs.Literal.{variable}
use Rattle.aig_base.specs.Sections.{definitions, uses, IsDefined, IsGate}
use Rattle.aig_base.specs.Grounded.{IsSource, Grounded, Level}
use Rattle.aig_base.specs.Grounded as by
use Rattle.aig_base.specs.Levels.{AreLevels}
use Rattle.aig_base.specs.Sound.{IsSound, IsDefinition, IsInRange}
use Rattle.aig_base.proofs.lists.Joined.{All-left, All-right}
use Rattle.aig_base.proofs.circuits.Places.{input, latch, gate, same_place, IsDefinition-of_place}
use Rattle.aig_base.proofs.lists.Positions.{Contains-cons, Contains-from_slice_get, position_of, unmap}

-- literals with one variable that are both definitions are one
pub same_literal : (l k : ℕ) → IsDefinition l → IsDefinition k → variable l ≡ variable k → l ≡ k
same_literal l k p q e = omega arith

-- a left side is even and positive
pub IsDefinition-of_gate : (raw : Raw) → IsSound raw → (q : ℕ) (g : Gate) → slice_get raw.gates q ≡ Some g
    → IsDefinition g.lhs
IsDefinition-of_gate raw s q g at = IsDefinition-of_place raw s (gate q) g.lhs tt (g, at, refl)

-- no source is a gate
pub source-gate : (raw : Raw) → IsSound raw → (v q : ℕ) (g : Gate) → slice_get raw.gates q ≡ Some g → IsSource raw v
    → v ≡ variable g.lhs → ⊥
source-gate raw s v q g at by.IsSource.constant e = let d = IsDefinition-of_gate raw s q g at in omega arith
source-gate raw s v q g at (by.IsSource.input p l here) e =
    let d = IsDefinition-of_gate raw s q g at in
    let f = IsDefinition-of_place raw s (input p) l tt here in
    let same : g.lhs ≡ l = same_literal g.lhs l d f (sym e) in
    let h = same_place raw s (input p) (gate q) l here (g, at, same) in cc
source-gate raw s v q g at (by.IsSource.latch p x here) e =
    let d = IsDefinition-of_gate raw s q g at in
    let f = IsDefinition-of_place raw s (latch p) x.lit tt (x, here, refl) in
    let same : g.lhs ≡ x.lit = same_literal g.lhs x.lit d f (sym e) in
    let h = same_place raw s (latch p) (gate q) x.lit (x, here, refl) (g, at, same) in cc

-- one gate has the variable
pub same_gate : (raw : Raw) → IsSound raw → (q r : ℕ) (g h : Gate) → slice_get raw.gates q ≡ Some g
    → slice_get raw.gates r ≡ Some h
    → variable g.lhs ≡ variable h.lhs → g ≡ h
same_gate raw s q r g h at here e =
    let same : h.lhs ≡ g.lhs =
    same_literal h.lhs g.lhs (IsDefinition-of_gate raw s r h here) (IsDefinition-of_gate raw s q g at) (sym e) in
    let k = same_place raw s (gate q) (gate r) g.lhs (g, at, refl) (h, here, same) in
    cc

-- the gate of a gate variable
pub gate_of : (raw : Raw) (v : ℕ) → IsGate raw v → (g : Gate) × (q : ℕ) × (slice_get raw.gates q ≡ Some g)
    × (variable g.lhs ≡ v)
gate_of raw v h = unmap (λ (g : Gate). variable g.lhs) raw.gates v h

-- the variable of a gate is a gate variable
pub IsGate-of_gate : (raw : Raw) (q : ℕ) (g : Gate) → slice_get raw.gates q ≡ Some g → IsGate raw (variable g.lhs)
IsGate-of_gate raw q g at =
    Contains-from_slice_get (map (λ g. variable g.lhs) raw.gates) q (variable g.lhs)
    (slice_get-map (λ (g : Gate). variable g.lhs) raw.gates q ∙ ap (option_map (λ (g : Gate). variable g.lhs)) at)

pub input_no_gate : (raw : Raw) → IsSound raw → (v p : ℕ) → Defines raw v (definition.Input p) → IsGate raw v → ⊥
input_no_gate raw s v p (l, at, is) h =
    let (g, q, here, same) = gate_of raw v h in
    source-gate raw s (variable l) q g here (by.IsSource.input p l at) (is ∙ sym same)

pub latch_no_gate : (raw : Raw) → IsSound raw → (v p : ℕ) → Defines raw v (definition.Latch p) → IsGate raw v → ⊥
latch_no_gate raw s v p (x, at, is) h =
    let (g, q, here, same) = gate_of raw v h in
    source-gate raw s (variable x.lit) q g here (by.IsSource.latch p x at) (is ∙ sym same)

-- a left side is among the definitions
gate_among : (raw : Raw) (q : ℕ) (g : Gate) → slice_get raw.gates q ≡ Some g → Contains (definitions raw) g.lhs
gate_among raw q g at =
    Contains-append_right (raw.inputs ++ map (λ x. x.lit) raw.latches) (map (λ g. g.lhs) raw.gates) g.lhs
    (Contains-from_slice_get (map (λ g. g.lhs) raw.gates) q g.lhs
    (slice_get-map (λ (g : Gate). g.lhs) raw.gates q ∙ ap (option_map (λ (g : Gate). g.lhs)) at))

-- a definition's variable is not over the greatest
among_in_range : (raw : Raw) → IsSound raw → (l : ℕ) → Contains (definitions raw) l → variable l ≤ raw.max_var
among_in_range raw s l h =
    let r : IsInRange raw l =
    All-contains (IsInRange raw) (definitions raw) l (All-left (IsInRange raw) (definitions raw) (uses raw) s.in_range)
    h in
    omega arith

-- a gate variable is not over the greatest
pub gate_in_range : (raw : Raw) → IsSound raw → (v : ℕ) → IsGate raw v → v ≤ raw.max_var
gate_in_range raw s v h =
    let (g, q, at, is) = gate_of raw v h in
    let r : IsInRange raw g.lhs =
    All-contains (IsInRange raw) (definitions raw) g.lhs
    (All-left (IsInRange raw) (definitions raw) (uses raw) s.in_range) (gate_among raw q g at) in
    omega arith

-- a defined variable is not over the greatest
pub defined_in_range : (raw : Raw) → IsSound raw → (v : ℕ) → IsDefined raw v → v ≤ raw.max_var
defined_in_range raw s v h = elim (Contains-cons 0 (map variable (definitions raw)) v h) [
  | inl e ↦ omega arith
  | inr k ↦
      (let (l, i, at, is) = unmap variable (definitions raw) v k in
      let r : IsInRange raw l = All-contains (IsInRange raw) (definitions raw) l
      (All-left (IsInRange raw) (definitions raw) (uses raw) s.in_range)
      (Contains-from_slice_get (definitions raw) i l at) in
      omega arith)
]

All-flat_map : {A B : Type 0} (P : B → Type 0) (f : A → List B) (xs : List A) (i : ℕ) (x : A) → All P (flat_map f xs)
    → slice_get xs i ≡ Some x → All P (f x)
All-flat_map P f [] i x h at = absurd (none-some x at)
All-flat_map P f (y ∷ ys) zero x h at = subst (λ z. All P (f z)) (same_Some y x at) (All-left P (f y) (flat_map f ys) h)
All-flat_map P f (y ∷ ys) (suc i) x h at = All-flat_map P f ys i x (All-right P (f y) (flat_map f ys) h) at

-- nor are the variables of a gate's right sides
pub sides_in_range : (raw : Raw) → IsSound raw → (q : ℕ) (g : Gate) → slice_get raw.gates q ≡ Some g
    → (variable g.rhs0 ≤ raw.max_var) × (variable g.rhs1 ≤ raw.max_var)
sides_in_range raw s q g at =
    let used = All-right (IsInRange raw) (definitions raw) (uses raw) s.in_range in
    let sides : All (IsInRange raw) (flat_map (λ (h : Gate). h.rhs0 ∷ h.rhs1 ∷ []) raw.gates) =
    All-right (IsInRange raw)
    (map (λ x. x.next) raw.latches ++ raw.outputs ++ raw.bad ++ raw.constraints ++ flat_map (λ p. p)
    raw.justice ++ raw.fairness)
    (flat_map (λ (h : Gate). h.rhs0 ∷ h.rhs1 ∷ []) raw.gates) used in
    let both : All (IsInRange raw) (g.rhs0 ∷ g.rhs1 ∷ []) =
    All-flat_map (IsInRange raw) (λ (h : Gate). h.rhs0 ∷ h.rhs1 ∷ []) raw.gates q g sides at in
    let one : IsInRange raw g.rhs0 = both 0 0 (omega arith) in
    let two : IsInRange raw g.rhs1 = both 1 0 (omega arith) in
    (omega arith, omega arith)

Contains-map : {A B : Type 0} (f : A → B) (xs : List A) (x : A) → Contains xs x → Contains (map f xs) (f x)
Contains-map f xs x h =
    let (i, at) = position_of xs x h in
    Contains-from_slice_get (map f xs) i (f x) (slice_get-map f xs i ∙ ap (option_map f) at)

pub free_no_gate : (raw : Raw) (v : ℕ) → IsFree raw v → IsGate raw v → ⊥
free_no_gate raw v free h =
    let (g, q, at, is) = gate_of raw v h in
    free (subst (Contains (map variable (definitions raw))) is
    (Contains-map variable (definitions raw) g.lhs (gate_among raw q g at)))

-- a variable with a level is not over the greatest
source_in_range : (raw : Raw) → IsSound raw → {v : ℕ} → IsSource raw v → v ≤ raw.max_var
source_in_range raw s by.IsSource.constant = omega arith
source_in_range raw s (by.IsSource.input p l at) = among_in_range raw s l
    (Contains-append_left (raw.inputs ++ map (λ x. x.lit) raw.latches) (map (λ g. g.lhs) raw.gates) l
    (Contains-append_left raw.inputs (map (λ x. x.lit) raw.latches) l (Contains-from_slice_get raw.inputs p l at)))
source_in_range raw s (by.IsSource.latch p x at) = among_in_range raw s x.lit
    (Contains-append_left (raw.inputs ++ map (λ x. x.lit) raw.latches) (map (λ g. g.lhs) raw.gates) x.lit
    (Contains-append_right raw.inputs (map (λ x. x.lit) raw.latches) x.lit
    (Contains-map (λ (y : Latch). y.lit) raw.latches x (Contains-from_slice_get raw.latches p x at))))

pub level_in_range : (raw : Raw) → IsSound raw → {v n : ℕ} → Level raw v n → v ≤ raw.max_var
level_in_range raw s (by.Level.source v h) = source_in_range raw s h
level_in_range raw s (by.Level.gate q g a b at l0 l1) = gate_in_range raw s (variable g.lhs) (IsGate-of_gate raw q g at)

-- a gate was found, or none
pub found_decides : (raw : Raw) (v : ℕ) (o : Option Gate)
    → IfSome o (λ g. (q : ℕ) × (slice_get raw.gates q ≡ Some g) × (variable g.lhs ≡ v))
    → IfNone o (IsGate raw v → ⊥) → IsTrue (is_some o) ↔ IsGate raw v
found_decides raw v None some none = (λ h. absurd (false≢true h), λ h. absurd (none h))
found_decides raw v (Some g) (q, at, e) none = (λ h. subst (IsGate raw) e (IsGate-of_gate raw q g at), λ h. refl)

defined_among : (raw : Raw) (l v : ℕ) → Contains (definitions raw) l → variable l ≡ v → IsDefined raw v
defined_among raw l v h e =
    let (k, lt, is) = subst (Contains (map variable (definitions raw))) e
    (Contains-map variable (definitions raw) l h) in
    (suc k, omega arith, is)

-- what has a definition is defined
pub defined_from_definition : (raw : Raw) (v : ℕ) (d : Definition) → Defines raw v d → IsDefined raw v
defined_from_definition raw v (definition.Input p) (l, at, e) =
    defined_among raw l v
    (Contains-append_left (raw.inputs ++ map (λ x. x.lit) raw.latches) (map (λ g. g.lhs) raw.gates) l
    (Contains-append_left raw.inputs (map (λ x. x.lit) raw.latches) l (Contains-from_slice_get raw.inputs p l at))) e
defined_from_definition raw v (definition.Latch p) (x, at, e) =
    defined_among raw x.lit v
    (Contains-append_left (raw.inputs ++ map (λ x. x.lit) raw.latches) (map (λ g. g.lhs) raw.gates) x.lit
    (Contains-append_right raw.inputs (map (λ x. x.lit) raw.latches) x.lit
    (Contains-map (λ (y : Latch). y.lit) raw.latches x (Contains-from_slice_get raw.latches p x at)))) e
defined_from_definition raw v (definition.Gate q) (g, at, e) = defined_among raw g.lhs v (gate_among raw q g at) e

pub defined_if_found : (raw : Raw) (v : ℕ) (o : Option Definition) → IfSome o (Defines raw v) → IsTrue (is_some o)
    → IsDefined raw v
defined_if_found raw v None found h = absurd (false≢true h)
defined_if_found raw v (Some d) found h = defined_from_definition raw v d found
