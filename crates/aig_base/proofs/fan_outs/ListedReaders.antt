-- The list of a variable's readers, and the gates that read it.
use Rattle.std.proofs.Common.{◌≡◌, ℕ, ◌<◌, ◌≤◌, List, Some, slice_get, length, All, Contains, refl}
use Rattle.std.proofs.Common.{get_or, arith}
use Rattle.std.proofs.lemmas.List.Elements.{Contains-get_or}
use Rattle.aig_parts.specs.declared.gate.Gate.{Gate}
use Rattle.aig_parts.specs.declared.raw.Raw.{Raw}
use Rattle.aig_base.specs.Levels.{AreLevels}
use Rattle.aig_parts.specs.Literal.{variable}
use Rattle.aig_base.specs.Readers.{AreReaders, IsSide, ReaderLists, list_of}
use Rattle.aig_base.specs.Sound.{IsSound}
use Rattle.aig_base.proofs.circuits.Gates.{IsGate-of_gate, gate_in_range}

module _ (raw : Raw) (r : ReaderLists) (are : AreReaders raw r) (w : ℕ) (le : w ≤ raw.max_var) where
  -- a gate that reads w stands in the list of w
  pub listed : (q : ℕ) (g : Gate) → slice_get raw.gates q ≡ Some g → IsSide g w → Contains (list_of r w)
      (variable g.lhs)
  listed q g at side = (are.each w (variable g.lhs) le).1 (q, g, at, refl, side)

  -- what stands there is a gate that reads w
  pub reads : (v : ℕ) → Contains (list_of r w) v
      → (q : ℕ) × (g : Gate) × (slice_get raw.gates q ≡ Some g) × IsSide g w × (variable g.lhs ≡ v)
  reads v h =
      let (q, g, at, is, side) = (are.each w v le).0 h in
      (q, g, at, side, is)

  -- what stands there is in range
  pub list_within : IsSound raw → (levels : List ℕ) → AreLevels raw levels → All (λ v. v < length levels) (list_of r w)
  list_within sound levels levels_are k d lt =
      let (q, g, at, side, is) = reads (get_or (list_of r w) k d) (Contains-get_or (list_of r w) k d lt) in
      let low = gate_in_range raw sound (variable g.lhs) (IsGate-of_gate raw q g at) in
      omega (arith, levels_are.size)
