-- A circuit with other right sides at one gate.
use Rattle.std.proofs.Common.{◌≡◌, ◌≢◌, ◌⊎◌, inl, inr, ℕ, ◌+◌, nat_eq, Bool, true, false, List, [], ◌∷◌, ◌++◌, length}
use Rattle.std.proofs.Common.{map, Contains, Some, slice_get, slice_set, refl, sym, ap, ◌∙◌, subst, arith}
use Rattle.std.proofs.lemmas.Bool.Decides.{eqb_tells}
use Rattle.std.proofs.lemmas.List.{length-set}
use Rattle.std.proofs.lemmas.Option.{slice_get_within}
use Rattle.aig_parts.specs.declared.gate.Gate.{Gate}
use Rattle.aig_parts.specs.declared.latch.Latch.{Latch}
use Rattle.aig_parts.specs.declared.raw.Raw.{Raw}
use Rattle.aig_base.specs.Changes.{rewired, with_gate}
use Rattle.aig_parts.specs.declared.ternary.Tern.{Tern}
use Rattle.aig_base.specs.Circuit.{IsCircuit}
use Rattle.aig_base.specs.Grounded.{IsAcyclic}
use Rattle.aig_parts.specs.Literal.{variable}
use Rattle.aig_base.specs.Sections.{definitions, IsDefined, IsGate, IsLeftSide}
use Rattle.aig_base.proofs.rewires.Rewiring.{with_gate-circuit}
use Rattle.aig_base.proofs.lists.Gets.{get_from_Contains}
use Rattle.aig_base.proofs.checks.Marking.{slice_get_unmap}
use Rattle.aig_base.proofs.checks.Walks.{gate_old, the_gate}
use Rattle.aig_base.specs.Sound.{IsSound}
use Rattle.aig_base.proofs.circuits.Circuits.{gate_is}
use Rattle.aig_base.proofs.circuits.Gates.{same_gate}
use Rattle.aig_bench.specs.declared.engine.driven_circuit.DrivenCircuit.{DrivenCircuit}
use Rattle.aig_bench.specs.state.Current.{AreGateFlags, IsLaidOut}
use Rattle.aig_bench.specs.BenchState.{CircuitAndRows}
use Rattle.aig_bench.specs.state.DrivenCircuit.{IsDriven, pair_of}
use Rattle.aig_bench.specs.state.Waiting.{HaveSides, Sides, sides_of}
use Rattle.aig_bench.proofs.cells.CellLemmas.{get_set_same, get_set_other}

pub left_side_gate : (raw : Raw) (l : ℕ) → IsLeftSide raw l → IsGate raw (variable l)
left_side_gate raw l h =
    let (k, at) = get_from_Contains (map (λ (g : Gate). g.lhs) raw.gates) l h in
    let (g, here, e) = slice_get_unmap (λ (g : Gate). g.lhs) raw.gates k l at in
    subst (λ (n : ℕ). IsGate raw (variable n)) e (gate_is raw k g here)

module _ (lhs r0 r1 : ℕ) where
  same_sides : {X : Type 0} (f : ℕ → X) (gs : List Gate) → map (λ g. f g.lhs) (map (rewired lhs r0 r1) gs) ≡ map (λ g. f g.lhs) gs
  same_sides f [] = refl
  same_sides f (g ∷ gs) = ap (λ ls. f g.lhs ∷ ls) (same_sides f gs)

  pub gate_kept : (raw : Raw) (v : ℕ) → IsGate raw v → IsGate (with_gate raw lhs r0 r1) v
  gate_kept raw v h = subst (λ (ls : List ℕ). Contains ls v) (sym (same_sides variable raw.gates)) h

  pub gate_was : (raw : Raw) (v : ℕ) → IsGate (with_gate raw lhs r0 r1) v → IsGate raw v
  gate_was raw v h = subst (λ (ls : List ℕ). Contains ls v) (same_sides variable raw.gates) h

  same_definitions : (raw : Raw) → definitions raw ≡ definitions (with_gate raw lhs r0 r1)
  same_definitions raw = ap (λ ls. raw.inputs ++ map (λ (x : Latch). x.lit) raw.latches ++ ls) (sym (same_sides (λ n. n) raw.gates))

  pub defined_was : (raw : Raw) (v : ℕ) → IsDefined (with_gate raw lhs r0 r1) v → IsDefined raw v
  defined_was raw v h = subst (λ ls. Contains (0 ∷ map variable ls) v) (sym (same_definitions raw)) h

-- a driven circuit whose gate was rewired
pub driven_rewired : (driven new : DrivenCircuit) (lhs r0 r1 : ℕ) → IsDriven driven → new.circuit ≡ with_gate driven.circuit lhs r0 r1
    → new.stimulus ≡ driven.stimulus → IsDefined driven.circuit (variable r0) → IsDefined driven.circuit (variable r1)
    → IsAcyclic (with_gate driven.circuit lhs r0 r1) → IsDriven new
driven_rewired driven new lhs r0 r1 p e f d0 d1 acyclic = record {
  circuit = subst IsCircuit (sym e) (with_gate-circuit lhs r0 r1 driven.circuit p.circuit d0 d1 acyclic);
  width = rw (e, f) p.width;
  widths = rw f p.widths;
  frames = rw f p.frames;
  cells = rw (e, f) p.cells;
}

pub laid_out_rewired : (driven new : DrivenCircuit) (lhs r0 r1 : ℕ) (flags : List Bool) (cells : List (List Tern))
    → IsLaidOut driven flags cells → pair_of new ≡ record { circuit = with_gate driven.circuit lhs r0 r1; rows = driven.stimulus.rows }
    → IsLaidOut new flags cells
laid_out_rewired driven new lhs r0 r1 flags cells h e =
    let c : new.circuit ≡ with_gate driven.circuit lhs r0 r1 = ap (λ (p : CircuitAndRows). p.circuit) e in
    let r : new.stimulus.rows ≡ driven.stimulus.rows = ap (λ (p : CircuitAndRows). p.rows) e in
    let m : new.circuit.max_var ≡ driven.circuit.max_var = ap (λ (x : Raw). x.max_var) c in
    record {
      flags_are = subst (λ (x : Raw). AreGateFlags x flags) (sym c) (record {
        size = h.flags_are.size;
        gates = λ v le k. h.flags_are.gates v le (gate_was lhs r0 r1 driven.circuit v k);
        others = λ v le k. h.flags_are.others v le (λ i. k (gate_kept lhs r0 r1 driven.circuit v i));
      });
      rows_are = record {
        frames_are = h.rows_are.frames_are ∙ ap length (sym r);
        widths = λ t lt. h.rows_are.widths t (omega (arith, ap length r)) ∙ ap (λ n. n + 1) (sym m);
        constants = λ t lt. h.rows_are.constants t (omega (arith, ap length r));
      };
    }

-- other sides at the variable of a left side
abbrev pub with_pair : List Sides → ℕ → ℕ → ℕ → List Sides
with_pair sides lhs r0 r1 = slice_set sides (variable lhs) (record { rhs0 = r0; rhs1 = r1 })

-- the sides of gates, where the rewired one got others
pub sides_rewired : (raw : Raw) (sides : List Sides) (lhs r0 r1 : ℕ) → IsSound raw → IsLeftSide raw lhs → HaveSides raw sides
    → HaveSides (with_gate raw lhs r0 r1) (with_pair sides lhs r0 r1)
sides_rewired raw sides lhs r0 r1 sound left have = record {
  size = length-set sides (variable lhs) (record { rhs0 = r0; rhs1 = r1 }) ∙ have.size;
  each = λ q g at.
      let (x, here, is) = gate_old raw sound lhs r0 r1 left q g at in
      subst (λ (y : Gate). slice_get (with_pair sides lhs r0 r1) (variable y.lhs) ≡ Some (sides_of y)) is (of_gate q x here (eqb_tells x.lhs lhs));
}
  where
    one_left : (x : Gate) (q : ℕ) → slice_get raw.gates q ≡ Some x → variable x.lhs ≡ variable lhs → x.lhs ≡ lhs
    one_left x q here same =
        let (y, k, found, e) = the_gate raw sound lhs r0 r1 left in
        let one : x ≡ y = same_gate raw sound q k x y here found (same ∙ ap variable (sym e)) in
        ap (λ (g : Gate). g.lhs) one ∙ e

    of_gate : (q : ℕ) (x : Gate) → slice_get raw.gates q ≡ Some x
        → ((nat_eq x.lhs lhs ≡ true) × (x.lhs ≡ lhs)) ⊎ ((nat_eq x.lhs lhs ≡ false) × (x.lhs ≢ lhs))
        → slice_get (with_pair sides lhs r0 r1) (variable x.lhs) ≡ Some (sides_of (rewired lhs r0 r1 x))
    of_gate q x here (inl e) =
        let at : slice_get sides (variable lhs) ≡ Some (sides_of x) =
        ap (λ (l : ℕ). slice_get sides (variable l)) (sym e.1) ∙ have.each q x here in
        rw e.0 (ap (λ (l : ℕ). slice_get (with_pair sides lhs r0 r1) (variable l)) e.1
        ∙ get_set_same sides (variable lhs) (record { rhs0 = r0; rhs1 = r1 })
        (slice_get_within sides (variable lhs) (sides_of x) at))
    of_gate q x here (inr ne) =
        rw ne.0 (get_set_other sides (variable lhs) (variable x.lhs) (record { rhs0 = r0; rhs1 = r1 })
        (λ same. ne.1 (one_left x q here same)) ∙ have.each q x here)
