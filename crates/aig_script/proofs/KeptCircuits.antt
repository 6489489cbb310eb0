-- A line of a script leaves a circuit a circuit.
use Rattle.std.proofs.Common.{◌≡◌, ◌⊎◌, inl, inr, ℕ, zero, suc, ◌+◌, ◌<◌, ◌≤◌, List, [], ◌∷◌, length, map, get_or}
use Rattle.std.proofs.Common.{Contains, Result, Ok, Err, refl, sym, ap, ◌∙◌, subst, arith}
use Rattle.std.proofs.lemmas.Bool.{cases_lt}
use Rattle.aig_parts.specs.declared.fault.Fault.{Fault}
use Rattle.aig_parts.specs.declared.raw.Raw.{Raw}
use Rattle.aig_parts.specs.Formed.{limit}
use Rattle.aig_parts.specs.Literal.{variable}
use Rattle.aig_base.specs.Changes.{with_gate}
use Rattle.aig_base.specs.Circuit.{IsCircuit}
use Rattle.aig_base.specs.FirstFault.{FaultApplies}
use Rattle.aig_base.specs.Grounded.{IsAcyclic}
use Rattle.aig_base.specs.Sections.{definitions, IsDefined}
use Rattle.aig_base.specs.Sound.{IsSound}
use Rattle.aig_base.proofs.lists.Positions.{contains_or_not}
use Rattle.aig_base.proofs.checks.Acyclic.{acyclic}
use Rattle.aig_base.proofs.checks.NoFault.{no_fault, sound}
use Rattle.aig_base.proofs.growth.Appended.{more_circuit}
use Rattle.aig_base.proofs.growth.Outputs.{with_output-circuit}
use Rattle.aig_base.proofs.rewires.Rewiring.{with_gate-circuit, with_reset-circuit}
use Rattle.aig_bench.specs.declared.edit.EditFault.{EditFault}
use Rattle.aig_bench.specs.declared.edit.EditFault.TheVariants as faults
use Rattle.aig_bench.specs.BenchState.{CircuitAndRows}
use Rattle.aig_bench.specs.Edit.{Edit, rewire, set_reset, set_bit, add_frame, drop_frame, append_gate, set_output}
use Rattle.aig_bench.specs.Edit.{edited, Forbids, NoneApplies, Edits}
use Rattle.aig_script.specs.Command.{Command, edit, value, trace, unroll}
use Rattle.aig_script.specs.Lines.{Line, whole, unfinished}
use Rattle.aig_script.specs.Replies.{CommandReply, WholeReply, LineReply}

-- ---- what is not impossible

defined : (raw : Raw) (v : ℕ) → ((IsDefined raw v → ⊥) → ⊥) → IsDefined raw v
defined raw v some = elim (contains_or_not (0 ∷ map variable (definitions raw)) v) [ inl h ↦ h | inr never ↦ absurd (some never) ]

both_defined : (raw : Raw) (a b : ℕ) → ((IsDefined raw a × IsDefined raw b → ⊥) → ⊥) → IsDefined raw a × IsDefined raw b
both_defined raw a b some =
    (defined raw a (λ never. some (λ h. never h.0)), defined raw b (λ never. some (λ h. never h.1)))

below : (n : ℕ) (P : Type 0) → (((n < limit) × P → ⊥) → ⊥) → n < limit
below n P some = elim (cases_lt n limit) [ inl lt ↦ lt | inr le ↦ absurd (some (λ h. let lt = h.0 in omega arith)) ]

-- ---- edits

rewired : (raw : Raw) (lhs r0 r1 : ℕ) → IsCircuit raw → IsDefined raw (variable r0) → IsDefined raw (variable r1)
    → ((IsAcyclic (with_gate raw lhs r0 r1) → ⊥) → ⊥) → IsCircuit (with_gate raw lhs r0 r1)
rewired raw lhs r0 r1 c d0 d1 some =
    let new : Raw = with_gate raw lhs r0 r1 in
    let never : (f : Fault) → FaultApplies new f → ⊥ =
    λ f h. some (λ a. no_fault new (with_gate-circuit lhs r0 r1 raw c d0 d1 a).sound a f h) in
    with_gate-circuit lhs r0 r1 raw c d0 d1 (acyclic new (sound new never) never)

edited_circuit : (p : CircuitAndRows) (e : Edit) → IsCircuit p.circuit → NoneApplies (Forbids p e) → IsCircuit (edited p e).circuit
edited_circuit p (rewire lhs r0 r1) c none =
    let d = both_defined p.circuit (variable r0) (variable r1) (none faults.Undefined) in
    rewired p.circuit lhs r0 r1 c d.0 d.1 (none faults.Cycle)
edited_circuit p (set_reset latch w) c none = with_reset-circuit latch w p.circuit c
edited_circuit p (set_bit t i w) c none = c
edited_circuit p (add_frame row) c none = c
edited_circuit p drop_frame c none = c
edited_circuit p (append_gate r0 r1) c none =
    let d = both_defined p.circuit (variable r0) (variable r1) (none faults.Undefined) in
    more_circuit p.circuit r0 r1 c (below p.circuit.max_var _ (none faults.Limit)) d.0 d.1
edited_circuit p (set_output i l) c none =
    with_output-circuit p.circuit i l c (defined p.circuit (variable l) (none faults.Undefined))

edit_leaves : {A : Type 0} (p : CircuitAndRows) (e : Edit) (r : Result A EditFault) (n : CircuitAndRows) → IsCircuit p.circuit
    → Edits p e r n → IsCircuit n.circuit
edit_leaves p e (Ok x) n c h = subst (λ (q : CircuitAndRows). IsCircuit q.circuit) (sym h.1) (edited_circuit p e c h.0)
edit_leaves p e (Err f) n c h = subst (λ (q : CircuitAndRows). IsCircuit q.circuit) (sym h.1) c

-- ---- lines

kept : (p n : CircuitAndRows) → n ≡ p → IsCircuit p.circuit → IsCircuit n.circuit
kept p n e c = subst (λ (q : CircuitAndRows). IsCircuit q.circuit) (sym e) c

command_leaves : (p : CircuitAndRows) (c : Command) (r : List ℕ) (n : CircuitAndRows) → IsCircuit p.circuit → CommandReply p c r n
    → IsCircuit n.circuit
command_leaves p (edit e) r n c h = edit_leaves p e h.0 n c h.1.0
command_leaves p (value t l) r n c h = kept p n h.3 c
command_leaves p trace r n c h = kept p n h.3 c
command_leaves p unroll r n c h = kept p n h.3 c

whole_leaves : (p : CircuitAndRows) (line r : List ℕ) (n : CircuitAndRows) → IsCircuit p.circuit → WholeReply p line r n → IsCircuit n.circuit
whole_leaves p line r n c (inl h) = command_leaves p h.0 r n c h.3
whole_leaves p line r n c (inr h) = kept p n h.1.1 c

pub line_leaves : (p : CircuitAndRows) (line : Line) (r : List ℕ) (n : CircuitAndRows) → IsCircuit p.circuit → LineReply p line r n
    → IsCircuit n.circuit
line_leaves p (whole line) r n c h = whole_leaves p line r n c h
line_leaves p (unfinished line) r n c h = kept p n h.1 c
