-- No line of a script changes how many inputs there are.
use Rattle.std.proofs.Common.{◌≡◌, inl, inr, ℕ, List, length, refl, ap, Result, Ok, Err}
use Rattle.aig_bench.specs.declared.edit.EditFault.{EditFault}
use Rattle.aig_bench.specs.Edit as edits
use Rattle.aig_bench.specs.Edit.{Edit, Edits, edited}
use Rattle.aig_bench.specs.BenchState.{CircuitAndRows}
use Rattle.aig_script.specs.Command.{edit, value, trace, unroll}
use Rattle.aig_script.specs.Replies.{WholeReply}

same_edited : (old : CircuitAndRows) (e : Edit) → length (edited old e).circuit.inputs ≡ length old.circuit.inputs
same_edited old (edits.rewire lhs r0 r1) = refl
same_edited old (edits.set_reset latch w) = refl
same_edited old (edits.set_bit t i w) = refl
same_edited old (edits.add_frame row) = refl
same_edited old edits.drop_frame = refl
same_edited old (edits.append_gate r0 r1) = refl
same_edited old (edits.set_output i l) = refl

same_after : {A : Type 0} (old : CircuitAndRows) (e : Edit) (r : Result A EditFault) (new : CircuitAndRows) → Edits old e r new
    → length new.circuit.inputs ≡ length old.circuit.inputs
same_after old e (Ok x) new h = rw h.1 (same_edited old e)
same_after old e (Err f) new h = ap (λ (p : CircuitAndRows). length p.circuit.inputs) h.1

pub same_inputs : (old : CircuitAndRows) (line reply : List ℕ) (new : CircuitAndRows) → WholeReply old line reply new
    → length new.circuit.inputs ≡ length old.circuit.inputs
same_inputs old line reply new (inl (edit e, is, text, (r, h, said))) = same_after old e r new h.0
same_inputs old line reply new (inl (value t l, is, text, (r, h, said, stays))) =
    ap (λ (p : CircuitAndRows). length p.circuit.inputs) stays
same_inputs old line reply new (inl (trace, is, text, (bytes, h, said, stays))) =
    ap (λ (p : CircuitAndRows). length p.circuit.inputs) stays
same_inputs old line reply new (inl (unroll, is, text, (r, h, said, stays))) =
    ap (λ (p : CircuitAndRows). length p.circuit.inputs) stays
same_inputs old line reply new (inr (none, (said, stays))) = ap (λ (p : CircuitAndRows). length p.circuit.inputs) stays
