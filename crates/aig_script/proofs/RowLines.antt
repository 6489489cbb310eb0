-- Lines of a script that append a frame.
use Rattle.std.proofs.Common.{◌≡◌, ◌≢◌, inl, inr, ℕ, ◌<◌, List, [], ◌∷◌, length, map, All, Err, refl, sym, ap, ◌∙◌}
use Rattle.std.proofs.Common.{subst, arith}
use Rattle.std.proofs.lemmas.List.{length-map}
use Rattle.std.proofs.lemmas.List.Elements.{All-head, All-tail, All-map}
use Rattle.aig_parts.specs.declared.ternary.Tern.{Tern}
use Rattle.aig_parts.specs.declared.ternary.Tern.TheVariants.{Zero, One, X}
use Rattle.aig_sim.specs.declared.stimulus.fault.StimFault.{StimFault}
use Rattle.aig_sim.specs.declared.stimulus.fault.StimFault.TheVariants as stimuli
use Rattle.aig_values.specs.Characters.{character}
use Rattle.aig_sim.specs.StimulusText.{IsCharacter, HasFault}
use Rattle.aig_sim.specs.declared.stimulus.row_parser.Shape.{Shape}
use Rattle.aig_sim.specs.declared.stimulus.row_parser.Shape.TheVariants.{Row}
use Rattle.aig_sim.specs.RowParser.{IsOfLine, IsKept, KeepsLine}
use Rattle.aig_sim.proofs.LineLemmas.{IsCharacter-of_value}
use Rattle.aig_bench.specs.declared.edit.EditFault.{EditFault}
use Rattle.aig_bench.specs.declared.edit.EditFault.TheVariants as faults
use Rattle.aig_bench.specs.BenchState.{CircuitAndRows}
use Rattle.aig_bench.specs.Edit as edits
use Rattle.aig_script.specs.Command.{edit, value, trace, unroll, IsNoCommand, command_text}
use Rattle.aig_script.specs.Replies.{WholeReply}
use Rattle.aig_script.specs.state.Faults.{row_fault_reply}
use Rattle.aig_script.proofs.OneCommand.{first_differs}

value_of : (b : ℕ) → IsCharacter b → (w : Tern) × (b ≡ character w)
value_of b (inl e) = (Zero, e)
value_of b (inr (inl e)) = (One, e)
value_of b (inr (inr e)) = (X, e)

-- characters are those of values
pub values_of : (text : List ℕ) → All IsCharacter text → (row : List Tern) × (text ≡ map character row)
values_of [] all = ([], refl)
values_of (b ∷ text) all =
    let (w, e) = value_of b (All-head IsCharacter b text all) in
    let (row, es) = values_of text (All-tail IsCharacter b text all) in
    (w ∷ row, ap (λ (c : ℕ). c ∷ text) e ∙ ap (λ (t : List ℕ). character w ∷ t) es)

characters : (row : List Tern) → All IsCharacter (map character row)
characters row = All-map IsCharacter character row (λ i d h. IsCharacter-of_value _)

-- lists that begin with different bytes

rest_same : (xs ys : List ℕ) → 43 ∷ (32 ∷ xs) ≡ 43 ∷ (32 ∷ ys) → xs ≡ ys
rest_same xs ys e = cc

-- with another byte the line is no command
pub wrong_row : (text : List ℕ) → (All IsCharacter text → ⊥) → IsNoCommand (43 ∷ 32 ∷ text)
wrong_row text wrong (edit (edits.rewire lhs r0 r1)) _ e = first_differs 43 119 _ _ (λ h. omega arith) e
wrong_row text wrong (edit (edits.set_reset latch w)) _ e = first_differs 43 114 _ _ (λ h. omega arith) e
wrong_row text wrong (edit (edits.set_bit t p w)) _ e = first_differs 43 115 _ _ (λ h. omega arith) e
wrong_row text wrong (edit (edits.add_frame row)) _ e =
    wrong (subst (All IsCharacter) (sym (rest_same text (map character row) e)) (characters row))
wrong_row text wrong (edit edits.drop_frame) _ e = first_differs 43 45 _ _ (λ h. omega arith) e
wrong_row text wrong (edit (edits.append_gate r0 r1)) _ e = first_differs 43 103 _ _ (λ h. omega arith) e
wrong_row text wrong (edit (edits.set_output p l)) _ e = first_differs 43 111 _ _ (λ h. omega arith) e
wrong_row text wrong (value t l) _ e = first_differs 43 118 _ _ (λ h. omega arith) e
wrong_row text wrong trace _ e = first_differs 43 116 _ _ (λ h. omega arith) e
wrong_row text wrong unroll _ e = first_differs 43 117 _ _ (λ h. omega arith) e

-- a line that is a row
pub row_line : (width : ℕ) (text : List ℕ) (shape : Shape) (values row : List Tern) → shape ≡ Row → values ≡ row
    → KeepsLine width text shape values → 43 ∷ (32 ∷ text) ≡ command_text (edit (edits.add_frame row))
row_line width text shape values row is same k =
    let h = subst (λ (s : Shape). IsKept width text s values) is k.kept in
    ap (λ (t : List ℕ). 43 ∷ (32 ∷ t)) (h.0 ∙ ap (map character) same)

-- the least fault of a row of another length
wrong_length : (p : CircuitAndRows) (row : List Tern) → length row ≢ length p.circuit.inputs
    → edits.IsLeastFault (edits.Forbids p (edits.add_frame row)) faults.Length
wrong_length p row ne = (ne, least)
  where
    least : (g : EditFault) → edits.edit_fault_number g < 8 → edits.Forbids p (edits.add_frame row) g → ⊥
    least faults.NotAGate lt h = h
    least faults.NotALatch lt h = h
    least faults.Range lt h = h
    least faults.Undefined lt h = h
    least faults.Cycle lt h = h
    least faults.NoFrame lt h = h
    least faults.NoInput lt h = h
    least faults.Length lt h = omega arith
    least faults.Empty lt h = h
    least faults.Limit lt h = omega arith
    least faults.Memory lt h = h
    least faults.NoOutput lt h = h

-- a line that is no row is answered by its fault
pub wrong_row_reply : (p : CircuitAndRows) (width before : ℕ) (text rest : List ℕ) (f : StimFault) → width ≡ length p.circuit.inputs
    → IsOfLine f → HasFault width before text rest f → WholeReply p (43 ∷ (32 ∷ text)) (row_fault_reply f) p
wrong_row_reply p width before text rest (stimuli.Char n) is of_line h = inr (wrong_row text h.2, (refl, refl))
wrong_row_reply p width before text rest (stimuli.Length n) is of_line h =
    let (row, e) = values_of text h.2 in
    let ne : length row ≢ length p.circuit.inputs = (λ k. h.3 (ap length e ∙ length-map row character ∙ k ∙ sym is)) in
    inl (edit (edits.add_frame row), tt, ap (λ (t : List ℕ). 43 ∷ (32 ∷ t)) e, (Err faults.Length, ((inl (wrong_length p row ne), refl), λ is. tt), refl))
wrong_row_reply p width before text rest stimuli.Unfinished is of_line h = absurd of_line
wrong_row_reply p width before text rest stimuli.Limit is of_line h = absurd of_line
wrong_row_reply p width before text rest stimuli.Memory is of_line h = absurd of_line
wrong_row_reply p width before text rest stimuli.Io is of_line h = absurd of_line
