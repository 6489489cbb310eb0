-- The files of a pair.
use Rattle.std.proofs.Common.{◌≡◌, ◌∙◌, ℕ, List, length, ap, subst}
use Rattle.aig_parts.specs.declared.raw.Raw.{Raw}
use Rattle.aig_parts.specs.declared.ternary.Tern.{Tern}
use Rattle.aig_base.specs.Circuit.{IsCircuit}
use Rattle.aig_format.specs.Formats.{IsInFormat}
use Rattle.aig_format.specs.declared.reader.header.Format.TheVariants.{Ascii}
use Rattle.aig_format.proofs.FileLaws.{one_reading}
use Rattle.aig_sim.proofs.OneText.{one_list_of_rows}
use Rattle.aig_sim.specs.StimulusText.{SpellsRows}
use Rattle.aig_bench.specs.BenchState.{CircuitAndRows}
use Rattle.aig_command.specs.Command.{IsFileOf}
use Rattle.aig_command.proofs.CircuitFiles.{file_spells}
use Rattle.aig_script.specs.BenchFiles.{AreFilesOf, circuit_text}

same_pair : (p q : CircuitAndRows) → p.circuit ≡ q.circuit → p.rows ≡ q.rows → p ≡ q
same_pair p q e f =
    ap (λ (c : Raw). record { circuit = c; rows = p.rows }) e ∙ ap (λ (r : List (List Tern)). record { circuit = q.circuit; rows = r }) f

-- files are of one pair
pub one_pair : (circuit stimulus : List ℕ) (p q : CircuitAndRows) → AreFilesOf circuit stimulus p → AreFilesOf circuit stimulus q
    → p ≡ q
one_pair circuit stimulus p q f g =
    let e : p.circuit ≡ q.circuit =
    one_reading circuit p.circuit q.circuit (file_spells circuit p.circuit f.circuit_is)
    (file_spells circuit q.circuit g.circuit_is) in
    same_pair p q e
    (one_list_of_rows (length q.circuit.inputs) stimulus p.rows q.rows
    (subst (λ (raw : Raw). SpellsRows (length raw.inputs) stimulus p.rows) e f.rows_are) g.rows_are)

-- the texts of a pair are files of it
pub circuit_file : (pair : CircuitAndRows) → IsCircuit pair.circuit → IsInFormat Ascii (circuit_text pair) pair.circuit
    → IsFileOf (circuit_text pair) pair.circuit
circuit_file pair circuit spelled = record { spelled = (Ascii, spelled.1); circuit = circuit }
