-- Nothing of a stimulus is read before the header of its dump is written.
use Rattle.std.proofs.Common.{◌≡◌, ℕ, ◌<◌, ◌≤◌, List, [], ◌++◌, length, inl, inr, Result, Ok, Err, refl, sym, ◌∙◌, ap}
use Rattle.std.proofs.Common.{subst}
use Rattle.std.specs.Prelude.{Some, true, false}
use Rattle.std.proofs.lemmas.Bool.{ltb-true, ltb-false}
use Rattle.std.proofs.lemmas.List.{take-append-drop, take-append-le}
use Rattle.std.proofs.Math.ListN.{take, drop}
use Rattle.std.proofs.Math.Seq.{take-append_seam}
use lib.Dec.{ltb}
use Rattle.aig_parts.specs.declared.raw.Raw.{Raw}
use Rattle.aig_bytes.specs.Bytes.{before, after}
use Rattle.aig_bytes.specs.Flow.{Flow}
use Rattle.aig_sim.specs.declared.stimulus.fault.StimFault.{StimFault}
use Rattle.aig_sim.specs.declared.stimulus.fault.StimFault.TheVariants as stimuli
use Rattle.aig_sim.specs.Dump.{closing}
use Rattle.aig_sim.specs.DumpHeader.{header}
use Rattle.aig_sim.proofs.SimulationLemmas.{before_nil}
use Rattle.aig_command.specs.Command.{IsFileOf}
use Rattle.aig_command.proofs.CircuitFiles.{file_spells}
use Rattle.aig_command.proofs.Files.{Answers}
use Rattle.aig_commands.specs.Wave.{HeaderFirst}
use Rattle.aig_commands.proofs.Runs.{Dumped}

-- the first bytes of two parts, where they are no fewer than those of the first part, have all of it
past : (head tail done rest : List ℕ) → head ++ tail ≡ done ++ rest → length head ≤ length done
    → done ≡ head ++ drop (length head) done
past head tail done rest is le =
    let n : ℕ = length head in
    let first : take n done ≡ head =
    sym (take-append-le n done rest le) ∙ ap (take n) (sym is) ∙ take-append_seam head tail in
    sym (take-append-drop n done) ∙ ap (λ (xs : List ℕ). xs ++ drop n done) first

module _ {Y X : Type 0} (reader : Flow Y) (out : Flow X) (raw : Raw) where
  -- no byte was read
  unread : (text : List ℕ) → reader.bytes reader.old ≡ before text (reader.bytes reader.new) → text ≡ []
      → HeaderFirst reader out raw
  unread text read is =
      inl (sym (read ∙ ap (λ (t : List ℕ). before t (reader.bytes reader.new)) is ∙ before_nil (reader.bytes reader.new)))

  -- the header was written
  with_header : (done more : List ℕ) → out.bytes out.new ≡ after (out.bytes out.old) done → done ≡ header raw ++ more
      → HeaderFirst reader out raw
  with_header done more wrote is = inr (more, wrote ∙ ap (after (out.bytes out.old)) is)

  -- a write failed
  stopped : (text done tail rest : List ℕ) → reader.bytes reader.old ≡ before text (reader.bytes reader.new)
      → out.bytes out.new ≡ after (out.bytes out.old) done → header raw ++ tail ≡ done ++ rest
      → (length done < length (header raw) → text ≡ []) → HeaderFirst reader out raw
  stopped text done tail rest read wrote is first =
      (elim (ltb (length done) (length (header raw))) as (λ b. ltb (length done) (length (header raw)) ≡ b → HeaderFirst reader out raw) [
        | true ↦ λ e. unread text read (first (ltb-true (length done) (length (header raw)) e))
        | false ↦ λ e.
            with_header done (drop (length (header raw)) done) wrote
            (past (header raw) tail done rest is (ltb-false (length done) (length (header raw)) e))
      ]) refl

  -- by what the dump promises
  pub header_first : (r : Result ℕ StimFault) → Dumped reader out raw r → HeaderFirst reader out raw
  header_first (Ok n) s = let (spells, end, is, number, none) = s.ended in with_header s.done _ s.wrote is
  header_first (Err stimuli.Io) s = elim s.ended [
    | inl (holds, is, one) ↦ with_header s.done s.frames s.wrote is
    | inr (breaks, one) ↦ elim breaks.beginning [
      | inl part ↦ stopped s.text s.done s.frames part.0 s.read s.wrote part.1 breaks.header_first
      | inr (spells, end, all) ↦
          stopped s.text s.done (s.frames ++ closing (length s.rows)) all.0 s.read s.wrote all.1 breaks.header_first
    ]
  ]
  header_first (Err stimuli.Limit) s = absurd s.ended.0
  header_first (Err stimuli.Memory) s = let (text, rows, is, none) = s.ended in unread s.text s.read text
  header_first (Err why) s = let (fault, is, none) = s.ended in with_header s.done s.frames s.wrote is

-- the circuit that was read is that of the file
pub header_of_file : {Z Y X : Type 0} (circuit : Flow Z) (reader : Flow Y) (out : Flow X) (read : Raw) → Answers circuit (Ok read)
    → HeaderFirst reader out read → (file : List ℕ) (raw : Raw) → circuit.bytes circuit.old ≡ Some file → IsFileOf file raw
    → HeaderFirst reader out raw
header_of_file circuit reader out read answers first file raw is of_file =
    let same : read ≡ raw = (answers file is (λ e. let no : ⊥ = cc in no)).only raw (file_spells file raw of_file) in
    subst (HeaderFirst reader out) same first
