-- What a call for C returns, from how the command ended on a writer that was empty.
use Rattle.std.proofs.Common.{◌≡◌, ℕ, ◌+◌, ◌<◌, List, [], ◌++◌, length, Result, Ok, Err, refl, sym, ap, ◌∙◌, subst, arith}
use Rattle.std.specs.Prelude.{Option, Some}
use Rattle.std.proofs.lemmas.List.{append-nil, append_assoc, length-append}
use Rattle.std.proofs.lemmas.Option.{same_Some}
use Rattle.aig_bytes.specs.Bytes.{before, after, IsAtEnd}
use Rattle.aig_bytes.specs.Flow.{Flow, flow}
use Rattle.aig_parts.specs.declared.raw.Raw.{Raw}
use Rattle.aig_command.specs.Command.{CommandEnds, EndsReading, OfFile, OfReader, Text, WritesAll}
use Rattle.aig_command.specs.Status.{status_of}
use Rattle.aig_command.specs.declared.run_fault.RunFault.{RunFault}
use Rattle.aig_command.specs.declared.run_fault.RunFault.TheVariants as run_faults
use Rattle.aig_command.specs.declared.script_fault.ScriptFault.TheVariants as scripts
use Rattle.aig_c.specs.Answers.{Exceeds, ExceedsReading, Fills, Refuses, Returns}
use Rattle.aig_c.proofs.Silent.{Silent, of_reader}

-- what a call returns, where its text, a rejected input and a long text mean something else
pub reworded : {Done Said : List ℕ → Type 0} {Refused Rejects NoRoom Longer : Type 0} {status : ℕ} {room room_after : List ℕ}
    {size size_after : ℕ} → ((text : List ℕ) → status ≡ 0 → Said text → Done text) → (Rejects → Refused) → (Longer → NoRoom)
    → Fills Said Rejects Longer status room room_after size size_after
    → Fills Done Refused NoRoom status room room_after size size_after
reworded to_done to_refused to_no_room f = record {
  done = λ zero_is. to_done _ zero_is (f.done zero_is);
  refused = λ one_is. to_refused (f.refused one_is);
  no_room = λ two_is. to_no_room (f.no_room two_is);
  inside = f.inside;
  kept = f.kept;
  statuses = f.statuses;
}

-- what a call returns for what the command was told is what it returns for what it is asked
pub asked : {Told : Type 0} {told is : Told} {status : ℕ} {room room_after : List ℕ} {size size_after : ℕ}
    (Means : Told → Result (Unit {0}) RunFault → List ℕ → Type 0) → told ≡ is
    → Returns (Means told) status room room_after size size_after → Returns (Means is) status room room_after size size_after
asked {status = status} {room = room} {room_after = room_after} {size = size} {size_after = size_after} Means same =
    subst (λ is. Returns (Means is) status room room_after size size_after) same

abbrev status_of_answer : {T : Type 0} → Result T RunFault → ℕ
status_of_answer (Ok _) = 0
status_of_answer (Err fault) = status_of fault

-- it ended well: what was copied is what the command means
pub done : {X T : Type 0} {written : X → Option (List ℕ)} {failures : X → ℕ} {old new : X} {value : T}
    (Means : Result T RunFault → List ℕ → Type 0) (bytes got : List ℕ)
    → written old ≡ Some [] → written new ≡ Some bytes → got ≡ bytes
    → CommandEnds (flow written failures old new) run_faults.Output Means (Ok value) → Means (Ok value) got
done {written = written} {old = old} {value = value} Means bytes got empty is copied (CommandEnds.writes_all text means all) =
    let text_is : text ≡ bytes = same_Some text bytes
    (sym (all.got ∙ subst (λ (o : Option (List ℕ)). after o text ≡ Some text) (sym empty) refl) ∙ is) in
    subst (Means (Ok value)) (text_is ∙ sym copied) means

-- it ended with a fault of status 1: the command refuses an input
pub refused : {X T : Type 0} {written : X → Option (List ℕ)} {failures : X → ℕ} {old new : X}
    (Means : Result T RunFault → List ℕ → Type 0) (fault : RunFault) → status_of fault ≡ 1
    → CommandEnds (flow written failures old new) run_faults.Output Means (Err fault) → Refuses Means
refused Means fault one (CommandEnds.writes_all bytes means all) = (fault, one, (bytes, means))
refused Means fault one (CommandEnds.breaks_off answer bytes means part) = let no : ⊥ = cc in absurd no

-- ---- it wrote more than a room has

-- it ended well
pub exceeds : {X T : Type 0} {written : X → Option (List ℕ)} {failures : X → ℕ} {old new : X} {value : T}
    (Means : Result T RunFault → List ℕ → Type 0) (bytes got : List ℕ) (room : ℕ)
    → written old ≡ Some [] → written new ≡ Some bytes → got ≡ bytes → room < length got
    → CommandEnds (flow written failures old new) run_faults.Output Means (Ok value) → Exceeds room Means
exceeds {value = value} Means bytes got room empty is copied longer ends =
    (value, got, done Means bytes got empty is copied ends, longer)

-- what it wrote, from nothing on
wrote : {X : Type 0} (written : X → Option (List ℕ)) (old new : X) (text part : List ℕ)
    → written new ≡ after (written old) text → written old ≡ Some [] → written new ≡ Some part → part ≡ text
wrote written old new text part got empty is =
    same_Some part text (sym is ∙ (got ∙ subst (λ (o : Option (List ℕ)). after o text ≡ Some text) (sym empty) refl))

not_longer : (room : ℕ) (bytes : List ℕ) → bytes ≡ [] → room < length bytes → ⊥
not_longer room bytes none longer = omega (arith, longer, ap length none)

all_longer : (room : ℕ) (part text all rest : List ℕ) → part ≡ text → all ≡ text ++ rest → room < length part → room < length all
all_longer room part text all rest part_is all_is longer =
    omega (arith, longer, ap length part_is, ap length all_is, length-append text rest)

-- it ended with a fault, and so wrote a part of what it writes if it goes well
pub exceeds_part : {X T : Type 0} {written : X → Option (List ℕ)} {failures : X → ℕ} {old new : X}
    (Means : Result T RunFault → List ℕ → Type 0) → Silent Means → (fault : RunFault) (part got : List ℕ) (room : ℕ)
    → written old ≡ Some [] → written new ≡ Some part → got ≡ part → room < length got
    → CommandEnds (flow written failures old new) run_faults.Output Means (Err fault) → Exceeds room Means
exceeds_part {written = written} {old = old} {new = new} Means silent fault part got room empty is copied longer (CommandEnds.writes_all bytes means all) =
    absurd (not_longer room got
    (copied ∙ (wrote written old new bytes part all.got empty is ∙ silent fault bytes means)) longer)
exceeds_part {T = T} {written = written} {old = old} {new = new} Means silent fault part got room empty is copied longer (CommandEnds.breaks_off answer bytes means off) =
    by_answer answer means
    (all_longer room got off.done bytes off.beginning.0 (copied ∙ wrote written old new off.done part off.got empty is)
    off.beginning.1 longer)
  where
    by_answer : (answer : Result T RunFault) → Means answer bytes → room < length bytes → Exceeds room Means
    by_answer (Ok value) means longer = (value, bytes, means, longer)
    by_answer (Err other) means longer = absurd (not_longer room bytes (silent other bytes means) longer)

-- what a call returns after a command that went well
pub after_ok : {X : Type 0} {written : X → Option (List ℕ)} {failures : X → ℕ} {old new : X} {status : ℕ} {room room_after : List ℕ}
    {size size_after : ℕ} (Means : Result (Unit {0}) RunFault → List ℕ → Type 0) (bytes got : List ℕ)
    → written old ≡ Some [] → written new ≡ Some bytes → got ≡ bytes
    → CommandEnds (flow written failures old new) run_faults.Output Means (Ok tt)
    → Fills (λ text. text ≡ got) ⊥ (length room < length got) status room room_after size size_after
    → Returns Means status room room_after size size_after
after_ok {room = room} Means bytes got empty is copied ends =
    reworded (λ text zero_is same. done Means bytes text empty is (same ∙ copied) ends) (λ no. absurd no)
    (λ longer. exceeds Means bytes got (length room) empty is copied longer ends)

-- and after one that ended with a fault
pub after_err : {X : Type 0} {written : X → Option (List ℕ)} {failures : X → ℕ} {old new : X} {status : ℕ} {room room_after : List ℕ}
    {size size_after : ℕ} (Means : Result (Unit {0}) RunFault → List ℕ → Type 0) → Silent Means
    → (fault : RunFault) (part got : List ℕ) → written old ≡ Some [] → written new ≡ Some part → got ≡ part
    → CommandEnds (flow written failures old new) run_faults.Output Means (Err fault)
    → Fills (λ text. ⊥) (status_of fault ≡ 1) (length room < length got) status room room_after size size_after
    → Returns Means status room room_after size size_after
after_err {room = room} Means silent fault part got empty is copied ends =
    reworded (λ text zero_is no. absurd no) (λ one_is. refused Means fault one_is ends)
    (λ longer. exceeds_part Means silent fault part got (length room) empty is copied longer ends)

-- ---- a command that reads the circuit, from a reader that holds a file

done_reading : {X Y T : Type 0} {written : X → Option (List ℕ)} {failures : X → ℕ} {old new : X}
    {circuit : Flow Y} {value : T} (Means : Raw → Result T RunFault → List ℕ → Type 0) (file bytes got : List ℕ)
    → circuit.bytes circuit.old ≡ Some file → written old ≡ Some [] → written new ≡ Some bytes → got ≡ bytes
    → CommandEnds (flow written failures old new) run_faults.Output (OfReader circuit Means) (Ok value)
    → OfFile file Means (Ok value) got
done_reading {circuit = circuit} Means file bytes got holds empty is copied ends =
    (done (OfReader circuit Means) bytes got empty is copied ends).of_file file holds (λ same. let no : ⊥ = cc in no)

refused_reading : {X Y T : Type 0} {written : X → Option (List ℕ)} {failures : X → ℕ} {old new : X}
    {circuit : Flow Y} (Means : Raw → Result T RunFault → List ℕ → Type 0) (file : List ℕ) (fault : RunFault)
    → circuit.bytes circuit.old ≡ Some file → status_of fault ≡ 1
    → CommandEnds (flow written failures old new) run_faults.Output (OfReader circuit Means) (Err fault)
    → Refuses (OfFile file Means)
refused_reading Means file fault holds one (CommandEnds.writes_all bytes means all) = (
  fault,
  one,
  (
    bytes,
    means.of_file file holds
        (λ same. let apart : 3 ≡ 1 = sym (ap status_of_answer same) ∙ one in let no : ⊥ = cc in no),
  ),
)
refused_reading Means file fault holds one (CommandEnds.breaks_off answer bytes means part) = let no : ⊥ = cc in absurd no

well_read : {Y T : Type 0} {circuit : Flow Y} (Means : Raw → Result T RunFault → List ℕ → Type 0) (file : List ℕ) (room : ℕ)
    → circuit.bytes circuit.old ≡ Some file → Exceeds room (OfReader circuit Means) → Exceeds room (OfFile file Means)
well_read Means file room holds (value, bytes, means, longer) =
    (value, bytes, means.of_file file holds (λ same. let no : ⊥ = cc in no), longer)

exceeds_reading : {X Y T : Type 0} {written : X → Option (List ℕ)} {failures : X → ℕ} {old new : X}
    {circuit : Flow Y} {value : T} (Means : Raw → Result T RunFault → List ℕ → Type 0) (file bytes got : List ℕ) (room : ℕ)
    → circuit.bytes circuit.old ≡ Some file → written old ≡ Some [] → written new ≡ Some bytes → got ≡ bytes
    → room < length got → CommandEnds (flow written failures old new) run_faults.Output (OfReader circuit Means) (Ok value)
    → Exceeds room (OfFile file Means)
exceeds_reading {circuit = circuit} Means file bytes got room holds empty is copied longer ends =
    well_read Means file room holds (exceeds (OfReader circuit Means) bytes got room empty is copied longer ends)

exceeds_part_reading : {X Y T : Type 0} {written : X → Option (List ℕ)} {failures : X → ℕ} {old new : X}
    {circuit : Flow Y} (Means : Raw → Result T RunFault → List ℕ → Type 0) → ((raw : Raw) → Silent (Means raw))
    → (file : List ℕ) (fault : RunFault) (part got : List ℕ) (room : ℕ)
    → circuit.bytes circuit.old ≡ Some file → written old ≡ Some [] → written new ≡ Some part → got ≡ part
    → room < length got → CommandEnds (flow written failures old new) run_faults.Output (OfReader circuit Means) (Err fault)
    → Exceeds room (OfFile file Means)
exceeds_part_reading {circuit = circuit} Means silent file fault part got room holds empty is copied longer ends =
    well_read Means file room holds
    (exceeds_part (OfReader circuit Means) (of_reader Means silent circuit) fault part got room empty is copied longer ends)

pub after_ok_reading : {X Y : Type 0} {written : X → Option (List ℕ)} {failures : X → ℕ} {old new : X} {circuit : Flow Y}
    {status : ℕ} {room room_after : List ℕ} {size size_after : ℕ} (Means : Raw → Result (Unit {0}) RunFault → List ℕ → Type 0)
    (file bytes got : List ℕ) → circuit.bytes circuit.old ≡ Some file
    → written old ≡ Some [] → written new ≡ Some bytes → got ≡ bytes
    → CommandEnds (flow written failures old new) run_faults.Output (OfReader circuit Means) (Ok tt)
    → Fills (λ text. text ≡ got) ⊥ (length room < length got) status room room_after size size_after
    → Returns (OfFile file Means) status room room_after size size_after
after_ok_reading {room = room} Means file bytes got holds empty is copied ends =
    reworded (λ text zero_is same. done_reading Means file bytes text holds empty is (same ∙ copied) ends) (λ no. absurd no)
    (λ longer. exceeds_reading Means file bytes got (length room) holds empty is copied longer ends)

pub after_err_reading : {X Y : Type 0} {written : X → Option (List ℕ)} {failures : X → ℕ} {old new : X} {circuit : Flow Y}
    {status : ℕ} {room room_after : List ℕ} {size size_after : ℕ} (Means : Raw → Result (Unit {0}) RunFault → List ℕ → Type 0)
    → ((raw : Raw) → Silent (Means raw)) → (file : List ℕ) (fault : RunFault) (part got : List ℕ)
    → circuit.bytes circuit.old ≡ Some file → written old ≡ Some [] → written new ≡ Some part → got ≡ part
    → CommandEnds (flow written failures old new) run_faults.Output (OfReader circuit Means) (Err fault)
    → Fills (λ text. ⊥) (status_of fault ≡ 1) (length room < length got) status room room_after size size_after
    → Returns (OfFile file Means) status room room_after size size_after
after_err_reading {room = room} Means silent file fault part got holds empty is copied ends =
    reworded (λ text zero_is no. absurd no) (λ one_is. refused_reading Means file fault holds one_is ends)
    (λ longer. exceeds_part_reading Means silent file fault part got (length room) holds empty is copied longer ends)

-- ---- a command that reads a text meanwhile, from a reader that holds it

abbrev script_io : RunFault
script_io = run_faults.Script scripts.Io

pub done_script : {X Y T : Type 0} {written : X → Option (List ℕ)} {failures : X → ℕ} {old new : X} {reader : Flow Y}
    {value : T} (Means : Text → Result T RunFault → List ℕ → Type 0) (script rest bytes got : List ℕ)
    → reader.bytes reader.old ≡ Some script → reader.bytes reader.new ≡ Some rest
    → written old ≡ Some [] → written new ≡ Some bytes → got ≡ bytes
    → EndsReading reader (flow written failures old new) script_io Means (Ok value)
    → (text : Text) × (text.bytes ≡ script) × Means text (Ok value) got
done_script Means script rest bytes got holds left empty is copied (EndsReading.writes_all well all) =
    let text : List ℕ = all.text.bytes in
    let at_end : rest ≡ [] = subst IsAtEnd left (all.gave.whole all.whole) in
    let script_is : script ≡ text = same_Some script text
    (sym holds ∙ (all.gave.gave ∙ (ap (before text) left
    ∙ (ap (λ r. Some (text ++ r)) at_end ∙ ap Some (append-nil text))))) in (
      all.text,
      sym script_is,
      done (Means all.text) bytes got empty is copied (CommandEnds.writes_all all.bytes all.means all.got),
    )

pub refused_script : {X Y T : Type 0} {reader : Flow Y} {out : Flow X}
    (Means : Text → Result T RunFault → List ℕ → Type 0) (fault : RunFault) → status_of fault ≡ 1
    → EndsReading reader out script_io Means (Err fault) → (text : Text) × Refuses (Means text)
refused_script Means fault one (EndsReading.writes_all well all) = (all.text, (fault, one, (all.bytes, all.means)))
refused_script Means fault one (EndsReading.stops_reading all) = let no : ⊥ = cc in absurd no
refused_script Means fault one (EndsReading.breaks_off part) = let no : ⊥ = cc in absurd no

-- it ended well: what it wrote for the whole text
pub exceeds_script : {X Y T : Type 0} {written : X → Option (List ℕ)} {failures : X → ℕ} {old new : X} {reader : Flow Y}
    {value : T} (Means : Text → Result T RunFault → List ℕ → Type 0) (script rest bytes got : List ℕ) (room : ℕ)
    → reader.bytes reader.old ≡ Some script → reader.bytes reader.new ≡ Some rest
    → written old ≡ Some [] → written new ≡ Some bytes → got ≡ bytes → room < length got
    → EndsReading reader (flow written failures old new) script_io Means (Ok value)
    → ExceedsReading room script Means
exceeds_script {value = value} Means script rest bytes got room holds left empty is copied longer ends =
    let well = done_script Means script rest bytes got holds left empty is copied ends in
    (well.0, ([], sym well.1 ∙ sym (append-nil well.0.bytes)), (Ok value, got, well.2, longer))

-- the script, from what was read of it and what is left
read_of : (script rest text : List ℕ) (old new : Option (List ℕ)) → old ≡ Some script → new ≡ Some rest → old ≡ before text new
    → script ≡ text ++ rest
read_of script rest text old new holds left gave = same_Some script (text ++ rest) (sym holds ∙ (gave ∙ ap (before text) left))

wrote_all : {X Y T : Type 0} {written : X → Option (List ℕ)} {failures : X → ℕ} {old new : X} {reader : Flow Y} {failed : ℕ}
    {answer : Result T RunFault} (Means : Text → Result T RunFault → List ℕ → Type 0) (script rest part got : List ℕ) (room : ℕ)
    → reader.bytes reader.old ≡ Some script → reader.bytes reader.new ≡ Some rest
    → written old ≡ Some [] → written new ≡ Some part → got ≡ part → room < length got
    → WritesAll reader (flow written failures old new) failed Means answer → ExceedsReading room script Means
wrote_all {written = written} {old = old} {new = new} {reader = reader} {answer = answer} Means script rest part got room holds left empty is copied longer all = (
  all.text,
  (rest, read_of script rest all.text.bytes (reader.bytes reader.old) (reader.bytes reader.new) holds left all.gave.gave),
  (
    answer,
    all.bytes,
    all.means,
    subst (λ bytes. room < length bytes) (copied ∙ wrote written old new all.bytes part all.got.got empty is) longer,
  ),
)

-- it ended with a fault: it wrote a part of what it writes for a beginning of the text
pub exceeds_part_script : {X Y T : Type 0} {written : X → Option (List ℕ)} {failures : X → ℕ} {old new : X} {reader : Flow Y}
    (Means : Text → Result T RunFault → List ℕ → Type 0) (fault : RunFault) (script rest part got : List ℕ) (room : ℕ)
    → reader.bytes reader.old ≡ Some script → reader.bytes reader.new ≡ Some rest
    → written old ≡ Some [] → written new ≡ Some part → got ≡ part → room < length got
    → EndsReading reader (flow written failures old new) script_io Means (Err fault)
    → ExceedsReading room script Means
exceeds_part_script Means fault script rest part got room holds left empty is copied longer (EndsReading.writes_all well all) =
    wrote_all Means script rest part got room holds left empty is copied longer all
exceeds_part_script Means fault script rest part got room holds left empty is copied longer (EndsReading.stops_reading all) =
    wrote_all Means script rest part got room holds left empty is copied longer all
exceeds_part_script {written = written} {old = old} {new = new} {reader = reader} Means fault script rest part got room holds left empty is copied longer (EndsReading.breaks_off off) =
    let script_is = read_of script rest off.text.bytes (reader.bytes reader.old) (reader.bytes reader.new) holds left off.gave.gave in
    let stops = off.breaks_off in (
      off.part,
      (
        off.beginning.0 ++ rest,
        script_is ∙ (ap (λ xs. xs ++ rest) off.beginning.1 ∙ append_assoc off.part.bytes off.beginning.0 rest),
      ),
      (
        off.answer,
        off.bytes,
        off.means,
        all_longer room got stops.done off.bytes stops.beginning.0
            (copied ∙ wrote written old new stops.done part stops.got empty is) stops.beginning.1 longer,
      ),
    )
