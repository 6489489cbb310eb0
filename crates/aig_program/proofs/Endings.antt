-- How a command's function ends, from how the command does.
use Rattle.std.proofs.Common.{◌≡◌, ◌≢◌, ◌⊎◌, inl, inr, ℕ, ◌+◌, ◌≤◌, List, [], ◌++◌, Result, Ok, Err, refl, sym, ◌∙◌, ap, subst, arith}
use Rattle.std.proofs.lemmas.List.{append-nil, append_assoc}
use Rattle.std.specs.Prelude.{IsTrue, Option, None, Some, IfErr, IfSome, OnOk}
use Rattle.std.specs.Result.{IsErrAnd}
use Rattle.aig_bytes.specs.Bytes.{IsAtEnd, IsBeginning, before}
use Rattle.aig_bytes.specs.Flow.{Flow, flow}
use Rattle.aig_bytes.proofs.WriteLemmas.{after-nil}
use Rattle.aig_parts.specs.declared.fault.Fault.TheVariants as circuits
use Rattle.aig_parts.specs.declared.raw.Raw.{Raw}
use Rattle.aig_commands.specs.Check.{AreConfirmed}
use Rattle.aig_commands.specs.CheckAlive.{AreAlive, ChecksRun}
use Rattle.aig_commands.proofs.Printed.{holds_alive, holds_confirmed}
use Rattle.aig_sim.specs.declared.witness.breaks.Break.{Break}
use Rattle.aig_sim.specs.declared.witness.verdict.Verdict.{Verdict}
use Rattle.aig_sim.specs.declared.witness.verdict.Verdict.TheVariants.{Initial, Constraint, NotBad, Confirmed}
use Rattle.aig_command.specs.Command.{BreaksOff, CommandEnds, EndsReading, Gave, Got, OfFile, OfReader, Text}
use Rattle.aig_command.specs.Flushed.{IsFlushed, flushes, fails}
use Rattle.aig_commands.specs.declared.check.Shown.{Shown}
use Rattle.aig_command.specs.declared.run_fault.RunFault.{RunFault}
use Rattle.aig_command.specs.declared.run_fault.RunFault.TheVariants as run_faults
use Rattle.aig_files.specs.declared.exit.Exit.{Exit}
use Rattle.aig_files.specs.declared.exit.Exit.TheVariants as exits
use Rattle.aig_files.specs.Known.{still_known}
use Rattle.aig_files.specs.declared.part.Part.{Part}
use Rattle.aig_files.specs.declared.part.Part.TheVariants as parts
use Rattle.aig_program.specs.Ends.{end_of_alive}
use Rattle.aig_program.specs.Ends.{ChecksWitness, Completes, Ends, EndsFlushed, EndsKeeping, IsReadOf, IsUnwritten, OfText, Seen}
use Rattle.aig_program.specs.Ends.{as_meant, end_of, end_of_streamed, end_of_verdict, not_begun, not_kept, seen, unread, unwritten}

-- what holds of the bytes that were read holds of those that the file had left
pub of_whole : {T : Type 0} (left : Option T) (bytes : T) → IfSome left (λ xs. bytes ≡ xs) → (Q : T → Type 0) → Q bytes
    → IfSome left Q
of_whole None bytes whole Q q = tt
of_whole (Some xs) bytes whole Q q = subst Q whole q

-- the bytes of a slice of what was read are those too
pub slice_whole : {T : Type 0} (left : Option T) (bytes items : T) → bytes ≡ items → IfSome left (λ xs. items ≡ xs)
    → IfSome left (λ xs. bytes ≡ xs)
slice_whole None bytes items is whole = tt
slice_whole (Some xs) bytes items is whole = is ∙ whole

-- what holds of all bytes holds of those that the file had left
pub of_any : {T : Type 0} (left : Option T) (Q : T → Type 0) → ((xs : T) → Q xs) → IfSome left Q
of_any None Q q = tt
of_any (Some xs) Q q = q xs

-- the same of two files
pub of_both : {S T : Type 0} (left : Option S) (other : Option T) (bytes : S) (claims : T) → IfSome left (λ xs. bytes ≡ xs)
    → IfSome other (λ ys. claims ≡ ys) → (Q : S → T → Type 0) → Q bytes claims
    → IfSome left (λ xs. IfSome other (λ ys. Q xs ys))
of_both left other bytes claims whole whole_other Q q =
    of_whole left bytes whole (λ xs. IfSome other (λ ys. Q xs ys)) (of_whole other claims whole_other (Q bytes) q)

pub of_any_two : {S T : Type 0} (left : Option S) (other : Option T) (Q : S → T → Type 0) → ((xs : S) (ys : T) → Q xs ys)
    → IfSome left (λ xs. IfSome other (λ ys. Q xs ys))
of_any_two left other Q q =
    of_any left (λ xs. IfSome other (λ ys. Q xs ys)) (λ xs. of_any other (Q xs) (q xs))

-- the writer of a command that has not begun got nothing
pub nothing : {X : Type 0} (written : X → Option (List ℕ)) (failures : X → ℕ) (old : X) → Got (seen written failures old old) []
nothing written failures old = record { got = sym (after-nil (written old)); count = refl }

-- a file that was not read is reported so
pub ends_unread : {T : Type 0} {out : Flow Seen} {fault : RunFault} {end : Result T RunFault → Result (Unit {0}) Exit}
    {Means : Result T RunFault → List ℕ → Type 0} → Got out [] → (r : Result (Unit {0}) Exit) (exit : Exit) (part : Part)
    → (exit ≡ exits.Unread part) ⊎ (exit ≡ exits.Run run_faults.Memory) → IsErrAnd r (λ e. e ≡ exit) → Ends out fault end Means r
ends_unread none (Ok done) exit part why is = absurd is
ends_unread none (Err e) exit part (inl why) is = unread e refl (inl (part, is ∙ why)) none
ends_unread none (Err e) exit part (inr why) is = unread e refl (inr (is ∙ why)) none

-- a file of an option that cannot be written is reported so before the command
pub ends_unwritten : {T : Type 0} {out : Flow Seen} {fault : RunFault} {Means : Result T RunFault → List ℕ → Type 0}
    → Got out [] → (r : Result (Unit {0}) Exit) (exit : Exit) → IsUnwritten exit → IsErrAnd r (λ e. e ≡ exit)
    → EndsKeeping out fault Means r
ends_unwritten none (Ok done) exit why is = absurd is
ends_unwritten none (Err e) exit why is = not_begun e refl (subst IsUnwritten (sym is) why) none

-- then nothing is asked of a good end
pub no_end : (P : Type 0) (r : Result (Unit {0}) Exit) (exit : Exit) → IsErrAnd r (λ e. e ≡ exit) → OnOk r P
no_end P (Ok done) exit is = absurd is
no_end P (Err e) exit is = tt

-- what a flush leaves of a write that all went well, and of one that did not
module _ {X : Type 0} (written : X → Option (List ℕ)) (failures : X → ℕ) (old mid new : X) where
  got_kept : (bytes : List ℕ) → Got (flow written failures old mid) bytes → written new ≡ written mid
      → failures new ≡ failures mid → Got (seen written failures old new) bytes
  got_kept bytes g kept count = record { got = kept ∙ g.got; count = count ∙ g.count }

  got_broken : (bytes : List ℕ) → Got (flow written failures old mid) bytes → written new ≡ written mid
      → failures new ≡ failures mid + 1 → BreaksOff (seen written failures old new) bytes
  got_broken bytes g kept count = record {
    done = bytes;
    beginning = ([], sym (append-nil bytes));
    got = kept ∙ g.got;
    count = omega (arith, count, g.count);
  }

  pub still_broken : (bytes : List ℕ) → BreaksOff (flow written failures old mid) bytes → written new ≡ written mid
      → failures mid ≤ failures new → BreaksOff (seen written failures old new) bytes
  still_broken bytes b kept count = record {
    done = b.done;
    beginning = b.beginning;
    got = kept ∙ b.got;
    count = omega (arith, count, b.count);
  }

  -- the command and its flush together
  pub flushed_ends : {T : Type 0} (fault : RunFault) (Means : Result T RunFault → List ℕ → Type 0) (answer told : Result T RunFault)
      → CommandEnds (flow written failures old mid) fault Means answer
      → IsFlushed (flow written failures mid new) fault answer told → CommandEnds (seen written failures old new) fault Means told
  flushed_ends fault Means answer told (CommandEnds.writes_all bytes means got) (flushes kept count) =
      CommandEnds.writes_all bytes means (got_kept bytes got kept count)
  flushed_ends fault Means answer told (CommandEnds.writes_all bytes means got) (fails kept count) =
      CommandEnds.breaks_off answer bytes means (got_broken bytes got kept count)
  flushed_ends fault Means answer told (CommandEnds.breaks_off other bytes means b) (flushes kept count) =
      CommandEnds.breaks_off other bytes means (still_broken bytes b kept (omega (arith, count)))
  flushed_ends fault Means answer told (CommandEnds.breaks_off other bytes means b) (fails kept count) =
      CommandEnds.breaks_off other bytes means (still_broken bytes b kept (omega (arith, count)))

  -- so the program ends as the command means
  pub command_ends : {T : Type 0} {end : Result T RunFault → Result (Unit {0}) Exit} (fault : RunFault)
      (Means : Result T RunFault → List ℕ → Type 0) (answer : Result T RunFault) (r : Result (Unit {0}) Exit)
      → CommandEnds (flow written failures old mid) fault Means answer
      → EndsFlushed (flow written failures mid new) fault end answer r → Ends (seen written failures old new) fault end Means r
  command_ends fault Means answer r ends (told, flush, is) =
      as_meant told (flushed_ends fault Means answer told ends flush) is

-- nothing is written of a circuit that was not read
nothing_got : {T : Type 0} (out : Flow Seen) (fault : RunFault) (Said : Result T RunFault → List ℕ → Type 0)
    → fault ≢ run_faults.Circuit circuits.Io
    → ((bytes : List ℕ) → Said (Err (run_faults.Circuit circuits.Io)) bytes → bytes ≡ [])
    → CommandEnds out fault Said (Err (run_faults.Circuit circuits.Io)) → Got out []
nothing_got out fault Said other none (CommandEnds.writes_all bytes said got) = subst (Got out) (none bytes said) got
nothing_got out fault Said other none (CommandEnds.breaks_off answer bytes said b) = absurd (other refl)

-- a write that failed for an answer, or at once where the circuit was not read
broken_off : {T : Type 0} {end : Result T RunFault → Result (Unit {0}) Exit} (out : Flow Seen) (fault : RunFault)
    (Said Means : Result T RunFault → List ℕ → Type 0)
    → ((bytes : List ℕ) → Said (Err (run_faults.Circuit circuits.Io)) bytes → bytes ≡ [])
    → ((answer : Result T RunFault) (bytes : List ℕ) → answer ≢ Err (run_faults.Circuit circuits.Io) → Said answer bytes
    → Means answer bytes)
    → (answer : Result T RunFault) (bytes : List ℕ) → Said answer bytes → BreaksOff out bytes → (r : Result (Unit {0}) Exit)
    → r ≡ end (Err fault) → Ends out fault end Means r
broken_off out fault Said Means none means (Err (run_faults.Circuit circuits.Io)) bytes said b r is =
    unwritten (subst (BreaksOff out) (none bytes said) b) is
broken_off out fault Said Means none means answer bytes said b r is =
    as_meant (Err fault) (CommandEnds.breaks_off answer bytes (means answer bytes (λ e. cc) said) b) is

-- so it ends as it means, or the circuit's file was not read
streamed_told : {T : Type 0} (out : Flow Seen) (fault : RunFault) (Said Means : Result T RunFault → List ℕ → Type 0)
    → fault ≢ run_faults.Circuit circuits.Io
    → ((bytes : List ℕ) → Said (Err (run_faults.Circuit circuits.Io)) bytes → bytes ≡ [])
    → ((answer : Result T RunFault) (bytes : List ℕ) → answer ≢ Err (run_faults.Circuit circuits.Io) → Said answer bytes
    → Means answer bytes)
    → (told : Result T RunFault) (r : Result (Unit {0}) Exit) → CommandEnds out fault Said told → r ≡ end_of_streamed told
    → Ends out fault end_of Means r
streamed_told out fault Said Means other none means (Err (run_faults.Circuit circuits.Io)) r ends is =
    unread (exits.Unread parts.Circuit) is (inl (parts.Circuit, refl)) (nothing_got out fault Said other none ends)
streamed_told out fault Said Means other none means told r (CommandEnds.writes_all bytes said got) is =
    as_meant told (CommandEnds.writes_all bytes (means told bytes (λ e. cc) said) got) is
streamed_told out fault Said Means other none means told r (CommandEnds.breaks_off answer bytes said b) is =
    broken_off out fault Said Means none means answer bytes said b r is

module _ {X : Type 0} (written : X → Option (List ℕ)) (failures : X → ℕ) (old mid new : X) where
  -- on a circuit that a reader holds whose bytes are known it ends as it means for these
  pub streamed_ends_as : {Y T : Type 0} (circuit : Flow Y) (Said : Raw → Result T RunFault → List ℕ → Type 0)
      (Means : Result T RunFault → List ℕ → Type 0) (file : List ℕ) → circuit.bytes circuit.old ≡ Some file
      → ((answer : Result T RunFault) (bytes : List ℕ) → OfFile file Said answer bytes → Means answer bytes)
      → (answer : Result T RunFault) (r : Result (Unit {0}) Exit)
      → CommandEnds (flow written failures old mid) run_faults.Output (OfReader circuit Said) answer
      → EndsFlushed (flow written failures mid new) run_faults.Output end_of_streamed answer r
      → Ends (seen written failures old new) run_faults.Output end_of Means r
  streamed_ends_as circuit Said Means file is means answer r ends (told, flush, e) =
      streamed_told (seen written failures old new) run_faults.Output (OfReader circuit Said) Means (λ e. cc)
      (λ bytes said. said.of_circuit)
      (λ answer bytes whole said. means answer bytes (said.of_file file is whole)) told r
      (flushed_ends written failures old mid new run_faults.Output (OfReader circuit Said) answer told ends flush) e

  pub streamed_ends : {Y T : Type 0} (circuit : Flow Y) (Means : Raw → Result T RunFault → List ℕ → Type 0) (file : List ℕ)
      → circuit.bytes circuit.old ≡ Some file → (answer : Result T RunFault) (r : Result (Unit {0}) Exit)
      → CommandEnds (flow written failures old mid) run_faults.Output (OfReader circuit Means) answer
      → EndsFlushed (flow written failures mid new) run_faults.Output end_of_streamed answer r
      → Ends (seen written failures old new) run_faults.Output end_of (OfFile file Means) r
  streamed_ends circuit Means file is =
      streamed_ends_as circuit Means (OfFile file Means) file is (λ answer bytes said. said)

-- a reader that is at its first byte knows the bytes that its file has left
same_known : (left : Option (List ℕ)) → still_known left left ≡ left
same_known None = refl
same_known (Some all) = refl

pub known_at_first : {F : Type 0} (left : F → Option (List ℕ)) (file first now : F) → first ≡ file → now ≡ file
    → still_known (left first) (left now) ≡ left file
known_at_first {F = F} left file first now at_first is_now =
    subst (λ (f : F). still_known (left f) (left now) ≡ left file) (sym at_first)
    (subst (λ (f : F). still_known (left file) (left f) ≡ left file) (sym is_now) (same_known (left file)))

-- what holds of the bytes that the file had left, where it is known which
pub of_left : (left : Option (List ℕ)) (Q : List ℕ → Type 0) → ((xs : List ℕ) → left ≡ Some xs → Q xs) → IfSome left Q
of_left None Q q = tt
of_left (Some xs) Q q = q xs refl

-- what a reader gave is what was read of its bytes, where these are known
read_so_far : (all : List ℕ) (text : Text) (now : Option (List ℕ)) → Some all ≡ before text.bytes now
    → (IsTrue text.is_whole → IsAtEnd now) → IsReadOf all text
read_so_far all text None gave end = let no : ⊥ = cc in absurd no
read_so_far all text (Some rest) gave end =
    let is : all ≡ text.bytes ++ rest = cc in
    record {
      beginning = (rest, is);
      whole = λ whole. sym (is ∙ ap (λ (xs : List ℕ). text.bytes ++ xs) (end whole) ∙ append-nil text.bytes);
    }

pub read_of : {Y : Type 0} (reader : Flow Y) (text : Text) (failed : ℕ) (all : List ℕ) → reader.bytes reader.old ≡ Some all
    → Gave reader text failed → IsReadOf all text
read_of reader text failed all is g =
    read_so_far all text (reader.bytes reader.new) (sym is ∙ g.gave) g.whole

-- what was read before that is too
read_before : (all : List ℕ) (text part : Text) → IsReadOf all text → IsBeginning part.bytes text.bytes
    → (IsTrue part.is_whole → part ≡ text) → IsReadOf all part
read_before all text part read (more, begins) same = record {
  beginning = (
    more ++ read.beginning.0,
    read.beginning.1 ∙ ap (λ (xs : List ℕ). xs ++ read.beginning.0) begins
        ∙ append_assoc part.bytes more read.beginning.0,
  );
  whole = λ whole. ap (λ (t : Text). t.bytes) (same whole)
      ∙ read.whole (subst (λ (t : Text). IsTrue t.is_whole) (same whole) whole);
}

-- where it reads bytes meanwhile that are known, it ends as it means for those that it has read
pub text_ends : {X Y T : Type 0} (reader : Flow Y) (out : Flow X) (fault : RunFault) (all : List ℕ)
    → reader.bytes reader.old ≡ Some all → (Means : Text → Result T RunFault → List ℕ → Type 0) (answer : Result T RunFault)
    → EndsReading reader out fault Means answer → CommandEnds out fault (OfText all Means) answer
text_ends reader out fault all is Means answer (EndsReading.writes_all other w) =
    CommandEnds.writes_all w.bytes (w.text, read_of reader w.text 0 all is w.gave, w.means) w.got
text_ends reader out fault all is Means answer (EndsReading.stops_reading w) =
    CommandEnds.writes_all w.bytes (w.text, read_of reader w.text 1 all is w.gave, w.means) w.got
text_ends reader out fault all is Means answer (EndsReading.breaks_off w) =
    CommandEnds.breaks_off w.answer w.bytes
    (w.part, read_before all w.text w.part (read_of reader w.text w.failed all is w.gave) w.beginning w.whole, w.means)
    w.breaks_off

-- where the circuit is held by a reader too, it ends as it means for the bytes of both
text_of_file : {Y T : Type 0} (circuit : Flow Y) (Means : Text → Raw → Result T RunFault → List ℕ → Type 0) (file all : List ℕ)
    → circuit.bytes circuit.old ≡ Some file → (answer : Result T RunFault) (bytes : List ℕ)
    → answer ≢ Err (run_faults.Circuit circuits.Io) → OfText all (λ text. OfReader circuit (Means text)) answer bytes
    → OfText all (λ text. OfFile file (Means text)) answer bytes
text_of_file circuit Means file all is answer bytes whole (text, read, said) = (text, read, said.of_file file is whole)

text_of_none : {Y T : Type 0} (circuit : Flow Y) (Means : Text → Raw → Result T RunFault → List ℕ → Type 0) (all : List ℕ)
    (bytes : List ℕ) → OfText all (λ text. OfReader circuit (Means text)) (Err (run_faults.Circuit circuits.Io)) bytes → bytes ≡ []
text_of_none circuit Means all bytes (text, read, said) = said.of_circuit

module _ {X : Type 0} (written : X → Option (List ℕ)) (failures : X → ℕ) (old mid new : X) where
  pub streamed_text_ends : {Y Z T : Type 0} (circuit : Flow Z) (reader : Flow Y) (fault : RunFault)
      → fault ≢ run_faults.Circuit circuits.Io → (Means : Text → Raw → Result T RunFault → List ℕ → Type 0) (file all : List ℕ)
      → circuit.bytes circuit.old ≡ Some file → reader.bytes reader.old ≡ Some all
      → (answer : Result T RunFault) (r : Result (Unit {0}) Exit)
      → EndsReading reader (flow written failures old mid) fault (λ text. OfReader circuit (Means text)) answer
      → EndsFlushed (flow written failures mid new) fault end_of_streamed answer r
      → Ends (seen written failures old new) fault end_of (OfText all (λ text. OfFile file (Means text))) r
  streamed_text_ends {T = T} circuit reader fault other Means file all is is_text answer r ends (told, flush, e) =
      let Said : Text → Result T RunFault → List ℕ → Type 0 = λ text. OfReader circuit (Means text) in
      streamed_told (seen written failures old new) fault (OfText all Said) (OfText all (λ text. OfFile file (Means text))) other
      (text_of_none circuit Means all) (text_of_file circuit Means file all is) told r
      (flushed_ends written failures old mid new fault (OfText all Said) answer told
      (text_ends reader (flow written failures old mid) fault all is_text Said answer ends) flush) e

-- a good answer after which the writer was flushed was written
module _ {X : Type 0} (written : X → Option (List ℕ)) (failures : X → ℕ) (old mid new : X) where
  completes_seen : {T : Type 0} (fault : RunFault) (Means : Result T RunFault → List ℕ → Type 0) (value : T)
      → CommandEnds (seen written failures old new) fault Means (Ok value) → Completes (seen written failures old new) Means
  completes_seen fault Means value (CommandEnds.writes_all bytes means got) = (value, bytes, means, got)

  pub completes : {T : Type 0} (fault : RunFault) (Means : Result T RunFault → List ℕ → Type 0) (answer : Result T RunFault)
      (value : T) → CommandEnds (flow written failures old mid) fault Means answer
      → IsFlushed (flow written failures mid new) fault answer (Ok value) → Completes (seen written failures old new) Means
  completes fault Means answer value ends flush =
      completes_seen fault Means value (flushed_ends written failures old mid new fault Means answer (Ok value) ends flush)

  -- a good answer whose files are written or not
  pub ends_written : {T : Type 0} (fault : RunFault) (Means : Result T RunFault → List ℕ → Type 0) (answer : Result T RunFault)
      (value : T) (r : Result (Unit {0}) Exit) → CommandEnds (flow written failures old mid) fault Means answer
      → IsFlushed (flow written failures mid new) fault answer (Ok value) → IfErr r IsUnwritten
      → EndsKeeping (seen written failures old new) fault Means r
  ends_written fault Means answer value (Ok tt) ends flush kept =
      EndsKeeping.ends (as_meant (Ok value) (flushed_ends written failures old mid new fault Means answer (Ok value) ends flush) refl)
  ends_written fault Means answer value (Err e) ends flush kept =
      not_kept e refl kept (completes fault Means answer value ends flush)

-- only a good answer is a good end
ok_of : {T : Type 0} (P : Type 0) (answer : Result T RunFault) (r : Result (Unit {0}) Exit) → r ≡ end_of answer → OnOk answer P
    → OnOk r P
ok_of P (Ok value) (Ok done) is p = p
ok_of P (Err fault) (Ok done) is p = cc
ok_of P (Ok value) (Err e) is p = tt
ok_of P (Err fault) (Err e) is p = tt

-- also after the flush
pub ok_flushed : {X T : Type 0} (P : Type 0) (out : Flow X) (fault : RunFault) (answer : Result T RunFault)
    (r : Result (Unit {0}) Exit) → EndsFlushed out fault end_of answer r → OnOk answer P → OnOk r P
ok_flushed {T = T} P out fault answer r (told, flushes kept count, is) p = ok_of P answer r is p
ok_flushed {T = T} P out fault answer r (told, fails kept count, is) p = ok_of {T = T} P (Err fault) r is tt

-- a good end of a check is that of a confirmed witness
confirmed_file : (out : Flow Seen) (fault : RunFault) (shown : Option Shown) (asked : Option ℕ) (file text : List ℕ)
    (answer : Result Verdict RunFault) (r : Result (Unit {0}) Exit)
    → CommandEnds out fault (OfFile file (ChecksWitness shown asked text)) answer → r ≡ end_of_verdict answer
    → OnOk r (AreConfirmed asked file text)
confirmed_file out fault shown asked file text answer (Err e) a is = tt
confirmed_file out fault shown asked file text (Err why) (Ok done) a is = cc
confirmed_file out fault shown asked file text (Ok (Initial latch)) (Ok done) a is = cc
confirmed_file out fault shown asked file text (Ok (Constraint frame constraint)) (Ok done) a is = cc
confirmed_file out fault shown asked file text (Ok NotBad) (Ok done) a is = cc
confirmed_file out fault (Some shown) None file text (Ok Confirmed) (Ok done) (CommandEnds.writes_all bytes (raw, is_file, means) got) is =
    (raw, is_file, holds_confirmed raw text means.0, tt)
confirmed_file out fault None None file text (Ok Confirmed) (Ok done) (CommandEnds.writes_all bytes (raw, is_file, means) got) is =
    (raw, is_file, holds_confirmed raw text means.0, tt)
confirmed_file out fault (Some shown) (Some property) file text (Ok Confirmed) (Ok done) (CommandEnds.writes_all bytes (raw, is_file, (of, means)) got) is =
    (raw, is_file, holds_confirmed raw text means.0, of)
confirmed_file out fault None (Some property) file text (Ok Confirmed) (Ok done) (CommandEnds.writes_all bytes (raw, is_file, (of, means)) got) is =
    (raw, is_file, holds_confirmed raw text means.0, of)

pub confirmed_end : (out : Flow Seen) (fault : RunFault) (shown : Option Shown) (asked : Option ℕ) (file text : List ℕ)
    (r : Result (Unit {0}) Exit)
    → Ends out fault end_of_verdict (OfFile file (ChecksWitness shown asked text)) r → OnOk r (AreConfirmed asked file text)
confirmed_end out fault shown asked file text r (as_meant answer said is) =
    confirmed_file out fault shown asked file text answer r said is
confirmed_end out fault shown asked file text (Err e) (unwritten broken is) = tt
confirmed_end out fault shown asked file text (Ok done) (unwritten broken is) = let no : ⊥ = cc in absurd no
confirmed_end out fault shown asked file text (Err e) (unread exit is why none) = tt
confirmed_end out fault shown asked file text (Ok done) (unread exit is why none) = let no : ⊥ = cc in absurd no

-- a good end of a check of the constraints is that of a run that keeps them
alive_file : (out : Flow Seen) (fault : RunFault) (asked : Option ℕ) (file text : List ℕ)
    (answer : Result (Option Break) RunFault) (r : Result (Unit {0}) Exit)
    → CommandEnds out fault (OfFile file (ChecksRun asked text)) answer → r ≡ end_of_alive answer
    → OnOk r (AreAlive asked file text)
alive_file out fault asked file text answer (Err e) a is = tt
alive_file out fault asked file text (Err why) (Ok done) a is = cc
alive_file out fault asked file text (Ok (Some reason)) (Ok done) a is = cc
alive_file out fault asked file text (Ok None) (Ok done) (CommandEnds.writes_all bytes (raw, is_file, means) got) is =
    (raw, is_file, holds_alive raw asked text None refl means.0)

pub alive_end : (out : Flow Seen) (fault : RunFault) (asked : Option ℕ) (file text : List ℕ) (r : Result (Unit {0}) Exit)
    → Ends out fault end_of_alive (OfFile file (ChecksRun asked text)) r → OnOk r (AreAlive asked file text)
alive_end out fault asked file text r (as_meant answer said is) = alive_file out fault asked file text answer r said is
alive_end out fault asked file text (Err e) (unwritten broken is) = tt
alive_end out fault asked file text (Ok done) (unwritten broken is) = let no : ⊥ = cc in absurd no
alive_end out fault asked file text (Err e) (unread exit is why none) = tt
alive_end out fault asked file text (Ok done) (unread exit is why none) = let no : ⊥ = cc in absurd no

-- what holds of a good end, of bytes that were read
pub ok_whole : (r : Result (Unit {0}) Exit) (left : Option (List ℕ)) (bytes : List ℕ) → IfSome left (λ xs. bytes ≡ xs)
    → (Q : List ℕ → Type 0) → OnOk r (Q bytes) → OnOk r (IfSome left Q)
ok_whole (Ok done) left bytes whole Q q = of_whole left bytes whole Q q
ok_whole (Err e) left bytes whole Q q = tt
