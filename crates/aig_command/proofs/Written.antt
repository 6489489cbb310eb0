-- How a run ends by what one call wrote, and by what it means for another text or with another answer.
use Rattle.std.proofs.Common.{◌≡◌, ◌≢◌, ℕ, ◌+◌, ◌≤◌, List, [], Result, Ok, Err, refl, sym, ap, subst, arith}
use Rattle.std.specs.Prelude.{Option, Bool, true, false, IsTrue, IfOk, IfErr, OnOk}
use Rattle.aig_bytes.specs.Bytes.{before, IsAtEnd, Writes}
use Rattle.aig_bytes.specs.Flow.{Flow, flow}
use Rattle.aig_bytes.proofs.WriteLemmas.{after-nil}
use Rattle.aig_command.specs.declared.run_fault.RunFault.{RunFault}
use Rattle.aig_command.specs.declared.run_fault.RunFault.TheVariants as run_faults
use Rattle.aig_command.specs.Command.{Got, BreaksOff, CommandEnds, Text, Gave, WritesAll, WritesPart, EndsReading}
use Rattle.aig_command.specs.Faults.{output_of}
use Rattle.aig_sim.proofs.SimulationLemmas.{before_nil}

module _ {X : Type 0} (written : X → Option (List ℕ)) (failures : X → ℕ) (old new : X) where
  pub got_all : {S F : Type 0} (bytes : List ℕ) (value : S) → Writes {E = F} written failures old new bytes (Ok value)
      → Got (flow written failures old new) bytes
  got_all bytes value w = record { got = w.ok; count = omega (arith, w.count) }

  pub got_part : {S F : Type 0} (bytes : List ℕ) (why : F) → Writes {T = S} written failures old new bytes (Err why)
      → BreaksOff (flow written failures old new) bytes
  got_part bytes why w = record {
    done = w.err.0;
    beginning = w.err.1;
    got = w.err.2;
    count = omega (arith, w.count);
  }

  -- one text is written
  pub written_ends : {F : Type 0} (Means : Result (Unit {0}) RunFault → List ℕ → Type 0) (bytes : List ℕ) (r : Result (Unit {0}) F)
      → Writes written failures old new bytes r → Means (Ok tt) bytes
      → CommandEnds (flow written failures old new) run_faults.Output Means (output_of r)
  written_ends Means bytes (Ok done) w means = CommandEnds.writes_all bytes means (got_all bytes done w)
  written_ends Means bytes (Err why) w means = CommandEnds.breaks_off (Ok tt) bytes means (got_part bytes why w)

  -- one call at most failed
  pub one_at_most : {S F : Type 0} (bytes : List ℕ) (r : Result S F) → Writes written failures old new bytes r
      → failures new ≤ failures old + 1
  one_at_most bytes (Ok value) w = omega (arith, w.count)
  one_at_most bytes (Err why) w = omega (arith, w.count)

-- nothing is written
pub got_none : {X : Type 0} (written : X → Option (List ℕ)) (failures : X → ℕ) (old : X) → Got (flow written failures old old) []
got_none written failures old = record { got = sym (after-nil (written old)); count = refl }

-- what was read of a text, not or not yet to its end
pub gave_part : {Y : Type 0} (reader : Flow Y) (bytes : List ℕ) (failed : ℕ)
    → reader.bytes reader.old ≡ before bytes (reader.bytes reader.new)
    → reader.failures reader.new ≡ reader.failures reader.old + failed
    → Gave reader (record { bytes = bytes; is_whole = false }) failed
gave_part reader bytes failed read count =
    record { gave = read; whole = λ is. let no : ⊥ = cc is in absurd no; count = count }

-- all of a text was read
pub gave_whole : {Y : Type 0} (reader : Flow Y) (bytes : List ℕ) → reader.bytes reader.old ≡ before bytes (reader.bytes reader.new)
    → IsAtEnd (reader.bytes reader.new) → reader.failures reader.new ≡ reader.failures reader.old
    → Gave reader (record { bytes = bytes; is_whole = true }) 0
gave_whole reader bytes read end count = record { gave = read; whole = λ is. end; count = omega (arith, count) }

-- nothing is read
pub gave_none : {Y : Type 0} (left : Y → Option (List ℕ)) (failures : Y → ℕ) (old : Y)
    → Gave (flow left failures old old) (record { bytes = []; is_whole = false }) 0
gave_none left failures old =
    gave_part (flow left failures old old) [] 0 (sym (before_nil (left old))) (omega arith)

-- nothing is read or written
pub reading_none : {Y X T : Type 0} (left : Y → Option (List ℕ)) (reads : Y → ℕ) (reader : Y) (written : X → Option (List ℕ))
    (failures : X → ℕ) (old : X) (part : RunFault) (Means : Text → Result T RunFault → List ℕ → Type 0) (fault : RunFault)
    → ◌≢◌ {A = Result T RunFault} (Err fault) (Err part) → Means (record { bytes = []; is_whole = false }) (Err fault) []
    → EndsReading (flow left reads reader reader) (flow written failures old old) part Means (Err fault)
reading_none left reads reader written failures old part Means fault ne means = EndsReading.writes_all ne (record {
  text = record { bytes = []; is_whole = false };
  bytes = [];
  gave = gave_none left reads reader;
  means = means;
  whole = tt;
  got = got_none written failures old;
})

-- ---- another meaning, and another answer

-- the other answer has the same faults
pub record Keeps {T S : Type 0} (other : Result T RunFault → Result S RunFault) : Type 0 where
  pub fault : (fault : RunFault) → other (Err fault) ≡ Err fault
  pub back : (r : Result T RunFault) (fault : RunFault) → other r ≡ Err fault → r ≡ Err fault
  pub whole : (is : Bool) (r : Result T RunFault) → OnOk r (IsTrue is) → OnOk (other r) (IsTrue is)

pub keeps_same : {T : Type 0} → Keeps {T = T} {S = T} (λ r. r)
keeps_same = record { fault = λ fault. refl; back = λ r fault is. is; whole = λ is r h. h }

-- another value
abbrev pub through : {T S : Type 0} → (T → S) → Result T RunFault → Result S RunFault
through value (Ok x) = Ok (value x)
through value (Err fault) = Err fault

back_through : {T S : Type 0} (value : T → S) (r : Result T RunFault) (fault : RunFault) → through value r ≡ Err fault → r ≡ Err fault
back_through value (Ok x) fault is = let no : ⊥ = cc in absurd no
back_through value (Err f) fault is = ap Err (let same : f ≡ fault = cc in same)

whole_through : {T S : Type 0} (value : T → S) (is : Bool) (r : Result T RunFault) → OnOk r (IsTrue is)
    → OnOk (through value r) (IsTrue is)
whole_through value is (Ok x) h = h
whole_through value is (Err f) h = tt

pub keeps_through : {T S : Type 0} (value : T → S) → Keeps (through value)
keeps_through value = record { fault = λ fault. refl; back = back_through value; whole = whole_through value }

pub ends_changed : {X T S : Type 0} (out : Flow X) (fault : RunFault) (M : Result T RunFault → List ℕ → Type 0)
    (N : Result S RunFault → List ℕ → Type 0) (other : Result T RunFault → Result S RunFault) → Keeps other
    → ((answer : Result T RunFault) (bytes : List ℕ) → M answer bytes → N (other answer) bytes) → (r : Result T RunFault)
    → CommandEnds out fault M r → CommandEnds out fault N (other r)
ends_changed out fault M N other keeps map r (CommandEnds.writes_all bytes means got) =
    CommandEnds.writes_all bytes (map r bytes means) got
ends_changed out fault M N other keeps map r (CommandEnds.breaks_off answer bytes means b) =
    subst (CommandEnds out fault N) (sym (keeps.fault fault)) (CommandEnds.breaks_off (other answer) bytes (map answer bytes means) b)

-- what the bytes mean for one text, they mean for the other
pub ends_map : {X T : Type 0} (out : Flow X) (fault : RunFault) (M N : Result T RunFault → List ℕ → Type 0)
    → ((answer : Result T RunFault) (bytes : List ℕ) → M answer bytes → N answer bytes) → (r : Result T RunFault)
    → CommandEnds out fault M r → CommandEnds out fault N r
ends_map out fault M N = ends_changed out fault M N (λ r. r) keeps_same

module _ {Y X T S : Type 0} (reader : Flow Y) (out next : Flow X) (M : Text → Result T RunFault → List ℕ → Type 0)
    (N : Text → Result S RunFault → List ℕ → Type 0) (other : Result T RunFault → Result S RunFault) (keeps : Keeps other)
    (map : (text : Text) (answer : Result T RunFault) (bytes : List ℕ) → M text answer bytes → N text (other answer) bytes) where
  pub all_map : ((bytes : List ℕ) → Got out bytes → Got next bytes) → (failed : ℕ) (r : Result T RunFault)
      → WritesAll reader out failed M r → WritesAll reader next failed N (other r)
  all_map on failed r w = record {
    text = w.text;
    bytes = w.bytes;
    gave = w.gave;
    means = map w.text r w.bytes w.means;
    whole = keeps.whole w.text.is_whole r w.whole;
    got = on w.bytes w.got;
  }

  pub part_map : ((bytes : List ℕ) → BreaksOff out bytes → BreaksOff next bytes) → WritesPart reader out M → WritesPart reader next N
  part_map on w = record {
    text = w.text;
    failed = w.failed;
    few = w.few;
    gave = w.gave;
    part = w.part;
    beginning = w.beginning;
    whole = w.whole;
    answer = other w.answer;
    bytes = w.bytes;
    means = map w.part w.answer w.bytes w.means;
    breaks_off = on w.bytes w.breaks_off;
  }

pub reading_changed : {Y X T S : Type 0} (reader : Flow Y) (out : Flow X) (M : Text → Result T RunFault → List ℕ → Type 0)
    (N : Text → Result S RunFault → List ℕ → Type 0) (other : Result T RunFault → Result S RunFault) → Keeps other
    → ((text : Text) (answer : Result T RunFault) (bytes : List ℕ) → M text answer bytes → N text (other answer) bytes)
    → (fault : RunFault) (r : Result T RunFault) → EndsReading reader out fault M r → EndsReading reader out fault N (other r)
reading_changed reader out M N other keeps map fault r (EndsReading.writes_all ne w) =
    EndsReading.writes_all (λ is. ne (keeps.back r fault is)) (all_map reader out out M N other keeps map (λ bytes g. g) 0 r w)
reading_changed reader out M N other keeps map fault r (EndsReading.stops_reading w) =
    subst (EndsReading reader out fault N) (sym (keeps.fault fault)) (EndsReading.stops_reading
    (subst (WritesAll reader out 1 N) (keeps.fault fault) (all_map reader out out M N other keeps map (λ bytes g. g) 1 (Err fault) w)))
reading_changed reader out M N other keeps map fault r (EndsReading.breaks_off w) =
    subst (EndsReading reader out fault N) (sym (keeps.fault fault))
    (EndsReading.breaks_off (part_map reader out out M N other keeps map (λ bytes b. b) w))

-- ---- a fault is the output's alone

pub output_alone : {F : Type 0} (Same : Type 0) (r : Result (Unit {0}) F)
    → IfErr (output_of r) (λ fault. fault ≢ run_faults.Output → Same)
output_alone Same (Ok done) = tt
output_alone Same (Err why) = λ ne. absurd (ne refl)

pub output_refused : {T : Type 0} (Same : Type 0) (r : Result T RunFault) → IfErr r (λ fault. fault ≡ run_faults.Output)
    → IfErr r (λ fault. fault ≢ run_faults.Output → Same)
output_refused Same (Ok value) is = tt
output_refused Same (Err fault) is = λ ne. absurd (ne is)

-- one text is written, the answer is its own, and a fault is the output's
pub answer_ends : {X T : Type 0} (written : X → Option (List ℕ)) (failures : X → ℕ) (old new : X)
    (Means : Result T RunFault → List ℕ → Type 0) (bytes : List ℕ) (answer : T) (r : Result T RunFault)
    → Writes written failures old new bytes r → IfOk r (λ value. value ≡ answer) → IfErr r (λ fault. fault ≡ run_faults.Output)
    → Means (Ok answer) bytes → CommandEnds (flow written failures old new) run_faults.Output Means r
answer_ends written failures old new Means bytes answer (Ok value) w is output means =
    CommandEnds.writes_all bytes (subst (λ v. Means (Ok v) bytes) (sym is) means) (got_all written failures old new bytes value w)
answer_ends written failures old new Means bytes answer (Err fault) w is output means =
    subst (λ f. CommandEnds (flow written failures old new) run_faults.Output Means (Err f)) (sym output)
    (CommandEnds.breaks_off (Ok answer) bytes means (got_part written failures old new bytes fault w))

only_unit : {F : Type 0} (r : Result (Unit {0}) F) → IfOk r (λ value. value ≡ tt)
only_unit (Ok tt) = refl
only_unit (Err why) = tt

pub output_ends : {X : Type 0} (written : X → Option (List ℕ)) (failures : X → ℕ) (old new : X)
    (Means : Result (Unit {0}) RunFault → List ℕ → Type 0) (bytes : List ℕ) (r : Result (Unit {0}) RunFault)
    → Writes written failures old new bytes r → IfErr r (λ fault. fault ≡ run_faults.Output) → Means (Ok tt) bytes
    → CommandEnds (flow written failures old new) run_faults.Output Means r
output_ends written failures old new Means bytes r w = answer_ends written failures old new Means bytes tt r w (only_unit r)
