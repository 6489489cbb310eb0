-- From what a command means for the circuit that a question is about to what it means for the files.
use Rattle.std.proofs.Common.{◌≡◌, ◌≢◌, ◌+◌, inl, inr, ℕ, List, [], Result, Ok, Err, OnOk, refl, sym, ap, ap₂, ◌∙◌, subst, arith}
use Rattle.std.proofs.Common.{◌⊎◌, OnErr}
use Rattle.std.proofs.lemmas.List.{append-nil}
use Rattle.aig_bytes.specs.Bytes.{IsBeginning, after}
use Rattle.std.specs.Prelude.{IfOk, Option, None, Some, option_map}
use Rattle.std.specs.Borrow.{Bor}
use Rattle.std.specs.Result.{IsErrAnd}
use Rattle.aig_bytes.specs.Flow.{Flow, flow}
use Rattle.aig_parts.specs.declared.fault.Fault.{Fault}
use Rattle.aig_parts.specs.declared.raw.Raw.{Raw}
use Rattle.aig_base.specs.Circuit.{IsCircuit}
use Rattle.aig_certificate.specs.declared.fault.StrengthenFault.{StrengthenFault}
use Rattle.aig_certificate.specs.declared.fault.StrengthenFault.TheVariants as faults
use Rattle.aig_cnf.specs.CnfText.{read_text}
use Rattle.aig_cnf.specs.ReadFormula.{ReadCnf}
use Rattle.aig_cnf.specs.declared.fault.CnfFault.{CnfFault}
use Rattle.aig_cnf.specs.Alive.{always_bad}
use Rattle.aig_cnf.specs.Query.{induction, last, within}
use Rattle.aig_cnf.specs.declared.heading.Heading.{Heading}
use Rattle.aig_cnf.specs.declared.heading.Heading.TheVariants.{Runs, Alive, Certified}
use Rattle.aig_cnf.specs.declared.query.Goal.{Goal}
use Rattle.aig_cnf.specs.declared.query.Goal.TheVariants as goals
use Rattle.aig_cnf.specs.declared.query.Query.{Query}
use Rattle.aig_refute.proofs.ReadFormulas.{read_formula, read_no_run, read_one_formula, read_unreachable_within}
use Rattle.aig_command.specs.Command.{CommandEnds, OfFile}
use Rattle.aig_command.specs.declared.run_fault.RunFault.{RunFault}
use Rattle.aig_command.specs.declared.run_fault.RunFault.TheVariants as run_faults
use Rattle.aig_command.proofs.Files.{MeansNoFault, answered, of_file}
use Rattle.aig_command.proofs.Written.{ends_map, got_none}
use Rattle.aig_sat.specs.declared.proof.fault.ProofFault.{ProofFault}
use Rattle.aig_sat.specs.declared.proof.fault.ProofFault.TheVariants as proof_faults
use Rattle.aig_commands.specs.AliveWitness.{WritesAliveModel}
use Rattle.aig_commands.specs.Certified.{IsCertified, RefusesCertified, apart, no_certificate, no_circuit, strengthening_fault}
use Rattle.aig_commands.specs.Questions.{Asked, ChecksFor, NamesFor, OfSubject, RefutesFor, RefutesQuestion, Says, WritesFor}
use Rattle.aig_commands.specs.Questions.{asked_of, certificate_of, heading_of, query_of, question_map}
use Rattle.aig_commands.specs.Questions.{PrintsAnswer, line_for}
use Rattle.aig_commands.specs.Refute.{ChecksStep, answer_line, answer_text, proof_reads_failed, step_reads_failed}
use Rattle.aig_commands.specs.declared.certified.Purpose.TheVariants.{Formula}
use Rattle.aig_commands.specs.declared.refute.Proofs.{Proofs}
use Rattle.aig_commands.specs.declared.question.Question.{Question}
use Rattle.aig_commands.specs.declared.question.Question.TheVariants as questions
use Rattle.aig_commands.specs.state.About.{ChecksFormula, HasItsFormula, IsAbout, IsItsFormula, RefusesFile, RefusesFiles}
use Rattle.aig_commands.specs.state.About.{Answers, IsChecked, ReadsProofs, RefusesItsFormula, subject_of}
use Rattle.aig_commands.specs.state.Extended.{IsExtensionOf}
use Rattle.aig_commands.proofs.Certificates.{never_reached}
use Rattle.aig_commands.proofs.ModelWitnesses.{no_circuit_fault}

module _ (Means : Raw → Result (Unit {0}) RunFault → List ℕ → Type 0) (file : List ℕ) where
  -- of the file, or with a certificate of the circuit that it makes
  pub of_question : (by : Option (List ℕ × ℕ)) (raw : Raw) → MeansNoFault Means raw → IsAbout by file raw
      → (answer : Result (Unit {0}) RunFault) (bytes : List ℕ) → Means raw answer bytes → OfSubject by file Means answer bytes
  of_question None raw none about answer bytes m = of_file Means raw none file about answer bytes m
  of_question (Some (claims, p)) raw none about answer bytes m = inr (raw, about.0, m)

  no_file : (part : RunFault) → RefusesFile file part → OfFile file Means (Err part) []
  no_file part (fault, is, why) = subst (λ (f : RunFault). OfFile file Means (Err f) []) (sym is) (why, refl)

  -- nothing where there is none
  pub no_question : (by : Option (List ℕ × ℕ)) (fault : RunFault) → RefusesFiles by file fault
      → OfSubject by file Means (Err fault) []
  no_question None fault why = no_file fault why
  no_question (Some (claims, p)) fault why = inl (fault, refl, why, refl)

  pub question_ends : {X : Type 0} (out : Flow X) (by : Option (List ℕ × ℕ)) (raw : Raw) → MeansNoFault Means raw
      → IsAbout by file raw → (r : Result (Unit {0}) RunFault) → CommandEnds out run_faults.Output (Means raw) r
      → CommandEnds out run_faults.Output (OfSubject by file Means) r
  question_ends out by raw none about r e =
      ends_map out run_faults.Output (Means raw) (OfSubject by file Means) (of_question by raw none about) r e

  pub question_refused : {X : Type 0} (written : X → Option (List ℕ)) (failures : X → ℕ) (old : X) (by : Option (List ℕ × ℕ))
      (fault : RunFault) → RefusesFiles by file fault → (r : Result (Unit {0}) RunFault) → IsErrAnd r (λ f. f ≡ fault)
      → CommandEnds (flow written failures old old) run_faults.Output (OfSubject by file Means) r
  question_refused written failures old by fault why r is =
      answered r fault (CommandEnds (flow written failures old old) run_faults.Output (OfSubject by file Means)) is
      (CommandEnds.writes_all [] (no_question by fault why) (got_none written failures old))

-- ---- the certificate

-- the bytes of a certificate that is given
abbrev pub bytes_of : Bor (List ℕ) × ℕ → List ℕ × ℕ
bytes_of (certificate, p) = (certificate.now, p)

pub certificate_asked : (question : Question (Bor (List ℕ)))
    → certificate_of (asked_of question) ≡ option_map bytes_of (certificate_of question)
certificate_asked (questions.Within k p) = refl
certificate_asked (questions.Step k p) = refl
certificate_asked (questions.Alive k) = refl
certificate_asked (questions.Certified certificate p) = refl

-- as the function that looks for it says
pub certificate_is : (question : Question (Bor (List ℕ))) (found : Option (Bor (List ℕ) × ℕ)) → found ≡ certificate_of question
    → option_map bytes_of found ≡ certificate_of (asked_of question)
certificate_is question found is = ap (option_map bytes_of) is ∙ sym (certificate_asked question)

-- a question that is read without its certificate, and then gets the bytes of it
asked_again : {C : Type 0} (question : Question C) (certificate : Bor (List ℕ))
    → asked_of (question_map (λ own. certificate) (question_map {D = Unit {0}} (λ own. tt) question))
    ≡ question_map (λ own. certificate.now) question
asked_again (questions.Within k p) certificate = refl
asked_again (questions.Step k p) certificate = refl
asked_again (questions.Alive k) certificate = refl
asked_again (questions.Certified own p) certificate = refl

pub asked_with : {C : Type 0} (question : Question C) (shape : Question (Unit {0})) (asked : Question (Bor (List ℕ)))
    (certificate : Bor (List ℕ)) → shape ≡ question_map (λ own. tt) question → asked ≡ question_map (λ own. certificate) shape
    → asked_of asked ≡ question_map (λ own. certificate.now) question
asked_with question shape asked certificate shaped is =
    ap asked_of (is ∙ ap (question_map (λ own. certificate)) shaped) ∙ asked_again question certificate

-- a strengthened circuit is the one that the question is about
pub about_certified : (file claims : List ℕ) (p : ℕ) (r : Result Raw RunFault) → IfOk r (IsCertified file p claims)
    → IfOk r (IsExtensionOf file p) → IfOk r (IsAbout (Some (claims, p)) file)
about_certified file claims p (Ok x) is extension = (is, extension)
about_certified file claims p (Err fault) is extension = tt

-- ---- the formula

pub writes_formula : (asked : Heading) (raw shown : Raw) (heading : Heading) (read : ReadCnf) → HasItsFormula asked raw
    → IsItsFormula asked raw read → shown ≡ subject_of asked raw → heading ≡ asked
    → WritesFor asked raw (Ok tt) (read_text shown heading read)
writes_formula (Runs query) raw shown heading read has is same said =
    (has, (read, is, ap₂ (λ (r : Raw) (h : Heading). read_text r h read) same said))
writes_formula (Alive k) raw shown heading read has is same said =
    (has, (read, is, ap₂ (λ (r : Raw) (h : Heading). read_text r h read) same said))
writes_formula (Certified p) raw shown heading read has is same said =
    (has, (read, is, ap₂ (λ (r : Raw) (h : Heading). read_text r h read) same said))

pub writes_none : (asked : Heading) (raw : Raw) (fault : CnfFault) → RefusesItsFormula asked raw fault
    → WritesFor asked raw (Err (run_faults.Cnf fault)) []
writes_none (Runs query) raw fault why = (why, refl)
writes_none (Alive k) raw fault why = (why, refl)
writes_none (Certified p) raw fault why = (why, refl)

-- a fault of the circuit's file is none of its formula
pub writes_no_fault : (asked : Heading) (raw : Raw) (fault : Fault) (bytes : List ℕ)
    → WritesFor asked raw (Err (run_faults.Circuit fault)) bytes → ⊥
writes_no_fault (Runs query) raw fault bytes h = h
writes_no_fault (Alive k) raw fault bytes h = h
writes_no_fault (Certified p) raw fault bytes h = h

-- nor of a model of it
pub names_no_fault : (asked : Heading) (model : List ℕ) (raw : Raw) (fault : Fault) (bytes : List ℕ)
    → NamesFor asked model raw (Err (run_faults.Circuit fault)) bytes → ⊥
names_no_fault (Runs query) model raw fault bytes h = no_circuit_fault query model raw fault bytes h
names_no_fault (Alive k) model raw fault bytes (WritesAliveModel.names read values answer text has is of_model m) = m
names_no_fault (Certified p) model raw fault bytes h = no_circuit_fault (induction 1 0) model raw fault bytes h

-- ---- the check of its proof

-- what follows from one refuted formula
pub checks_one : (asked : Asked) (raw : Raw) → IsCircuit raw → (query_of asked).goal ≢ goals.Step
    → (r : Result (Unit {0}) RunFault) → ChecksFormula (heading_of asked) raw r → ChecksFor asked raw r
checks_one (questions.Within k p) raw circuit one (Ok done) (has, (read, is, refuted)) =
    (has, read_unreachable_within raw circuit read.cnf k p (read_formula raw (within k p) read is) refuted)
checks_one (questions.Within k p) raw circuit one (Err (run_faults.Cnf fault)) refuses = refuses
checks_one (questions.Within k p) raw circuit one (Err (run_faults.Proof fault)) has = has
checks_one (questions.Within k p) raw circuit one (Err fault) never = never
checks_one (questions.Step k p) raw circuit one r checks = absurd (one refl)
checks_one (questions.Alive k) raw circuit one (Ok done) (has, (read, is, refuted)) =
    (has, read_no_run raw circuit read.cnf k has.frames (read_formula (always_bad raw) (last k 0) read is) refuted)
checks_one (questions.Alive k) raw circuit one (Err (run_faults.Cnf fault)) refuses = refuses
checks_one (questions.Alive k) raw circuit one (Err (run_faults.Proof fault)) has = has
checks_one (questions.Alive k) raw circuit one (Err fault) never = never
checks_one (questions.Certified claims p) raw circuit one (Ok done) (has, (read, is, refuted)) =
    (has, read_one_formula raw circuit read.cnf 1 0 (read_formula raw (induction 1 0) read is) refuted)
checks_one (questions.Certified claims p) raw circuit one (Err (run_faults.Cnf fault)) refuses = refuses
checks_one (questions.Certified claims p) raw circuit one (Err (run_faults.Proof fault)) has = has
checks_one (questions.Certified claims p) raw circuit one (Err fault) never = never

-- and from two
pub checks_two : (asked : Asked) (query : Query) → query ≡ query_of asked → query.goal ≡ goals.Step → (raw : Raw)
    (r : Result (Unit {0}) RunFault) → ChecksStep query.frames query.property raw r → ChecksFor asked raw r
checks_two (questions.Within k p) query same steps raw r checks =
    let no : goals.Within ≡ goals.Step = sym (ap (λ (q : Query). q.goal) same) ∙ steps in
    let never : ⊥ = cc in absurd never
checks_two (questions.Step k p) query same steps raw r checks =
    subst (λ (q : Query). ChecksStep q.frames q.property raw r) same checks
checks_two (questions.Alive k) query same steps raw r checks =
    let no : goals.Last ≡ goals.Step = sym (ap (λ (q : Query). q.goal) same) ∙ steps in
    let never : ⊥ = cc in absurd never
checks_two (questions.Certified claims p) query same steps raw r checks =
    let no : goals.Induction ≡ goals.Step = sym (ap (λ (q : Query). q.goal) same) ∙ steps in
    let never : ⊥ = cc in absurd never

-- its query has another goal
pub no_step : (asked : Asked) (query : Query) (goal : Goal) → query ≡ query_of asked → query.goal ≡ goal → goal ≢ goals.Step
    → (query_of asked).goal ≢ goals.Step
no_step asked query goal same is other e = other (sym is ∙ (ap (λ (q : Query). q.goal) same ∙ e))

-- what it says of the file
pub says_of : (asked : Asked) (file : List ℕ) (raw : Raw) → IsCircuit raw → IsAbout (certificate_of asked) file raw
    → (r : Result (Unit {0}) RunFault) → ChecksFor asked raw r → OnOk r (Says asked file)
says_of (questions.Within k p) file raw circuit about (Ok done) checks = (raw, about, checks.1)
says_of (questions.Within k p) file raw circuit about (Err fault) checks = tt
says_of (questions.Step k p) file raw circuit about (Ok done) checks = (raw, about, checks.1)
says_of (questions.Step k p) file raw circuit about (Err fault) checks = tt
says_of (questions.Alive k) file raw circuit about (Ok done) checks = (raw, about, checks.1)
says_of (questions.Alive k) file raw circuit about (Err fault) checks = tt
says_of (questions.Certified claims p) file raw circuit about (Ok done) checks =
    never_reached file p raw circuit about.1 (Ok done) checks
says_of (questions.Certified claims p) file raw circuit about (Err fault) checks = tt

-- ---- a refused file is no fault of a proof

abbrev pub IsOfFile : RunFault → Type 0
IsOfFile (run_faults.Proof fault) = ⊥
IsOfFile (run_faults.StepProof fault) = ⊥
IsOfFile _ = Unit {0}

of_strengthening : (fault : StrengthenFault) → IsOfFile (strengthening_fault Formula fault)
of_strengthening faults.Comment = tt
of_strengthening (faults.Symbol kind position) = tt
of_strengthening faults.Property = tt
of_strengthening faults.Limit = tt
of_strengthening (faults.Circuit fault) = tt
of_strengthening faults.Memory = tt

of_certified : (file : List ℕ) (p : ℕ) (claims : List ℕ) (part : RunFault) → RefusesCertified Formula file p claims part
    → IsOfFile part
of_certified file p claims part (no_circuit fault why) = tt
of_certified file p claims part (no_certificate raw fault is why) = tt
of_certified file p claims part (apart raw others fault is are why) = of_strengthening fault

pub of_files : (by : Option (List ℕ × ℕ)) (file : List ℕ) (part : RunFault) → RefusesFiles by file part → IsOfFile part
of_files None file part why = subst IsOfFile (sym why.1) tt
of_files (Some (claims, p)) file part why = of_certified file p claims part why

proof_unread : (part : RunFault) → IsOfFile part → proof_reads_failed (Err part) ≡ 0
proof_unread (run_faults.Proof fault) never = absurd never
proof_unread part is = refl

step_unread : (part : RunFault) → IsOfFile part → step_reads_failed (Err part) ≡ 0
step_unread (run_faults.StepProof fault) never = absurd never
step_unread part is = refl

-- so no proof was read
no_proof_read : (n : ℕ) (part : RunFault) → IsOfFile part → (r : Result (Unit {0}) RunFault) → IsErrAnd r (λ f. f ≡ part)
    → n ≡ n + proof_reads_failed r
no_proof_read n part plain r is =
    answered r part (λ (x : Result (Unit {0}) RunFault). n ≡ n + proof_reads_failed x) is
    (let none = proof_unread part plain in omega (arith, none))

no_step_read : (n : ℕ) (part : RunFault) → IsOfFile part → (r : Result (Unit {0}) RunFault) → IsErrAnd r (λ f. f ≡ part)
    → n ≡ n + step_reads_failed r
no_step_read n part plain r is =
    answered r part (λ (x : Result (Unit {0}) RunFault). n ≡ n + step_reads_failed x) is
    (let none = step_unread part plain in omega (arith, none))

-- and none was refused
no_proof_refused : (part : RunFault) → IsOfFile part → (why : ProofFault) (r : Result (Unit {0}) RunFault)
    → IsErrAnd r (λ f. f ≡ part) → r ≢ Err (run_faults.Proof why)
no_proof_refused part plain why r is =
    answered r part (λ (x : Result (Unit {0}) RunFault). x ≢ Err (run_faults.Proof why)) is
    (λ e. let same : part ≡ run_faults.Proof why = cc in absurd (subst IsOfFile same plain))

no_step_refused : (part : RunFault) → IsOfFile part → (why : ProofFault) (r : Result (Unit {0}) RunFault)
    → IsErrAnd r (λ f. f ≡ part) → r ≢ Err (run_faults.StepProof why)
no_step_refused part plain why r is =
    answered r part (λ (x : Result (Unit {0}) RunFault). x ≢ Err (run_faults.StepProof why)) is
    (λ e. let same : part ≡ run_faults.StepProof why = cc in absurd (subst IsOfFile same plain))

pub reads_none : {X Y : Type 0} {left : X → Option (List ℕ)} {failures : X → ℕ} {left_step : Y → Option (List ℕ)}
    {failures_step : Y → ℕ} (proofs : Proofs X Y) (part : RunFault) → IsOfFile part → (r : Result (Unit {0}) RunFault)
    → IsErrAnd r (λ f. f ≡ part) → ReadsProofs left failures left_step failures_step proofs proofs r
reads_none {failures = failures} {failures_step = failures_step} proofs part plain r is = record {
  reads = no_proof_read (failures proofs.proof) part plain r is;
  reads_step = no_step_read (failures_step proofs.step) part plain r is;
  whole = λ e. absurd (no_proof_refused part plain proof_faults.NoRefutation r is e);
  whole_step = λ e. absurd (no_step_refused part plain proof_faults.NoRefutation r is e);
  named = λ n e below. absurd (no_proof_refused part plain (proof_faults.Step n) r is e);
  named_step = λ n e below. absurd (no_step_refused part plain (proof_faults.Step n) r is e);
}

-- ---- the answer

abbrev pub line_of : Query → List ℕ
line_of query = answer_line query.goal query.frames

refutes_for : (asked : Asked) (raw : Raw) (checked : Result (Unit {0}) RunFault) → ChecksFor asked raw checked
    → RefutesFor asked raw checked (answer_text (line_of (query_of asked)) checked)
refutes_for (questions.Within k p) raw checked checks = (checks, refl)
refutes_for (questions.Step k p) raw checked checks = (checks, refl)
refutes_for (questions.Alive k) raw checked checks = (checks, refl)
refutes_for (questions.Certified claims p) raw checked checks = (checks, refl)

refutes_no_fault : (asked : Asked) (raw : Raw) (fault : Fault) (bytes : List ℕ)
    → RefutesFor asked raw (Err (run_faults.Circuit fault)) bytes → ⊥
refutes_no_fault (questions.Within k p) raw fault bytes h = h.0
refutes_no_fault (questions.Step k p) raw fault bytes h = h.0
refutes_no_fault (questions.Alive k) raw fault bytes h = h.0
refutes_no_fault (questions.Certified claims p) raw fault bytes h = h.0

module _ (asked : Asked) (file : List ℕ) where
  with_text : (checked : Result (Unit {0}) RunFault) → IsChecked asked file checked
      → RefutesQuestion asked file checked (answer_text (line_of (query_of asked)) checked)
  with_text checked (inl (fault, is, why)) =
      subst (λ (r : Result (Unit {0}) RunFault). RefutesQuestion asked file r (answer_text (line_of (query_of asked)) r)) (sym is)
      (no_question (RefutesFor asked) file (certificate_of asked) fault why)
  with_text checked (inr (raw, about, checks)) =
      of_question (RefutesFor asked) file (certificate_of asked) raw (refutes_no_fault asked raw) about checked
      (answer_text (line_of (query_of asked)) checked) (refutes_for asked raw checked checks)

  of_answer : (checked answer : Result (Unit {0}) RunFault) (text : List ℕ) → IsChecked asked file checked
      → Answers (line_of (query_of asked)) checked answer text → RefutesQuestion asked file answer text
  of_answer checked answer text is_checked (same, is) =
      subst (λ (r : Result (Unit {0}) RunFault). RefutesQuestion asked file r text) (sym same)
      (subst (λ (bytes : List ℕ). RefutesQuestion asked file checked bytes) (sym is) (with_text checked is_checked))

  -- what `refute` answers for the check, whose line is that of the question's query
  pub answered_question : {X : Type 0} (out : Flow X) (query : Query) → query ≡ query_of asked
      → (checked result : Result (Unit {0}) RunFault) → IsChecked asked file checked
      → CommandEnds out run_faults.Output (Answers (line_of query) checked) result
      → CommandEnds out run_faults.Output (RefutesQuestion asked file) result
  answered_question out query query_is checked result is_checked ends =
      ends_map out run_faults.Output (Answers (line_of (query_of asked)) checked) (RefutesQuestion asked file)
      (λ answer text means. of_answer checked answer text is_checked means) result
      (subst (λ (q : Query). CommandEnds out run_faults.Output (Answers (line_of q) checked) result) query_is ends)

-- ---- what is printed

line_is : (asked : Asked) → line_of (query_of asked) ≡ line_for asked
line_is (questions.Within k p) = refl
line_is (questions.Step k p) = refl
line_is (questions.Alive k) = refl
line_is (questions.Certified claims p) = refl

-- nothing of a check that fails, and of one that goes well its line, or a beginning where a write fails
part_printed : {X : Type 0} (written : X → Option (List ℕ)) (failures : X → ℕ) (old new : X) (line : List ℕ)
    (checked result : Result (Unit {0}) RunFault) (P : Type 0) → OnOk checked P → OnErr checked (written new ≡ written old)
    → CommandEnds (flow written failures old new) run_faults.Output (Answers line checked) result
    → (written new ≡ written old) ⊎ (P × ((done : List ℕ) × IsBeginning done line × (written new ≡ after (written old) done)))
part_printed written failures old new line (Err fault) result P p none ends = inl none
part_printed written failures old new line (Ok done) result P p none (CommandEnds.writes_all bytes (same, is) got) =
    inr (p, (line, ([], sym (append-nil line)), subst (λ (text : List ℕ). written new ≡ after (written old) text) is got.got))
part_printed written failures old new line (Ok done) result P p none (CommandEnds.breaks_off answer bytes (same, is) breaks) =
    inr (p, (breaks.done, subst (IsBeginning breaks.done) is breaks.beginning, breaks.got))

pub answer_printed : {X : Type 0} (written : X → Option (List ℕ)) (failures : X → ℕ) (old new : X) (asked : Asked)
    (file : List ℕ) (query : Query) → query ≡ query_of asked → (checked result : Result (Unit {0}) RunFault)
    → OnOk checked (Says asked file) → OnErr checked (written new ≡ written old)
    → CommandEnds (flow written failures old new) run_faults.Output (Answers (line_of query) checked) result
    → PrintsAnswer (written old) (written new) asked file
answer_printed written failures old new asked file query is checked result says none ends =
    part_printed written failures old new (line_for asked) checked result (Says asked file) says none
    (subst (λ (line : List ℕ). CommandEnds (flow written failures old new) run_faults.Output (Answers line checked) result)
    (ap line_of is ∙ line_is asked) ends)
