-- What the commands with a SAT solver say of each question about a circuit's file: the formula that `cnf` writes, the
-- witness that `witness` writes for a model of it, and what `refute` answers.
-- Example: whether a run reaches property 0 within 3 frames: `refute` answers `unreachable within 3/`.
use Rattle.std.specs.Prelude.{◌≡◌, ◌⊎◌, ℕ, List, [], Option, None, Some, Result, Err}
use Rattle.aig_bytes.specs.Bytes.{IsBeginning, after}
use Rattle.aig_cnf.specs.declared.query.Goal.TheVariants as goals
use Rattle.std.specs.Borrow.{Bor}
use Rattle.aig_parts.specs.declared.raw.Raw.{Raw}
use Rattle.aig_cnf.specs.Query.{induction, last, step, within}
use Rattle.aig_cnf.specs.declared.heading.Heading.{Heading}
use Rattle.aig_cnf.specs.declared.heading.Heading.TheVariants.{Runs, Alive, Certified}
use Rattle.aig_cnf.specs.declared.query.Query.{Query}
use Rattle.aig_command.specs.Command.{OfFile}
use Rattle.aig_command.specs.declared.run_fault.RunFault.{RunFault}
use Rattle.aig_commands.specs.Alive.{ChecksAlive, IsFileWithoutRun, RefutesAlive, WritesAlive}
use Rattle.aig_commands.specs.AliveWitness.{WritesAliveModel}
use Rattle.aig_commands.specs.Certified.{OfCertified}
use Rattle.aig_commands.specs.Cnf.{WritesCertified, WritesFormula}
use Rattle.aig_commands.specs.ModelWitness.{WritesModel}
use Rattle.aig_commands.specs.Refute.{ChecksInduction, ChecksStep, ChecksWithin, IsFileNeverReached, IsFileUnreachable}
use Rattle.aig_commands.specs.Refute.{Refutes, RefutesInduction, RefutesStep, answer_line}
use Rattle.aig_commands.specs.declared.certified.Purpose.TheVariants.{Formula}
use Rattle.aig_commands.specs.declared.question.Question.{Question}
use Rattle.aig_commands.specs.declared.question.Question.TheVariants as questions

-- the same question with another certificate, if it has one
abbrev pub question_map : {C D : Type 0} → (C → D) → Question C → Question D
question_map f (questions.Within k p) = questions.Within k p
question_map f (questions.Step k p) = questions.Step k p
question_map f (questions.Alive k) = questions.Alive k
question_map f (questions.Certified certificate p) = questions.Certified (f certificate) p

-- what is asked: with the bytes of the certificate
abbrev pub Asked : Type 0
Asked = Question (List ℕ)

abbrev pub asked_of : Question (Bor (List ℕ)) → Asked
asked_of question = question_map (λ certificate. certificate.now) question

-- the certificate and the property that this is for, if there is one
abbrev pub certificate_of : {C : Type 0} → Question C → Option (C × ℕ)
certificate_of (questions.Certified certificate p) = Some (certificate, p)
certificate_of _ = None

-- what the first line of its formula says
abbrev pub heading_of : Asked → Heading
heading_of (questions.Within k p) = Runs (within k p)
heading_of (questions.Step k p) = Runs (step k p)
heading_of (questions.Alive k) = Alive k
heading_of (questions.Certified claims p) = Certified p

-- the query of its formula
abbrev pub query_under : Heading → Query
query_under (Runs query) = query
query_under (Alive k) = last k 0
query_under (Certified p) = induction 1 0

abbrev pub query_of : Asked → Query
query_of asked = query_under (heading_of asked)

-- Which bytes a command writes where something is asked of a circuit's file: none where there is no circuit that it is
-- about, else what `Means` says of that circuit. With a certificate, that is the strengthened one.
abbrev pub OfSubject : Option (List ℕ × ℕ) → List ℕ → (Raw → Result (Unit {0}) RunFault → List ℕ → Type 0)
    → Result (Unit {0}) RunFault → List ℕ → Type 0
OfSubject None file Means = OfFile file Means
OfSubject (Some (claims, p)) file Means = OfCertified Formula file p claims Means

-- what `cnf` writes for that circuit, and for the file
abbrev pub WritesFor : Heading → Raw → Result (Unit {0}) RunFault → List ℕ → Type 0
WritesFor (Runs query) = WritesFormula query
WritesFor (Alive k) = WritesAlive k
WritesFor (Certified p) = WritesCertified p

abbrev pub WritesQuestion : Asked → List ℕ → Result (Unit {0}) RunFault → List ℕ → Type 0
WritesQuestion asked file = OfSubject (certificate_of asked) file (WritesFor (heading_of asked))

-- what `witness` writes for a model of the formula, of that circuit and of the file
abbrev pub NamesFor : Heading → List ℕ → Raw → Result (Unit {0}) RunFault → List ℕ → Type 0
NamesFor (Runs query) model = WritesModel query model
NamesFor (Alive k) model = WritesAliveModel k model
NamesFor (Certified p) model = WritesModel (induction 1 0) model

abbrev pub NamesQuestion : Asked → List ℕ → List ℕ → Result (Unit {0}) RunFault → List ℕ → Type 0
NamesQuestion asked model file = OfSubject (certificate_of asked) file (NamesFor (heading_of asked) model)

-- what `refute` answers of that circuit, and of the file
abbrev pub RefutesFor : Asked → Raw → Result (Unit {0}) RunFault → List ℕ → Type 0
RefutesFor (questions.Within k p) = Refutes k p
RefutesFor (questions.Step k p) = RefutesStep k p
RefutesFor (questions.Alive k) = RefutesAlive k
RefutesFor (questions.Certified claims p) = RefutesInduction

abbrev pub RefutesQuestion : Asked → List ℕ → Result (Unit {0}) RunFault → List ℕ → Type 0
RefutesQuestion asked file = OfSubject (certificate_of asked) file (RefutesFor asked)

-- what the check of its proof says of that circuit
abbrev pub ChecksFor : Asked → Raw → Result (Unit {0}) RunFault → Type 0
ChecksFor (questions.Within k p) = ChecksWithin k p
ChecksFor (questions.Step k p) = ChecksStep k p
ChecksFor (questions.Alive k) = ChecksAlive k
ChecksFor (questions.Certified claims p) = ChecksInduction

-- what a proof that is accepted says of the file
abbrev pub Says : Asked → List ℕ → Type 0
Says (questions.Within k p) file = IsFileUnreachable file k p
Says (questions.Step k p) file = IsFileNeverReached file p
Says (questions.Alive k) file = IsFileWithoutRun file k
Says (questions.Certified claims p) file = IsFileNeverReached file p

-- the line that answers
abbrev pub line_for : Asked → List ℕ
line_for (questions.Within k p) = answer_line goals.Within k
line_for (questions.Step k p) = answer_line goals.Step k
line_for (questions.Alive k) = answer_line goals.Last k
line_for (questions.Certified claims p) = answer_line goals.Induction 1

-- nothing was written; or what was asked is true of the file, and a beginning of the line that says so was written
abbrev pub PrintsAnswer : Option (List ℕ) → Option (List ℕ) → Asked → List ℕ → Type 0
PrintsAnswer old new asked file =
    (new ≡ old) ⊎ (Says asked file × ((done : List ℕ) × IsBeginning done (line_for asked) × (new ≡ after old done)))
