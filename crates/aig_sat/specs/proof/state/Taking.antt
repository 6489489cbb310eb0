-- What a call takes of the bytes of a proof.
use Rattle.std.specs.Prelude.{◌≡◌, ◌≢◌, ◌⊎◌, ℕ, ◌+◌, ◌*◌, ◌-◌, ◌<◌, ◌≤◌, All, decimal, Bool, true, false, List, [], ◌∷◌}
use Rattle.std.specs.Prelude.{◌++◌, length, take, drop, Option, Some, None, Result, Err, IfOk}
use Rattle.std.specs.Prelude.{slice_get}
use Rattle.std.specs.Option.{IsSomeAnd}
use Rattle.aig_bytes.specs.Bytes.{before, failed, IsAtEnd}
use Rattle.aig_parts.specs.Literal.{variable}
use Rattle.aig_sat.specs.declared.proof.fault.ReadFault.{ReadFault}
use Rattle.aig_sat.specs.declared.proof.fault.ReadFault.TheVariants as faults
use Rattle.aig_sat.specs.declared.proof.spelling.Spelling.{Spelling}
use Rattle.aig_sat.specs.declared.proof.spelling.Spelling.TheVariants.{Text, Binary}
use Rattle.aig_sat.specs.declared.proof.step.StepKind.{StepKind}
use Rattle.aig_sat.specs.declared.proof.step.StepKind.TheVariants.{Add, Delete}
use Rattle.aig_sat.specs.model.ModelText.{IsSpace, number_text}
use Rattle.aig_sat.specs.proof.HintedText.{ArePositive}
use Rattle.aig_sat.specs.proof.ProofText.{EndsStep, Gap, IsBlank, SpellsClause, SpellsStep, last_byte}
use Rattle.aig_sat.specs.proof.ProofBytes.{Groups, SpellsBinaryStep, SpellsLiterals, first_byte}
use Rattle.aig_sat.specs.proof.Reads.{reads_failed}
use Rattle.aig_sat.specs.proof.Steps.{AreLiterals, AreRenamed, BinaryStepToCome, Block, StepReader, StepToCome}
use Rattle.aig_sat.specs.proof.Steps.{TakesText, bytes_to_come, text_to_come}

-- the bytes from start to end
abbrev pub held : ℕ → ℕ → List ℕ → List ℕ
held start end buffer = take (end - start) (drop start buffer)

-- one for the LF at the end, as long as it was not put among the bytes
abbrev pub end_to_come : Bool → ℕ
end_to_come true = 0
end_to_come false = 1

-- each byte that is taken lowers this number; it counts 32,768 bytes for each read that may still give some
abbrev pub to_take : ℕ → Block → ℕ
to_take reads_left block = 32768 * reads_left + length block.waiting + end_to_come block.ended

-- these bytes of the binary form were taken
abbrev pub TakesBytes : Block → Block → Option (List ℕ) → Option (List ℕ) → List ℕ → Type 0
TakesBytes old new left left' taken = bytes_to_come old left ≡ before taken (bytes_to_come new left')

-- a byte or none
abbrev pub listed : Option ℕ → List ℕ
listed None = []
listed (Some b) = b ∷ []

-- what was taken separates, and may go on to separate
abbrev pub LeadsGap : ℕ → ℕ → List ℕ → Type 0
LeadsGap previous previous' taken = (rest : List ℕ) → Gap previous' rest → Gap previous (taken ++ rest)

-- a digit or none
abbrev pub digits_of : Option ℕ → List ℕ
digits_of None = []
digits_of (Some d) = (48 + d) ∷ []

-- what was taken is a literal and a space, or the 0 of a step and what follows it
abbrev pub LeadsWord : Bool → ℕ → List ℕ → Option ℕ → Type 0
LeadsWord is_first previous' taken (Some l) =
    (variable l < 2147483647) × IsSpace previous' × (taken ≡ number_text l ++ previous' ∷ [])
LeadsWord is_first previous' taken None = (ends : List ℕ) × EndsStep is_first ends × (taken ≡ 48 ∷ ends)

-- what was taken is a literal, or the end of a clause
abbrev pub LeadsClause : Bool → ℕ → ℕ → List ℕ → Option ℕ → Type 0
LeadsClause is_first previous previous' taken (Some l) =
    (rest clause : List ℕ) → SpellsClause is_first previous' rest clause
    → SpellsClause is_first previous (taken ++ rest) (l ∷ clause)
LeadsClause is_first previous previous' taken None = SpellsClause is_first previous taken []

-- what was taken begins a step
abbrev pub LeadsStep : Bool → ℕ → ℕ → List ℕ → StepKind → Type 0
LeadsStep is_first previous previous' taken kind = (rest clause : List ℕ) → SpellsClause is_first previous' rest clause
    → SpellsStep is_first previous (taken ++ rest) kind clause

-- the same of the binary form
abbrev pub LeadsLiterals : List ℕ → Option ℕ → Type 0
LeadsLiterals taken (Some l) =
    (rest clause : List ℕ) → SpellsLiterals rest clause → SpellsLiterals (taken ++ rest) (l ∷ clause)
LeadsLiterals taken None = SpellsLiterals taken []

-- less is left to take
abbrev pub Lowers : {X : Type 0} → (X → ℕ) → (old new : X) → (block block' : Block) → Type 0
Lowers reads_left old new block block' = to_take (reads_left new) block' < to_take (reads_left old) block

-- A call counts each failed read, and no more is left to take than before. `Takes` holds of what it answers.
pub record ReadsOn {X T E : Type 0} (failures reads_left : X → ℕ) (old new : X) (block block' : Block) (r : Result T E)
    (Takes : T → Type 0) : Type 0 where
  pub count : failures new ≡ failures old + failed r
  pub never_more : to_take (reads_left new) block' ≤ to_take (reads_left old) block
  pub taken : IfOk r Takes

-- A call counts each failed read. Where it rejects the proof, `Reason` holds.
pub record Refuses {X T : Type 0} (failures : X → ℕ) (old new : X) (r : Result T ReadFault) (Reason : Type 0) : Type 0 where
  pub count : failures new ≡ failures old + reads_failed r
  pub refused : (at : ℕ) → r ≡ Err (faults.Text at) → Reason

-- the same, and where it answers, less is left to take
pub record TakesSome {X T : Type 0} (failures reads_left : X → ℕ) (old new : X) (block block' : Block)
    (r : Result T ReadFault) (Reason : Type 0) : Type 0 where
  pub count : failures new ≡ failures old + reads_failed r
  pub lowers : IfOk r (λ _. Lowers reads_left old new block block')
  pub refused : (at : ℕ) → r ≡ Err (faults.Text at) → Reason

-- the same, and no more is left to take than before
pub record Rejects {X T : Type 0} (failures reads_left : X → ℕ) (old new : X) (block block' : Block)
    (r : Result T ReadFault) (Reason : Type 0) : Type 0 where
  pub count : failures new ≡ failures old + reads_failed r
  pub never_more : to_take (reads_left new) block' ≤ to_take (reads_left old) block
  pub refused : (at : ℕ) → r ≡ Err (faults.Text at) → Reason

-- one where the literal is negated
abbrev pub sign : Bool → ℕ
sign true = 1
sign false = 0

-- no byte was taken
abbrev pub Keeps : Block → Block → Option (List ℕ) → Option (List ℕ) → Type 0
Keeps old new left left' = TakesText old new left left' [] × TakesBytes old new left left' []

-- a call reads into the block and takes no byte
pub record Loads {X T E : Type 0} (left : X → Option (List ℕ)) (failures : X → ℕ) (old new : X) (block block' : Block)
    (r : Result T E) : Type 0 where
  pub count : failures new ≡ failures old + failed r
  pub text : TakesText block block' (left old) (left new) []
  pub bytes : TakesBytes block block' (left old) (left new) []
  pub ended : block'.ended ≡ block.ended

-- the same of one that shows the next byte, or that there is none
pub record Shows {X E : Type 0} (left : X → Option (List ℕ)) (failures reads_left : X → ℕ) (old new : X)
    (block block' : Block) (r : Result (Option ℕ) E) : Type 0 where
  pub count : failures new ≡ failures old + failed r
  pub never_more : to_take (reads_left new) block' ≤ to_take (reads_left old) block
  pub text : TakesText block block' (left old) (left new) []
  pub bytes : TakesBytes block block' (left old) (left new) []
  pub next : IfOk r (λ byte. slice_get block'.waiting 0 ≡ byte)
  pub none : IfOk r (λ byte. byte ≡ None → block'.ended ≡ true)

-- a literal was taken, or the end of a clause
abbrev pub LeadsBy : Spelling → Bool → Block → Block → Option (List ℕ) → Option (List ℕ) → Option ℕ → Type 0
LeadsBy Text is_first old new left left' next = (taken : List ℕ)
    × LeadsClause is_first old.previous new.previous taken next × TakesText old new left left' taken
LeadsBy Binary is_first old new left left' next = (taken : List ℕ)
    × LeadsLiterals taken next × TakesBytes old new left left' taken

-- these literals were taken
abbrev pub LeadsAll : Spelling → Bool → Block → Block → Option (List ℕ) → Option (List ℕ) → List ℕ → Type 0
LeadsAll Text is_first old new left left' literals = (taken : List ℕ)
    × ((rest clause : List ℕ) → SpellsClause is_first new.previous rest clause
    → SpellsClause is_first old.previous (taken ++ rest) (literals ++ clause))
    × TakesText old new left left' taken
LeadsAll Binary is_first old new left left' literals = (taken : List ℕ)
    × ((rest clause : List ℕ) → SpellsLiterals rest clause → SpellsLiterals (taken ++ rest) (literals ++ clause))
    × TakesBytes old new left left' taken

-- a clause was taken up to its end
abbrev pub Ends : Spelling → Bool → Block → Block → Option (List ℕ) → Option (List ℕ) → List ℕ → Type 0
Ends Text is_first old new left left' clause = (taken : List ℕ)
    × SpellsClause is_first old.previous taken clause × TakesText old new left left' taken
Ends Binary is_first old new left left' clause = (taken : List ℕ)
    × SpellsLiterals taken clause × TakesBytes old new left left' taken

-- a step begins, or there is none
abbrev pub Begins : Spelling → Block → Block → Option (List ℕ) → Option (List ℕ) → Option StepKind → Type 0
Begins Text old new left left' (Some kind) = (taken : List ℕ)
    × ((is_first : Bool) → LeadsStep is_first old.previous new.previous taken kind) × TakesText old new left left' taken
Begins Text old new left left' None = (taken : List ℕ)
    × Gap old.previous taken × TakesText old new left left' taken × IsAtEnd (text_to_come new left')
Begins Binary old new left left' (Some kind) = TakesBytes old new left left' (first_byte kind ∷ [])
Begins Binary old new left left' None = IsAtEnd (bytes_to_come old left)

-- a step was taken, or there is none
abbrev pub GoesOn : Spelling → Bool → ℕ → Block → Block → Option (List ℕ) → Option (List ℕ) → List ℕ → Option StepKind
    → Type 0
GoesOn Text is_first formula old new left left' clause (Some kind) = (taken : List ℕ) × (spelled : List ℕ)
    × SpellsStep is_first old.previous taken kind spelled × AreRenamed formula spelled clause
    × TakesText old new left left' taken
GoesOn Text is_first formula old new left left' clause None = Begins Text old new left left' None
GoesOn Binary is_first formula old new left left' clause (Some kind) = (taken : List ℕ) × (spelled : List ℕ)
    × SpellsBinaryStep taken kind spelled × AreRenamed formula spelled clause × TakesBytes old new left left' taken
GoesOn Binary is_first formula old new left left' clause None = IsAtEnd (bytes_to_come old left)

-- Reading a clause keeps the number of the step and the formula, and loses no variable. The clause has literals of the
-- variables.
pub record ReadsMore (old new : StepReader) : Type 0 where
  pub number : new.number ≡ old.number
  pub formula : new.formula ≡ old.formula
  pub variables : old.variables ≤ new.variables
  pub literals : AreLiterals new.variables new.clause

-- ---- of a proof with hints

-- what was taken is the number of a step and a space
abbrev pub LeadsNumber : ℕ → ℕ → List ℕ → ℕ → Type 0
LeadsNumber previous previous' taken n =
    (n ≤ 2147483647) × IsSpace previous'
    × ((gap : List ℕ) × Gap previous gap × (taken ≡ gap ++ (decimal n ++ previous' ∷ [])))

-- a clause and its hints were taken
abbrev pub TakesAddition : ℕ → Block → Block → Option (List ℕ) → Option (List ℕ) → List ℕ → List ℕ → Type 0
TakesAddition formula old new left left' clause hints = (text : List ℕ) × (more : List ℕ) × (spelled : List ℕ)
    × SpellsClause false old.previous text spelled × AreRenamed formula spelled clause
    × SpellsClause false (last_byte old.previous text) more hints × TakesText old new left left' (text ++ more)

-- the numbers of the clauses that are deleted were taken
abbrev pub TakesNumbers : Block → Block → Option (List ℕ) → Option (List ℕ) → List ℕ → Type 0
TakesNumbers old new left left' numbers = (text : List ℕ)
    × SpellsClause false old.previous text numbers × ArePositive numbers × TakesText old new left left' text

-- ---- what may be to come of a text

-- these bytes do not begin with such a byte
abbrev pub BeginsNot : (ℕ → Type 0) → List ℕ → Type 0
BeginsNot P bytes = (b : ℕ) (rest : List ℕ) → bytes ≡ b ∷ rest → P b → ⊥

-- a digit
abbrev pub IsDigit : ℕ → Type 0
IsDigit b = (48 ≤ b) × (b ≤ 57)

-- such a byte goes on to separate, where it comes after this one
abbrev pub BeginsGap : ℕ → ℕ → Type 0
BeginsGap previous b = IsSpace b ⊎ ((previous ≡ 10) × (b ≡ 99))

-- a comment that does not end
abbrev pub IsUnfinished : ℕ → List ℕ → Type 0
IsUnfinished previous bytes = (line : List ℕ) × (previous ≡ 10) × All (λ b. b ≢ 10) line × (bytes ≡ 99 ∷ line)

-- the same after what separates
abbrev pub EndsUnfinished : ℕ → List ℕ → Type 0
EndsUnfinished previous bytes =
    (gap : List ℕ) × (rest : List ℕ) × Gap previous gap × IsUnfinished (last_byte previous gap) rest
    × (bytes ≡ gap ++ rest)

-- the rest of a line that is blank
abbrev pub LineToCome : List ℕ → Type 0
LineToCome bytes = (blanks : List ℕ) × (rest : List ℕ) × All IsBlank blanks × (bytes ≡ blanks ++ 10 ∷ rest)

-- what follows the 0 of a step
abbrev pub EndsToCome : Bool → List ℕ → Type 0
EndsToCome is_first bytes = (ends : List ℕ) × (rest : List ℕ) × EndsStep is_first ends × (bytes ≡ ends ++ rest)

-- the literals of a clause, up to its end
abbrev pub ClauseToCome : Bool → ℕ → List ℕ → Type 0
ClauseToCome is_first previous bytes =
    (text : List ℕ) × (rest : List ℕ) × (clause : List ℕ) × SpellsClause is_first previous text clause
    × (bytes ≡ text ++ rest)

-- the word of a literal and the rest of its clause, or the 0 and what follows it
pub data WordToCome (is_first : Bool) : List ℕ → Type 0 where
  end : {bytes : List ℕ} → EndsToCome is_first bytes → WordToCome is_first (48 ∷ bytes)
  literal : {rest : List ℕ} (l b : ℕ) → variable l < 2147483647 → IsSpace b → ClauseToCome is_first b rest
      → WordToCome is_first (number_text l ++ b ∷ rest)

-- these bytes spell the number, or where it is over the limit, one over it
pub record IsNumber (n : ℕ) (digits : List ℕ) : Type 0 where
  pub all : All IsDigit digits
  pub within : n ≤ 2147483647 → digits ≡ decimal n
  pub over : 2147483647 < n → (m : ℕ) → m ≤ 2147483647 → digits ≡ decimal m → ⊥

-- ---- of one with hints

-- a number and the space after it
abbrev pub NumberWordToCome : List ℕ → Type 0
NumberWordToCome bytes =
    (n : ℕ) × (b : ℕ) × (rest : List ℕ) × (n ≤ 2147483647) × IsSpace b × (bytes ≡ decimal n ++ b ∷ rest)

-- a clause and its hints
abbrev pub AdditionToCome : ℕ → List ℕ → Type 0
AdditionToCome previous bytes =
    (text : List ℕ) × (more : List ℕ) × (rest : List ℕ) × (clause : List ℕ) × (hints : List ℕ)
    × SpellsClause false previous text clause × SpellsClause false (last_byte previous text) more hints
    × (bytes ≡ text ++ (more ++ rest))

-- the numbers of the clauses that are deleted
abbrev pub NumbersToCome : ℕ → List ℕ → Type 0
NumbersToCome previous bytes =
    (text : List ℕ) × (rest : List ℕ) × (numbers : List ℕ) × SpellsClause false previous text numbers
    × ArePositive numbers × (bytes ≡ text ++ rest)

-- what follows the number of a step, and the space after it
abbrev pub BodyToCome : ℕ → ℕ → List ℕ → Type 0
BodyToCome n previous bytes =
    ((text : List ℕ) × (more : List ℕ) × (rest : List ℕ) × (clause : List ℕ) × (hints : List ℕ) × (0 < n)
    × SpellsStep false previous text Add clause × SpellsClause false (last_byte previous text) more hints
    × (bytes ≡ text ++ (more ++ rest)))
    ⊎ ((text : List ℕ) × (rest : List ℕ) × (numbers : List ℕ) × SpellsStep false previous text Delete numbers
    × ArePositive numbers × (bytes ≡ text ++ rest))

-- the same after what begins it
abbrev pub RestToCome : ℕ → ℕ → StepKind → List ℕ → Type 0
RestToCome n previous Add bytes = (0 < n) × AdditionToCome previous bytes
RestToCome n previous Delete bytes = NumbersToCome previous bytes

-- ---- what may be to come of the binary form

-- the literals of a clause, up to its end
abbrev pub LiteralsToCome : List ℕ → Type 0
LiteralsToCome bytes =
    (taken : List ℕ) × (rest : List ℕ) × (clause : List ℕ) × SpellsLiterals taken clause × (bytes ≡ taken ++ rest)

-- a number of five groups at most
abbrev pub NumberToCome : List ℕ → Type 0
NumberToCome bytes =
    (n : ℕ) × (number : List ℕ) × (rest : List ℕ) × (n < 34359738368) × Groups n number × (bytes ≡ number ++ rest)

-- the groups of such a number after those that make the number so far, at the place of this power of 128
pub record PartToCome (number power : ℕ) (bytes : List ℕ) : Type 0 where
  pub high : ℕ
  pub part : List ℕ
  pub rest : List ℕ
  pub groups : Groups high part
  pub some : (0 < high) ⊎ (power ≡ 1)
  pub small : number + power * high < 34359738368
  pub is : bytes ≡ part ++ rest

-- ---- of either

abbrev pub HasStep : Spelling → Bool → Block → Option (List ℕ) → Type 0
HasStep Text is_first block left = IsSomeAnd (text_to_come block left) (StepToCome is_first block.previous)
HasStep Binary is_first block left = IsSomeAnd (bytes_to_come block left) BinaryStepToCome

abbrev pub HasClause : Spelling → Bool → Block → Option (List ℕ) → Type 0
HasClause Text is_first block left = IsSomeAnd (text_to_come block left) (ClauseToCome is_first block.previous)
HasClause Binary is_first block left = IsSomeAnd (bytes_to_come block left) LiteralsToCome
