-- The meaning of a script: its lines in turn, from one circuit and rows to another, and their replies (our own choice).
-- Example: `v 0 8/s 0 1 0/v 0 8/` on `examples/two_gates.aag` with `11/01/`: `1/ok/0/`.
use Rattle.std.specs.Prelude.{◌≡◌, ◌⊎◌, ℕ, List, length, [], ◌∷◌, ◌++◌, Result, Ok, Err, IfErr, codes}
use Rattle.std.specs.Fmt.{decimal}
use Rattle.aig_parts.specs.declared.raw.Raw.{Raw}
use Rattle.aig_parts.specs.declared.ternary.Tern.{Tern}
use Rattle.aig_parts.specs.Literal.{variable}
use Rattle.aig_format.specs.Spelling.{short_ascii}
use Rattle.aig_values.specs.Characters.{character}
use Rattle.aig_unroll.specs.declared.fault.UnrollFault.{UnrollFault}
use Rattle.aig_unroll.specs.Answers as unrolling
use Rattle.aig_unroll.specs.Answers.{AnswersUnrolling}
use Rattle.aig_bench.specs.declared.edit.EditFault.{EditFault}
use Rattle.aig_bench.specs.declared.edit.EditFault.TheVariants as faults
use Rattle.aig_bench.specs.BenchState.{CircuitAndRows, HasTrace}
use Rattle.aig_bench.specs.Edit.{Edit, rewire, Edits, edit_fault_number}
use Rattle.aig_bench.specs.Fanout.{HasFourReaders}
use Rattle.aig_bench.specs.Question.{AnswersValue}
use Rattle.aig_script.specs.Command.{Command, edit, value, trace, unroll, command_text, IsCommand, IsNoCommand}
use Rattle.aig_script.specs.Lines.{Line, whole, unfinished}

-- `no` and a fault's number
abbrev pub numbered_refusal : ℕ → List ℕ
numbered_refusal n = codes "no " ++ (decimal n ++ codes "\n")

abbrev pub refusal : EditFault → List ℕ
refusal f = numbered_refusal (edit_fault_number f)

abbrev pub edit_reply : {A : Type 0} → Result A EditFault → List ℕ
edit_reply (Ok _) = codes "ok\n"
edit_reply (Err f) = refusal f

abbrev pub value_reply : Result Tern EditFault → List ℕ
value_reply (Ok w) = character w ∷ 10 ∷ []
value_reply (Err f) = refusal f

-- the unrolled circuit as a text file, and a line `.`
abbrev pub unroll_reply : Result Raw UnrollFault → List ℕ
unroll_reply (Ok circuit) = short_ascii circuit ++ codes ".\n"
unroll_reply (Err f) = numbered_refusal (unrolling.unroll_fault_number f)

-- The pairs for which an edit may find no memory. For a rewire, four gates or more already read the variable of a new
-- right side.
abbrev pub MayLackMemory : CircuitAndRows → Edit → Type 0
MayLackMemory old (rewire lhs r0 r1) =
    HasFourReaders old.circuit (variable r0) ⊎ HasFourReaders old.circuit (variable r1)
MayLackMemory old _ = Unit {0}

-- an edit takes the pair to the other with this answer, and finds no memory only where it may
abbrev pub AnswersEdit : {A : Type 0} → CircuitAndRows → Edit → Result A EditFault → CircuitAndRows → Type 0
AnswersEdit old e r new = Edits old e r new × IfErr r (λ f. f ≡ faults.Memory → MayLackMemory old e)

-- the reply to an edit, from one pair to another
abbrev pub EditReply : CircuitAndRows → Edit → List ℕ → CircuitAndRows → Type 0
EditReply old e reply new = (r : Result (Unit {0}) EditFault) × AnswersEdit old e r new × (reply ≡ edit_reply r)

abbrev pub CommandReply : CircuitAndRows → Command → List ℕ → CircuitAndRows → Type 0
CommandReply old (edit e) reply new = EditReply old e reply new
CommandReply old (value t l) reply new =
    (r : Result Tern EditFault) × AnswersValue old t l r × (reply ≡ value_reply r) × (new ≡ old)
CommandReply old trace reply new = (text : List ℕ) × HasTrace old text × (reply ≡ text ++ codes ".\n") × (new ≡ old)
CommandReply old unroll reply new =
    (r : Result Raw UnrollFault) × AnswersUnrolling old.circuit (length old.rows) r
    × (reply ≡ unroll_reply r) × (new ≡ old)

abbrev pub IsBad : CircuitAndRows → List ℕ → CircuitAndRows → Type 0
IsBad old reply new = (reply ≡ codes "bad\n") × (new ≡ old)

-- a line that an LF ends is answered by its command, or is bad
abbrev pub WholeReply : CircuitAndRows → List ℕ → List ℕ → CircuitAndRows → Type 0
WholeReply old line reply new =
    ((c : Command) × IsCommand c × (line ≡ command_text c) × CommandReply old c reply new)
    ⊎ (IsNoCommand line × IsBad old reply new)

abbrev pub LineReply : CircuitAndRows → Line → List ℕ → CircuitAndRows → Type 0
LineReply old (whole line) reply new = WholeReply old line reply new
LineReply old (unfinished line) reply new = IsBad old reply new

-- the lines in turn, with all their replies
abbrev pub Replies : CircuitAndRows → List Line → List ℕ → CircuitAndRows → Type 0
Replies old [] replies new = (replies ≡ []) × (new ≡ old)
Replies old (line ∷ lines) replies new =
    (mid : CircuitAndRows) × (reply : List ℕ) × (more : List ℕ) × LineReply old line reply mid
    × Replies mid lines more new × (replies ≡ reply ++ more)
