-- That a script has one meaning, and goes on where another one ended (our own choice).
-- Example: `v 0 8/s 0 1 0/` and then `v 0 8/` on `examples/two_gates.aag` with `11/01/`: `1/ok/`, and then `0/`.
use Rattle.std.specs.Prelude.{◌≡◌, ◌≢◌, ℕ, List, [], ◌∷◌, ◌++◌}
use Rattle.aig_bench.specs.declared.edit.EditFault.TheVariants as faults
use Rattle.aig_bench.specs.BenchState.{CircuitAndRows}
use Rattle.aig_script.specs.Lines.{Line}
use Rattle.aig_script.specs.Replies.{refusal, LineReply, Replies}

-- `no 11`: no memory was found
abbrev pub out_of_memory : List ℕ
out_of_memory = refusal faults.Memory

-- the lines in turn with all their replies, none of which is `no 11`
abbrev pub RepliesInFull : CircuitAndRows → List Line → List ℕ → CircuitAndRows → Type 0
RepliesInFull old [] replies new = (replies ≡ []) × (new ≡ old)
RepliesInFull old (line ∷ lines) replies new =
    (mid : CircuitAndRows) × (reply : List ℕ) × (more : List ℕ) × LineReply old line reply mid × (reply ≢ out_of_memory)
    × RepliesInFull mid lines more new × (replies ≡ reply ++ more)

-- two runs that memory suffices for have the same replies and leave the same pair
abbrev pub HasOneMeaning : CircuitAndRows → List Line → Type 0
HasOneMeaning old lines =
    (replies replies' : List ℕ) (new new' : CircuitAndRows) → RepliesInFull old lines replies new
    → RepliesInFull old lines replies' new' → (replies ≡ replies') × (new ≡ new')

-- the replies to the first lines, and then those to the second lines from the pair that the first leave
abbrev pub RepliesInTurn : CircuitAndRows → List Line → List Line → List ℕ → CircuitAndRows → Type 0
RepliesInTurn old first second replies new =
    (mid : CircuitAndRows) × (some : List ℕ) × (more : List ℕ) × Replies old first some mid
    × Replies mid second more new
    × (replies ≡ some ++ more)
