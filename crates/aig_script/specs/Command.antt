-- Commands of a script, as they are written (our own choice).
-- Example: `v 0 8` asks for literal 8 at frame 0; `u` for the unrolled circuit; `v 00 8` is no command; `+ 10` appends
-- the row `10`, `g 9 2` a gate with the right sides 9 and 2.
use Rattle.std.specs.Prelude.{◌≢◌, ℕ, ◌^◌, ◌<◌, List, [], ◌∷◌, ◌++◌, codes, map}
use Rattle.std.specs.List.{AllByRecursion, join_with_byte}
use Rattle.std.specs.Fmt.{decimal}
use Rattle.aig_parts.specs.declared.ternary.Tern.{Tern}
use Rattle.aig_values.specs.Characters.{character}
use Rattle.aig_bench.specs.Edit.{Edit, rewire, set_reset, set_bit, add_frame, drop_frame, append_gate, set_output}

-- an edit of circuit or stimulus, or a question about them
pub data Command : Type 0 where
  edit : Edit → Command
  value : (frame literal : ℕ) → Command
  trace : Command
  unroll : Command

-- its letter, its numbers, and the values that follow them
abbrev pub command_parts : Command → List ℕ × List ℕ × List (List Tern)
command_parts (edit (rewire lhs r0 r1)) = (codes "w", lhs ∷ r0 ∷ r1 ∷ [], [])
command_parts (edit (set_reset latch w)) = (codes "r", latch ∷ [], (w ∷ []) ∷ [])
command_parts (edit (set_bit t p w)) = (codes "s", t ∷ p ∷ [], (w ∷ []) ∷ [])
command_parts (edit (add_frame row)) = (codes "+", [], row ∷ [])
command_parts (edit drop_frame) = (codes "-", [], [])
command_parts (edit (append_gate r0 r1)) = (codes "g", r0 ∷ r1 ∷ [], [])
command_parts (edit (set_output p l)) = (codes "o", p ∷ l ∷ [], [])
command_parts (value t l) = (codes "v", t ∷ l ∷ [], [])
command_parts trace = (codes "t", [], [])
command_parts unroll = (codes "u", [], [])

-- these with a space between each two, numbers in decimal and values by their characters
abbrev pub command_text : Command → List ℕ
command_text c =
    let parts = command_parts c in
    join_with_byte 32 (parts.0 ∷ map decimal parts.1 ++ map (map character) parts.2)

-- its numbers are at most 4,294,967,295
abbrev pub IsCommand : Command → Type 0
IsCommand c = let parts = command_parts c in AllByRecursion (λ n. n < 2 ^ 32) parts.1

-- the line is no command
abbrev pub IsNoCommand : List ℕ → Type 0
IsNoCommand line = (c : Command) → IsCommand c → line ≢ command_text c
