-- From the first bytes of a line to the line: they show which command it is.
use Rattle.std.proofs.Common.{◌≡◌, ◌⊎◌, inl, inr, ℕ, ◌<◌, ◌^◌, List, [], ◌∷◌, length, take, refl, sym, ap, ◌∙◌, subst}
use Rattle.std.proofs.Common.{arith, length-append}
use Rattle.std.proofs.lemmas.List.{take_all, length-take}
use Rattle.std.proofs.lemmas.Fmt.{length-decimal-le}
use Rattle.std.specs.Fmt.{decimal}
use Rattle.aig_bench.specs.Edit as edits
use Rattle.aig_script.specs.Command.{Command, edit, value, trace, unroll, IsCommand, IsNoCommand, command_text}
use Rattle.aig_bench.specs.BenchState.{CircuitAndRows}
use Rattle.aig_script.specs.Replies.{WholeReply}
use Rattle.aig_script.specs.ScriptLine.{BeginsRow, first_bytes}

short_number : (n : ℕ) → n < 2 ^ 32 → length (decimal n) < 11
short_number n small = let d = length-decimal-le 10 n (omega arith) (omega arith) (omega arith) in omega (arith, d)

-- a command is short, or appends a frame
short : (c : Command) → IsCommand c → (length (command_text c) < 35) ⊎ BeginsRow (command_text c)
short (edit (edits.rewire lhs r0 r1)) is =
    inl (let a = short_number lhs is.0 in let b = short_number r0 is.1.0 in let d = short_number r1 is.1.1.0 in simp length-append (omega (arith, a, b, d)))
short (edit (edits.set_reset latch w)) is = inl (let a = short_number latch is.0 in simp length-append (omega (arith, a)))
short (edit (edits.set_bit t p w)) is =
    inl (let a = short_number t is.0 in let b = short_number p is.1.0 in simp length-append (omega (arith, a, b)))
short (edit (edits.add_frame row)) is = inr (_, refl)
short (edit edits.drop_frame) is = inl (omega arith)
short (edit (edits.append_gate r0 r1)) is =
    inl (let a = short_number r0 is.0 in let b = short_number r1 is.1.0 in simp length-append (omega (arith, a, b)))
short (edit (edits.set_output p l)) is =
    inl (let a = short_number p is.0 in let b = short_number l is.1.0 in simp length-append (omega (arith, a, b)))
short (value t l) is = inl (let a = short_number t is.0 in let b = short_number l is.1.0 in simp length-append (omega (arith, a, b)))
short trace is = inl (omega arith)
short unroll is = inl (omega arith)

-- a line of which these are all bytes
all_bytes : (line text : List ℕ) → length text < 35 → first_bytes line ≡ text → line ≡ text
all_bytes line text lt e =
    let n : length (take 35 line) ≡ length text = ap length e in
    sym (take_all 35 line (omega (arith, n, length-take {A = ℕ} 35 line))) ∙ e

pub begins : (line text : List ℕ) → BeginsRow text → first_bytes line ≡ text → BeginsRow line
begins [] text (rest, is) e = let no : ⊥ = cc in absurd no
begins (x ∷ []) text (rest, is) e = let no : ⊥ = cc in absurd no
begins (x ∷ y ∷ line) text (rest, is) e =
    (line, let h : x ≡ 43 = cc in let k : y ≡ 32 = cc in ap (λ (z : ℕ). z ∷ (y ∷ line)) h ∙ ap (λ (z : ℕ). 43 ∷ (z ∷ line)) k)

pub is_command : (line : List ℕ) (c : Command) → IsCommand c → (BeginsRow line → ⊥) → first_bytes line ≡ command_text c
    → line ≡ command_text c
is_command line c is never e = elim (short c is) [
  | inl lt ↦ all_bytes line (command_text c) lt e
  | inr row ↦ absurd (never (begins line (command_text c) row e))
]

pub is_no_command : (line : List ℕ) → (BeginsRow line → ⊥) → IsNoCommand (first_bytes line) → IsNoCommand line
is_no_command line never none c is e = elim (short c is) [
  | inl lt ↦ none c is (take_all 35 line (let n : length line ≡ length (command_text c) = ap length e in omega (arith, n)) ∙ e)
  | inr row ↦ never (subst BeginsRow (sym e) row)
]

-- the reply to the first bytes of a line is that to the line
pub whole_reply : (line : List ℕ) (old : CircuitAndRows) (reply : List ℕ) (new : CircuitAndRows) → (BeginsRow line → ⊥)
    → WholeReply old (first_bytes line) reply new → WholeReply old line reply new
whole_reply line old reply new never h = elim h [
  | inl some ↦ inl (some.0, some.1, is_command line some.0 some.1 never some.2, some.3)
  | inr none ↦ inr (is_no_command line never none.0, none.1)
]
