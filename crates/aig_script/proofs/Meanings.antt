-- A script has one meaning, and goes on where another one ended.
use Rattle.std.proofs.Common.{◌≡◌, ◌≢◌, ◌↔◌, ℕ, List, [], ◌∷◌, ◌++◌, map, refl, sym, ap, ◌∙◌, subst, append_assoc}
use Rattle.std.proofs.lemmas.List.{append-nil}
use Rattle.aig_base.specs.Circuit.{IsCircuit}
use Rattle.aig_bench.specs.BenchState.{CircuitAndRows}
use Rattle.aig_script.specs.Lines.{Line, whole, lines_from, rest_from, whole_lines, last_piece, lines_of}
use Rattle.aig_script.specs.Meaning.{out_of_memory, RepliesInFull, HasOneMeaning, RepliesInTurn}
use Rattle.aig_script.specs.Replies.{LineReply, Replies}
use Rattle.aig_script.proofs.KeptCircuits.{line_leaves}
use Rattle.aig_script.proofs.OneReply.{one_reply}
use Rattle.aig_script.proofs.ReplyLemmas.{whole_from-append, rest_from-append, replies_append}

one_meaning : (old : CircuitAndRows) (lines : List Line) (r s : List ℕ) (m n : CircuitAndRows) → IsCircuit old.circuit
    → RepliesInFull old lines r m → RepliesInFull old lines s n → (r ≡ s) × (m ≡ n)
one_meaning old [] r s m n c h k = (h.0 ∙ sym k.0, h.1 ∙ sym k.1)
one_meaning old (line ∷ lines) r s m n c (mid, x, xs, h, some, rest, is) (mid', y, ys, k, more, rest', same) =
    let one = one_reply old line x y mid mid' c.sound h k some more in
    let there = subst (λ (q : CircuitAndRows). RepliesInFull q lines xs m) one.1 rest in
    let two = one_meaning mid' lines xs ys m n (line_leaves old line y mid' c k) there rest' in
    (is ∙ (λ i. one.0 i ++ two.0 i) ∙ sym same, two.1)

pub has_one_meaning : (old : CircuitAndRows) (lines : List Line) → IsCircuit old.circuit → HasOneMeaning old lines
has_one_meaning old lines c r s m n h k = one_meaning old lines r s m n c h k

-- ---- lines in two parts

parted : (old new : CircuitAndRows) (first second : List Line) (replies : List ℕ) → Replies old (first ++ second) replies new
    → RepliesInTurn old first second replies new
parted old new [] second replies h = (old, [], replies, (refl, refl), h, refl)
parted old new (line ∷ first) second replies (mid, r, rs, h, rest, is) =
    let (n, some, more, k, l, e) = parted mid new first second rs rest in
    (n, r ++ some, more, (mid, r, some, h, k, refl), l, is ∙ ap (λ (xs : List ℕ). r ++ xs) e ∙ sym (append_assoc r some more))

joined : (old new : CircuitAndRows) (first second : List Line) (replies : List ℕ) → RepliesInTurn old first second replies new
    → Replies old (first ++ second) replies new
joined old new first second replies (n, some, more, k, l, e) =
    subst (λ (xs : List ℕ). Replies old (first ++ second) xs new) (sym e)
    (replies_append old first some n second more new k l)

pub in_turn : (old new : CircuitAndRows) (first second : List Line) (replies : List ℕ)
    → Replies old (first ++ second) replies new ↔ RepliesInTurn old first second replies new
in_turn old new first second replies =
    (parted old new first second replies, joined old new first second replies)

-- a script that ends with an LF, and another one after it
pub lines_in_turn : (first second : List ℕ) → rest_from [] first ≡ []
    → lines_of (first ++ second) ≡ lines_of first ++ lines_of second
lines_in_turn first second ended =
    let lines : whole_lines (first ++ second) ≡ whole_lines first ++ whole_lines second =
    sym (whole_from-append [] first second) ∙ ap (λ (t : List ℕ). whole_lines first ++ map whole (lines_from t second)) ended in
    let rest : rest_from [] (first ++ second) ≡ rest_from [] second =
    rest_from-append [] first second ∙ ap (λ (t : List ℕ). rest_from t second) ended in
    let alone : lines_of first ≡ whole_lines first =
    ap (λ (t : List ℕ). whole_lines first ++ last_piece t) ended ∙ append-nil (whole_lines first) in
    (λ i. lines i ++ last_piece (rest i))
    ∙ append_assoc (whole_lines first) (whole_lines second) (last_piece (rest_from [] second))
    ∙ ap (λ (ls : List Line). ls ++ lines_of second) (sym alone)
