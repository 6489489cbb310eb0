use Rattle.std.proofs.Common.{◌≡◌, ℕ, ◌+◌, ◌++◌, ◌<◌, [], List, length, take, drop, map, ap, refl, sym, subst, ◌∙◌}
use Rattle.std.proofs.Common.{arith}
use Rattle.std.proofs.lemmas.List.{take_all}
use Rattle.aig_bytes.proofs.Results.{on_err}
use Rattle.aig_script.specs.Lines.{IsPiece, whole, lines_from, rest_from}
use Rattle.aig_script.specs.ScriptLine.{KeepsScriptLine}
use Rattle.aig_script.proofs.Inputs.{same_inputs}
use Rattle.aig_script.proofs.Pieces.{ended_rest, ended_lines, split_lines}
use Rattle.aig_script.proofs.Splits.{no_lines, all_rest}
use Rattle.aig_script.proofs.ReplyLemmas.{answered_none, answered_push, answered_same, stopped_push}
use Rattle.aig_script.proofs.script.feed_line.Goals as goal

pub returns-in_err-end_line-clause-width : goal.returns-in_err-end_line-clause-width
returns-in_err-end_line-clause-width g c =
    let (text, k) = c.requires.kept in
    let h = c.in_err-end_line.ensures.reply in
    c.in_err-end_line.ensures.width ∙ c.requires.width
    ∙ sym (same_inputs c.args.bench.now.pair _ h.0 c.end_line.new.bench.pair (h.1 text k))

pub returns-in_err-end_line-clause-err : goal.returns-in_err-end_line-clause-err
returns-in_err-end_line-clause-err g c =
    let xs = c.args.bytes.now in
    let n = c.piece_length-length.result in
    let lt : n < length xs = omega arith in
    let h = c.in_err-end_line.ensures.reply in
    on_err c.from_residual.result (λ text k.
    stopped_push (whole (text ++ take n xs)) (map whole (lines_from [] (drop (n + 1) xs))) answered_none (h.1 text k) h.2
    (split_lines text xs n lt (c.piece_length-length.ensures.ended lt) c.piece_length-length.ensures.no_end))

pub returns-clause-width : goal.returns-clause-width
returns-clause-width g c =
    let (text, k) = c.requires.kept in
    let h = c.in_ok-end_line.ensures.reply in
    c.in_ok-end_line.ensures.width ∙ c.requires.width
    ∙ sym (same_inputs c.args.bench.now.pair _ h.0 c.end_line.new.bench.pair (h.1 text k))

pub returns-clause-rest : goal.returns-clause-rest
returns-clause-rest g c =
    let xs = c.args.bytes.now in
    let n = c.piece_length-length.result in
    let lt : n < length xs = omega arith in
    λ text k.
    subst (λ (t : List ℕ). KeepsScriptLine t c.end_line.new.line)
    (sym (ended_rest text xs n lt (c.piece_length-length.ensures.ended lt) c.piece_length-length.ensures.no_end)) c.in_ok-end_line.ensures.empty

pub returns-clause-ok : goal.returns-clause-ok
returns-clause-ok g c =
    let xs = c.args.bytes.now in
    let n = c.piece_length-length.result in
    let lt : n < length xs = omega arith in
    let h = c.in_ok-end_line.ensures.reply in
    λ text k.
    answered_same (answered_push (whole (text ++ take n xs)) answered_none (h.1 text k) h.2) refl
    (ended_lines text xs n lt (c.piece_length-length.ensures.ended lt) c.piece_length-length.ensures.no_end) refl

pub returns-then-length-bytes-clause-rest : goal.returns-then-length-bytes-clause-rest
returns-then-length-bytes-clause-rest g c =
    let xs = c.args.bytes.now in
    let n = c.piece_length-length.result in
    let all : take n xs ≡ xs = take_all n xs (omega arith) in
    let piece : IsPiece xs = subst IsPiece all c.piece_length-length.ensures.no_end in
    λ text k.
    subst (λ (t : List ℕ). KeepsScriptLine t c.extend.new.self)
    (sym (ap (rest_from text) all ∙ all_rest text xs piece)) (c.extend.ensures.keeps text k)

pub returns-then-length-bytes-clause-ok : goal.returns-then-length-bytes-clause-ok
returns-then-length-bytes-clause-ok g c =
    let xs = c.args.bytes.now in
    let n = c.piece_length-length.result in
    let all : take n xs ≡ xs = take_all n xs (omega arith) in
    let piece : IsPiece xs = subst IsPiece all c.piece_length-length.ensures.no_end in
    λ text k.
    answered_same answered_none refl
    (sym (ap (λ (t : List ℕ). map whole (lines_from text t)) all ∙ ap (λ (ls : List (List ℕ)). map whole ls) (no_lines text xs piece)))
    refl
