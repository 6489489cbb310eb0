use Rattle.std.proofs.Common.{◌≡◌, ℕ, ◌+◌, ◌-◌, ◌++◌, List, length, take, drop, map, ap, refl, sym, subst, ◌∙◌, arith}
use Rattle.std.proofs.lemmas.List.{take_all, take-append-drop, length-drop}
use Rattle.std.proofs.Math.Seq.{take-add}
use Rattle.aig_bytes.proofs.Results.{on_err}
use Rattle.aig_script.specs.Lines.{whole, lines_from, rest_from}
use Rattle.aig_script.specs.ScriptLine.{KeepsScriptLine}
use Rattle.aig_script.proofs.ReplyLemmas.{rest_from-append, whole_from-append, answered_then, answered_same}
use Rattle.aig_script.proofs.ReplyLemmas.{stopped_then, stopped_same}
use Rattle.aig_script.proofs.script.feed.Goals as goal

pub returns-in_err-at-clause-err : goal.returns-in_err-at-clause-err
returns-in_err-at-clause-err g c =
    let xs = c.args.chunk.now in
    let i = c.loop-at.at in
    let rest : take (length xs - i) (drop i xs) ≡ drop i xs =
    take_all (length xs - i) (drop i xs) (omega (arith, length-drop i xs)) in
    let inv = c.loop-at.invariant in
    on_err c.from_residual.result (λ text k.
    stopped_same
    (stopped_then (inv.answered text k) (c.in_err-at.ensures.err (rest_from text (take i xs)) (inv.rest text k)))
    (ap (λ (t : List ℕ). map whole (lines_from text (take i xs)) ++ map whole (lines_from (rest_from text (take i xs)) t)) rest
    ∙ whole_from-append text (take i xs) (drop i xs) ∙ ap (λ (t : List ℕ). map whole (lines_from text t)) (take-append-drop i xs)))

pub loop-at-preserved : goal.loop-at-preserved
loop-at-preserved g c =
    let xs = c.args.chunk.now in
    let i = c.loop-at.at in
    let rest : take (length xs - i) (drop i xs) ≡ drop i xs =
    take_all (length xs - i) (drop i xs) (omega (arith, length-drop i xs)) in
    let inv = c.loop-at.invariant in
    let n = c.in_ok-at.field-0 in
    let step : take i xs ++ take n (take (length xs - i) (drop i xs)) ≡ take (i + n) xs =
    ap (λ (t : List ℕ). take i xs ++ take n t) rest ∙ sym (take-add i n xs) in
    let piece = take n (take (length xs - i) (drop i xs)) in
    record {
      inside = omega (arith, inv.inside, c.in_ok-at.ensures.bound, ap length rest, length-drop i xs);
      width = c.in_ok-at.ensures.width;
      rest = λ text k.
          subst (λ (t : List ℕ). KeepsScriptLine t c.feed_line.new.line)
          (sym (rest_from-append text (take i xs) piece) ∙ ap (rest_from text) step)
          (c.in_ok-at.ensures.rest (rest_from text (take i xs)) (inv.rest text k));
      answered = λ text k.
          answered_same
          (answered_then (inv.answered text k) (c.in_ok-at.ensures.ok (rest_from text (take i xs)) (inv.rest text k)))
          refl
          (whole_from-append text (take i xs) piece ∙ ap (λ (t : List ℕ). map whole (lines_from text t)) step)
          refl;
    }

pub returns-clause-rest : goal.returns-clause-rest
returns-clause-rest g c = λ text k.
    let all : take c.loop-at.at c.args.chunk.now ≡ c.args.chunk.now
    = take_all c.loop-at.at c.args.chunk.now c.loop-at-test.false in
    subst (λ (t : List ℕ). KeepsScriptLine (rest_from text t) c.loop-at.line) all (c.loop-at.invariant.rest text k)

pub returns-clause-ok : goal.returns-clause-ok
returns-clause-ok g c = λ text k.
    let all : take c.loop-at.at c.args.chunk.now ≡ c.args.chunk.now
    = take_all c.loop-at.at c.args.chunk.now c.loop-at-test.false in
    answered_same (c.loop-at.invariant.answered text k) refl
    (ap (λ (t : List ℕ). map whole (lines_from text t)) all) refl

pub feed_line-requires-clause-kept : goal.feed_line-requires-clause-kept
feed_line-requires-clause-kept g c =
    let (text, k) = c.requires.kept in
    (rest_from text (take c.loop-at.at c.args.chunk.now), c.loop-at.invariant.rest text k)
