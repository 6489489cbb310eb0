use Rattle.std.proofs.Common.{◌≡◌, ◌≢◌, ℕ, ◌+◌, ◌-◌, ◌<◌, List, [], ◌∷◌, ◌++◌, All, length, take, drop, refl, sym, ap}
use Rattle.std.proofs.Common.{subst, ◌∙◌, arith}
use Rattle.std.proofs.lemmas.List.{append-nil, append_assoc, take_all, length-drop}
use Rattle.aig_shell.proofs.lines.Talks.{split_line, feeds_err, replies_next, stands_at, done_at, part_at, taken_is}
use Rattle.aig_shell.proofs.lines.Talks.{take_line, stands_line, stands_more, done_line, part_line, part_prompt}
use Rattle.aig_shell.proofs.talk.Talker.feed.Goals as goal

pub loop-rest-init : goal.loop-rest-init
loop-rest-init g c = record {
  taken = ([], refl, λ start person s input st. stands_at (sym (append-nil input)) st);
}

pub loop-rest-preserved : goal.loop-rest-preserved
loop-rest-preserved g c =
    let xs = c.loop-rest.rest.now in
    let n = c.line_length-size.result in
    let lt : n < length xs = omega arith in
    let (done, is, stands) = c.loop-rest.invariant.taken in
    let split = split_line xs n lt (c.line_length-size.ensures.ended lt) in
    let piece = take n xs in
    let all : take (length xs - (n + 1)) (drop (n + 1) xs) ≡ drop (n + 1) xs
    = take_all (length xs - (n + 1)) (drop (n + 1) xs) (omega (arith, length-drop (n + 1) xs)) in
    let w = c.in_ok-write_prompt-in-GoesOn.ensures in
    record {
      taken = (
        done ++ (piece ++ 10 ∷ []),
        take_line c.args.bytes.now done xs piece (drop (n + 1) xs) is split
            ∙ ap (λ (x : List ℕ). (done ++ (piece ++ 10 ∷ [])) ++ x) (sym all),
        λ start person s input st.
            stands_at (append_assoc input done (piece ++ 10 ∷ []))
            (stands_line piece (stands start person s input st) c.line_length-size.ensures.no_end
            (λ held h. replies_next c.in-GoesOn.is (c.in_ok-end_line.ensures.reply held h))
            c.in_ok-end_line.ensures.empty c.in_ok-end_line.ensures.prompt w.ok w.count refl),
      );
    }

pub loop-rest-smaller : goal.loop-rest-smaller
loop-rest-smaller g c =
    let xs = c.loop-rest.rest.now in
    let n = c.line_length-size.result in
    let lt : n < length xs = omega arith in
    let all : take (length xs - (n + 1)) (drop (n + 1) xs) ≡ drop (n + 1) xs
    = take_all (length xs - (n + 1)) (drop (n + 1) xs) (omega (arith, length-drop (n + 1) xs)) in
    omega (arith, lt, ap length all, length-drop (n + 1) xs)

pub returns-then-size-rest : goal.returns-then-size-rest
returns-then-size-rest g c = λ start person s input st.
    let xs = c.loop-rest.rest.now in
    let n = c.line_length-size.result in
    let (done, is, stands) = c.loop-rest.invariant.taken in
    let all : take n xs ≡ xs = take_all n xs (omega arith) in
    stands_at (taken_is input c.args.bytes.now done xs xs is refl)
    (stands_more xs (stands start person s input st) (subst (λ (v : List ℕ). All (λ b. b ≢ 10) v) all c.line_length-size.ensures.no_end)
    c.extend.ensures refl refl)

pub returns-in_err-end_line : goal.returns-in_err-end_line
returns-in_err-end_line g c = λ start person s input st.
    let xs = c.loop-rest.rest.now in
    let n = c.line_length-size.result in
    let lt : n < length xs = omega arith in
    let (done, is, stands) = c.loop-rest.invariant.taken in
    let split = split_line xs n lt (c.line_length-size.ensures.ended lt) in
    feeds_err c.from_residual.result c.end_line.new.self c.from_residual.ensures.0
    (part_at (taken_is input c.args.bytes.now done xs (take n xs ++ 10 ∷ drop (n + 1) xs) is split)
    (part_line (take n xs) (drop (n + 1) xs) (stands start person s input st) c.line_length-size.ensures.no_end c.in_err-end_line.ensures.reply))

pub returns-in-Ends : goal.returns-in-Ends
returns-in-Ends g c = λ start person s input st.
    let xs = c.loop-rest.rest.now in
    let n = c.line_length-size.result in
    let lt : n < length xs = omega arith in
    let (done, is, stands) = c.loop-rest.invariant.taken in
    let split = split_line xs n lt (c.line_length-size.ensures.ended lt) in
    done_at (taken_is input c.args.bytes.now done xs (take n xs ++ 10 ∷ drop (n + 1) xs) is split)
    (done_line (take n xs) (drop (n + 1) xs) (stands start person s input st) c.line_length-size.ensures.no_end
    (λ held h. replies_next c.in-Ends.is (c.in_ok-end_line.ensures.reply held h)))

pub returns-in_err-write_prompt-in-GoesOn : goal.returns-in_err-write_prompt-in-GoesOn
returns-in_err-write_prompt-in-GoesOn g c = λ start person s input st.
    let xs = c.loop-rest.rest.now in
    let n = c.line_length-size.result in
    let lt : n < length xs = omega arith in
    let (done, is, stands) = c.loop-rest.invariant.taken in
    let split = split_line xs n lt (c.line_length-size.ensures.ended lt) in
    let w = c.in_err-write_prompt-in-GoesOn.ensures in
    feeds_err c.from_residual-in_err-write_prompt-in-GoesOn.result c.end_line.new.self c.from_residual-in_err-write_prompt-in-GoesOn.ensures.0
    (part_at (taken_is input c.args.bytes.now done xs (take n xs ++ 10 ∷ drop (n + 1) xs) is split)
    (part_prompt c.end_line.new.self (take n xs) (drop (n + 1) xs) w.err.0 w.err.1.0 (stands start person s input st)
    c.line_length-size.ensures.no_end
    (λ held h. replies_next c.in-GoesOn.is (c.in_ok-end_line.ensures.reply held h)) c.in_ok-end_line.ensures.prompt w.err.1.1 w.err.2
    w.count refl))
