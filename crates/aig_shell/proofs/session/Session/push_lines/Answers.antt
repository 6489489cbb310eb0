use Rattle.std.proofs.Common.{◌≡◌, ℕ, ◌+◌, ◌<◌, List, [], ◌∷◌, ◌++◌, length, take, get_or, sym, ap, ◌∙◌, append_assoc, arith}
use Rattle.std.proofs.lemmas.List.{append-nil, length-take-le, take_more, take_all}
use Rattle.aig_shell.specs.declared.answers.check.Standing.{Standing}
use Rattle.aig_shell.specs.declared.answers.check.Standing.TheVariants.{Reached}
use Rattle.aig_shell.specs.Answers.{standings_text}
use Rattle.aig_shell.proofs.reached.Checking.{line_at, no_text, standings_push}
use Rattle.aig_shell.proofs.session.Session.push_lines.Goals as goal

pub loop-position-init : goal.loop-position-init
loop-position-init c =
    sym (append-nil c.args.text.now.items)
    ∙ ap (λ (z : List ℕ). c.args.text.now.items ++ z) (sym (no_text c.args.self.now.run.bench.pair.circuit c.args.conditions))

pub loop-position-preserved : goal.loop-position-preserved
loop-position-preserved c =
    let raw = c.args.self.now.run.bench.pair.circuit in
    let conditions = c.args.conditions in
    let first = c.args.text.now.items in
    let i = c.loop-position.position in
    let xs = c.args.standings.now in
    let y = get_or xs i (Reached 0) in
    let front = take i xs in
    let line = line_at raw conditions i y in
    let place : i ≡ 0 + length front = omega (arith, length-take-le i xs (omega (arith, c.loop-position-test.true))) in
    let more : take (i + 1) xs ≡ front ++ y ∷ [] =
    take_more xs i (Reached 0) c.loop-position-test.true in
    c.in_ok-push_line.ensures ∙ ap (λ (z : List ℕ). z ++ line) c.loop-position.invariant
    ∙ append_assoc first (standings_text raw conditions 0 front) line
    ∙ ap (λ (z : List ℕ). first ++ z)
    (ap (λ (n : ℕ). standings_text raw conditions 0 front ++ line_at raw conditions n y) place
    ∙ sym (standings_push raw conditions 0 front y) ∙ ap (standings_text raw conditions 0) (sym more))

pub returns : goal.returns
returns c =
    let raw = c.args.self.now.run.bench.pair.circuit in
    c.loop-position.invariant
    ∙ ap (λ (xs : List Standing). c.args.text.now.items ++ standings_text raw c.args.conditions 0 xs)
    (take_all c.loop-position.position c.args.standings.now (omega (arith, c.loop-position-test.false)))
