use Rattle.std.proofs.Common.{ℕ, List, ◌++◌, ap, ◌∙◌}
use Rattle.std.specs.Prelude.{decimal}
use Rattle.std.proofs.lemmas.List.{append-nil}
use Rattle.std.proofs.lemmas.Result.{on_ok_weaker}
use Rattle.aig_shell.proofs.answers.check.push_at.Goals as goal

pub returns : goal.returns
returns c =
    let old = c.args.text.now.items in
    let before = c.args.before.now in
    let after = c.args.after.now in
    on_ok_weaker c.push_pieces.result (λ e.
    e ∙ ap (λ (z : List ℕ). old ++ (before ++ (decimal c.from.result ++ z))) (append-nil after)
    ∙ ap (λ (n : ℕ). old ++ (before ++ (decimal n ++ after))) c.from.ensures)
    c.push_pieces.ensures
