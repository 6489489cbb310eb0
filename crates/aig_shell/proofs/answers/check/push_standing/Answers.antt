use Rattle.std.proofs.Common.{ℕ, List, ◌++◌, codes, sym, ap, ◌∙◌}
use Rattle.std.specs.Prelude.{decimal}
use Rattle.std.proofs.lemmas.List.{append-nil}
use Rattle.std.proofs.lemmas.Result.{on_ok_weaker}
use Rattle.aig_shell.specs.declared.answers.check.Standing.{Standing}
use Rattle.aig_shell.specs.Standing.{standing_text}
use Rattle.aig_shell.proofs.answers.check.push_standing.Goals as goal

pub returns-in-Reached : goal.returns-in-Reached
returns-in-Reached c =
    let old = c.args.text.now.items in
    on_ok_weaker c.push_at.result (λ e.
    e ∙ ap (λ (z : List ℕ). old ++ (codes "reached at " ++ z)) (append-nil (decimal c.in-Reached.frame))
    ∙ ap (λ (s : Standing). old ++ standing_text s) (sym c.in-Reached.is))
    c.push_at.ensures

pub returns-in-NoRun : goal.returns-in-NoRun
returns-in-NoRun c =
    on_ok_weaker c.push_at-in-NoRun.result
    (λ e. e ∙ ap (λ (s : Standing). c.args.text.now.items ++ standing_text s) (sym c.in-NoRun.is))
    c.push_at-in-NoRun.ensures

pub returns-in-Unknown : goal.returns-in-Unknown
returns-in-Unknown c =
    let old = c.args.text.now.items in
    on_ok_weaker c.push_at-in-Unknown.result (λ e.
    e ∙ ap (λ (z : List ℕ). old ++ (codes "not reached, x at " ++ z)) (append-nil (decimal c.in-Unknown.frame))
    ∙ ap (λ (s : Standing). old ++ standing_text s) (sym c.in-Unknown.is))
    c.push_at-in-Unknown.ensures
