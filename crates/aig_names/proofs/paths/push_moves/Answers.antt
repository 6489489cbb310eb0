use Rattle.std.proofs.Common.{◌++◌, ◌-◌, ℕ, List, length, ap, ◌∙◌}
use Rattle.std.proofs.lemmas.Result.{on_ok_weaker}
use Rattle.aig_names.specs.Header.{closings}
use Rattle.aig_names.proofs.PathLemmas.{append_then, moves_are}
use Rattle.aig_names.proofs.paths.push_moves.Goals as goal

pub returns : goal.returns
returns c =
    on_ok_weaker c.push_scopes.result (λ h.
    append_then c.args.text.now.items c.push_closings.new.text.items c.push_scopes.new.text.items
    (closings (length c.args.opened.now - c.count_shared-shared.result)) _ c.in_ok-push_closings.ensures h
    ∙ ap (λ (xs : List ℕ). c.args.text.now.items ++ xs)
    (moves_are (λ s. s.now) c.args.opened.now c.args.scopes.now c.count_shared-shared.result c.count_shared-shared.ensures.count c.count_shared-shared.ensures.within_scopes))
    c.push_scopes.ensures
