use Rattle.std.proofs.Common.{ℕ, ◌+◌, List, ◌++◌, ap, ◌∙◌, arith}
use Rattle.std.proofs.lemmas.Result.{on_ok_weaker}
use Rattle.aig_names.proofs.RowLemmas.{all_sections}
use Rattle.aig_names.proofs.header.push_sections.Goals as goal

pub returns : goal.returns
returns c =
    let counts = c.args.counts.now in
    on_ok_weaker c.push_rows.result
    (λ h. h ∙ ap (λ (xs : List ℕ). c.args.text.now.items ++ xs) (all_sections c.args.symbols.now counts (0 + counts.inputs) (omega arith)))
    c.push_rows.ensures
