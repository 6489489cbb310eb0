use Rattle.std.proofs.Common.{ℕ, ◌*◌, List, All, length, sym, ap, ◌∙◌, subst}
use Rattle.aig_values.specs.Cells.{HasVariablesBelow}
use Rattle.aig_values.proofs.WordLemmas.{length-spelled}
use Rattle.aig_values.proofs.row.plane_row.PlaneRowCellRow.sweep_at_once.Goals as goal

pub sweep_words-requires-clause-gates : goal.sweep_words-requires-clause-gates
sweep_words-requires-clause-gates c =
    subst (λ (n : ℕ). All (HasVariablesBelow n) c.args.gates.now)
    (ap length (sym c.self.view_is) ∙ length-spelled c.self.inside.words.items
    ∙ ap (λ (words : List ℕ). 32 * length words) (sym c.deref_mut.ensures.value)) c.requires
