use Rattle.std.proofs.Common.{◌≡◌, ℕ, ◌<◌, List, length, sym, ap, subst, ◌∙◌, arith, All}
use Rattle.std.specs.List.{range_with_len}
use Rattle.std.proofs.lemmas.List.FromFn.{length-range_with_len}
use Rattle.aig_base.specs.Selected.{properties_in}
use Rattle.aig_base.proofs.selections.SelectedCircuit.{all_there}
use Rattle.aig_base.proofs.select.selected.Goals as goal

pub selected_at-requires-2 : goal.selected_at-requires-2
selected_at-requires-2 c =
    let n = length (properties_in c.args.from c.args.circuit.now) in
    let all : c.deref.result.now ≡ range_with_len 0 n =
    c.deref.ensures.value ∙ c.in_ok-all.ensures ∙ ap (λ (ls : List ℕ). range_with_len 0 (length ls)) c.properties_in.ensures.literals in (
      omega (
        arith,
        ap (λ (ps : List ℕ). length ps) all,
        length-range_with_len 0 n,
        ap (λ (ls : List ℕ). length ls) c.properties_in.ensures.literals,
        c.properties_in.ensures.few,
      ),
      subst (λ (ps : List ℕ). All (λ p. p < n) ps) (sym all) (all_there n),
    )
