use Rattle.std.proofs.Common.{◌∙◌, ap, sym, inl, inr, List, ℕ, get_or, true≢false}
use Rattle.aig_parts.specs.state.SymbolRanks.{Ranks, number_of}
use Rattle.aig_parts.proofs.SymbolKeys.{key_same}
use Rattle.aig_parts.proofs.RankLemmas.{absent_without_place, absent_but_place}
use Rattle.aig_parts.proofs.symbols.ranks.SymbolRanks.find.Goals as goal
use Rattle.aig_parts.proofs.symbols.ranks.SymbolRanks.find.Goals.{then-place-eq0-via-then-place-eq0}
use Rattle.aig_parts.proofs.symbols.ranks.SymbolRanks.find.Goals.{then-place-eq0-via-else-place-eq0+then-place-entries}

pub returns-then-place-eq0-clause-none : goal.returns-then-place-eq0-clause-none
returns-then-place-eq0-clause-none c =
    let places = c.deref.ensures.value ∙ ap (λ (r : Ranks). r.places) c.self.view_is in
    let is = c.number_at-place.ensures ∙ ap (λ (n : ℕ). get_or c.deref.result.now n 0) c.number.ensures
    ∙ ap (λ (xs : List ℕ). get_or xs (number_of c.args.self.now c.args.entry) 0) places in
    absent_without_place c.args.self.now c.args.entries.now c.args.entry c.number_at-place.result c.requires is
    (elim c.then-place-eq0.branch [
      | then-place-eq0-via-then-place-eq0 w ↦ inl w.if-place-eq0.true
      | then-place-eq0-via-else-place-eq0+then-place-entries w ↦ inr w.if-place-entries.true
    ])

pub returns-else-eq-clause-none : goal.returns-else-eq-clause-none
returns-else-eq-clause-none c =
    let places = c.deref.ensures.value ∙ ap (λ (r : Ranks). r.places) c.self.view_is in
    let is = c.number_at-place.ensures ∙ ap (λ (n : ℕ). get_or c.deref.result.now n 0) c.number.ensures
    ∙ ap (λ (xs : List ℕ). get_or xs (number_of c.args.self.now c.args.entry) 0) places in
    absent_but_place c.args.self.now c.args.entries.now c.args.entry c.number_at-place.result c.requires is _
    (λ same. true≢false (sym ((key_same _ c.args.entry).1 same) ∙ sym c.if-eq.ensures))
