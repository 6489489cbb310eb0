use Rattle.std.proofs.Common.{ap, sym, ◌∙◌, List, take, drop, subst}
use Rattle.std.specs.Prelude.{Some}
use Rattle.aig_parts.specs.declared.symbols.places.Place.{Place}
use Rattle.aig_parts.specs.SymbolPlaces.{Key}
use Rattle.aig_parts.specs.state.SymbolRanks.{AreEntered}
use Rattle.aig_parts.specs.state.SymbolTable.{Ascend, IsSymbolTable}
use Rattle.aig_parts.proofs.TableLemmas.{all_listed, parted}
use Rattle.aig_parts.proofs.symbols.table.SymbolTable.of_entries.Goals as goal

pub invariant_of-result : goal.invariant_of-result
invariant_of-result c =
    let ascend = subst (λ (xs : List (Key × Place)). Ascend xs) c.deref.ensures.value
    (c.are_ascending.ensures c.if-are_ascending.true) in
    all_listed c.args.entries.items c.with_hasher.result.entries c.with_hasher.ensures.empty ascend c.requires

pub invariant_of-result-2 : goal.invariant_of-result-2
invariant_of-result-2 c =
    let es = c.args.entries.items in
    let ranks = c.in_ok-ranks.ranks in
    let n = c.in_ok-ranks.count in
    let entered = subst (λ (xs : List (Key × Place)). AreEntered ranks (take n xs)) c.deref-2.ensures.value
    c.in_ok-ranks.ensures.entered in
    let others = c.in_ok-others.ensures.entries ∙ ap (λ (xs : List (Key × Place)). drop n xs) c.deref-3.ensures.value in
    subst (λ (xs : List (Key × Place)). IsSymbolTable xs (Some ranks) c.in_ok-others.others.entries)
    (sym c.truncate.ensures.items)
    (subst (λ (xs : List (Key × Place)). IsSymbolTable (take n es) (Some ranks) xs) (sym others)
    (parted es n ranks entered c.requires))
