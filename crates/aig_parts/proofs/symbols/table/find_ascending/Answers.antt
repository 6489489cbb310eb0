use Rattle.std.proofs.Common.{rules, sym, ◌∙◌, true≢false}
use Rattle.std.proofs.lemmas.List.Sorted.{answers_always}
use Rattle.aig_parts.specs.state.SymbolTable.{key_number}
use Rattle.aig_parts.proofs.SymbolKeys.{key_same}
use Rattle.aig_parts.proofs.TableLemmas.{nowhere, absent_in_gap, absent_but_number}
use Rattle.aig_parts.proofs.symbols.table.find_ascending.Goals as goal

pub returns-in_default-clause-none : goal.returns-in_default-clause-none
returns-in_default-clause-none c =
    let searched = c.in-Ok.ensures.position (λ e. key_number e.0) (answers_always _ _ _ (λ f a r g called. search rules)) in
    absent_but_number c.args.entries.now c.requires c.args.entry c.in-Ok.at nowhere c.in-Ok.ensures.bound
    (rw c.key_number-number.ensures at searched) (λ same. true≢false (sym ((key_same _ c.args.entry).1 same) ∙ sym c.if-eq.ensures))

pub returns-in_default-2-clause-none : goal.returns-in_default-2-clause-none
returns-in_default-2-clause-none c =
    let searched = c.in_default.ensures.position (λ e. key_number e.0) (answers_always _ _ _ (λ f a r g called. search rules)) in
    absent_in_gap c.args.entries.now c.requires c.args.entry _ (rw c.key_number-number.ensures at searched)
