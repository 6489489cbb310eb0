use Rattle.std.proofs.Common.{◌≡◌, ◌++◌, [], map, vec_len, sym, ap, ◌∙◌}
use Rattle.std.specs.List.{flat_map}
use Rattle.std.proofs.lemmas.Bool.{eqb-true}
use Rattle.std.proofs.lemmas.List.{nil_from_length}
use Rattle.aig_names.specs.Signals.{columns, section_names}
use Rattle.aig_names.specs.Vectors.{turned}
use Rattle.aig_names.specs.state.Naming.{named, entry_names}
use Rattle.aig_names.proofs.Columns.{turned_more, turned_all, columns_none, map_empty}
use Rattle.aig_names.proofs.signals.signals_of.Goals as goal

pub columns-init : goal.columns-init
unfolding section_names
columns-init c =
    ap (λ xs. map named xs ++ flat_map turned (columns (map entry_names c.in_ok-entries.entries.items))) c.new-signals.ensures.items
    ∙ ap (λ es. flat_map turned (columns es)) c.in_ok-entries.ensures

pub columns-preserved : goal.columns-preserved
columns-preserved c =
    let es = map entry_names c.columns.entries.items in
    let column = map named c.take_column.new.column.items in
    let rest = map entry_names c.in_ok-entries-2.entries.items in
    let more = c.in_ok-entries-2.ensures in
    turned_more es column rest (map named c.columns.signals.items) (map named c.push_turned.new.signals.items) _
    (ap (λ xs. columns (map entry_names xs)) (sym c.deref.ensures.value) ∙ more.columns)
    (λ none. columns_none rest (ap (map entry_names) (more.none (map_empty named c.take_column.new.column.items none))))
    (c.in_ok-push_turned.ensures ∙ ap (λ xs. map named c.columns.signals.items ++ turned (map named xs)) c.deref-in-columns.ensures.value)
    c.columns.invariant

pub returns : goal.returns
returns c =
    let none : c.columns.entries.items ≡ [] =
    nil_from_length c.columns.entries.items (sym c.columns.entries.ok.0 ∙ eqb-true (vec_len c.columns.entries) 0 (sym c.columns-test.ensures)) in
    turned_all (map entry_names c.columns.entries.items) (map named c.columns.signals.items) _ (ap (map entry_names) none) c.columns.invariant
