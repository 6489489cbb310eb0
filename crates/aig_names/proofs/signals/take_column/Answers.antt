use Rattle.std.proofs.Common.{ℕ, List, map, sym, ap, ◌∙◌}
use Rattle.aig_names.specs.Signals.{columns}
use Rattle.aig_names.specs.state.Naming.{named, entry_names, column_then}
use Rattle.aig_names.proofs.Columns.{others, column_step, heads_done, others_done}
use Rattle.aig_names.proofs.signals.take_column.Goals as goal

pub returns-clause-columns : goal.returns-clause-columns
returns-clause-columns c =
    let es = map entry_names c.args.entries.now in
    let h = c.loop-entry.invariant in
    column_step es
    ∙ ap (λ (hs : List (ℕ × List ℕ)). column_then hs (columns (others es)))
    (sym (heads_done entry_names c.args.entries.now c.loop-entry.entry-index (map named c.loop-entry.column.items) c.loop-entry-test.false h.column))
    ∙ ap (λ (os : List (ℕ × List (List ℕ))). column_then (map named c.loop-entry.column.items) (columns os))
    (sym (others_done entry_names c.args.entries.now c.loop-entry.entry-index (map entry_names c.loop-entry.rest.items) c.loop-entry-test.false h.rest))
