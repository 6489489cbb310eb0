use Rattle.std.proofs.Common.{List, ℕ, Some, refl, sym, ap, ◌∙◌}
use Rattle.std.specs.Prelude.{if◌then◌else◌}
use Rattle.std.specs.Str.{bytes_eq}
use Rattle.indexmap.specs.IndexMap.{get_by}
use Rattle.aig_signals.specs.declared.bits.WordBit.{WordBit}
use Rattle.aig_signals.proofs.CalledWords.{taken_none, taken_some}
use Rattle.aig_signals.proofs.SeenLemmas.{put_step}
use Rattle.aig_signals.proofs.called.words.taken.Goals as goal

pub returns-then-not-contains_key-clause-table : goal.returns-then-not-contains_key-clause-table
returns-then-not-contains_key-clause-table c x =
    taken_none (λ y. get_by (λ key. bytes_eq y key.items) c.args.table.now) c.args.name.now x
    (sym c.contains_key.ensures ∙ c.if-not-contains_key.true)

pub returns-clause-table : goal.returns-clause-table
returns-clause-table c x =
    taken_some (λ y. get_by (λ key. bytes_eq y key.items) c.args.table.now) c.args.name.now x _
    (sym c.contains_key.ensures ∙ c.if-not-contains_key.false)
    (put_step (λ k. k.items) _ (λ _ _. refl) _ c.args.name.now x c.args.table.now.entries c.insert.new.self.entries _
    (λ q. ap (λ (xs : List ℕ). bytes_eq xs q.items) c.in_ok-from_slice.ensures.items)
    c.in_ok-insert.ensures.updates.1 c.in_ok-insert.ensures.updates.3
    ∙ ap (λ (bits : List WordBit). if bytes_eq x c.args.name.now then Some bits else get_by (λ key. bytes_eq x key.items) c.args.table.now)
    c.new.ensures)
