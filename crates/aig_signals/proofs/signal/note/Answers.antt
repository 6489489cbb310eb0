use Rattle.std.proofs.Common.{List, ℕ, refl, ap}
use Rattle.std.specs.Prelude.{not}
use Rattle.std.specs.Str.{bytes_eq}
use Rattle.aig_signals.proofs.SeenLemmas.{note_step}
use Rattle.aig_signals.proofs.signal.note.Goals as goal

pub returns-clause-noted : goal.returns-clause-noted
returns-clause-noted c x =
    note_step (λ k. k.items) _ (λ _ _. refl) _ c.args.name.now x c.args.known.now.entries c.insert.new.self.entries _
    (λ q. ap (λ (xs : List ℕ). bytes_eq xs q.items) c.in_ok-from_slice.ensures.items) (ap not c.contains_key-is_new.ensures)
    c.in_ok-insert.ensures.updates.1 c.in_ok-insert.ensures.updates.3
