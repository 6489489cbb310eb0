use Rattle.std.proofs.Common.{List, ℕ, refl, ap}
use Rattle.std.specs.Str.{bytes_eq}
use Rattle.aig_signals.proofs.SeenLemmas.{put_step}
use Rattle.aig_signals.proofs.called.table.put.Goals as goal

pub returns : goal.returns
returns c x =
    put_step (λ k. k.items) _ (λ _ _. refl) _ c.args.name.now x c.args.table.now.entries c.insert.new.self.entries (c.args.found)
    (λ q. ap (λ (xs : List ℕ). bytes_eq xs q.items) c.in_ok-from_slice.ensures.items)
    c.in_ok-insert.ensures.updates.1 c.in_ok-insert.ensures.updates.3
