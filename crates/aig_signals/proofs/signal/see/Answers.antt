use Rattle.std.proofs.Common.{Bool, Option, List, ℕ, ap, ◌∙◌}
use Rattle.std.specs.Str.{bytes_eq}
use Rattle.std.proofs.lemmas.Result.{on_ok_weaker}
use Rattle.indexmap.specs.IndexMap.{get_by}
use Rattle.aig_signals.specs.Signals.{is_called}
use Rattle.aig_signals.specs.state.Seen.{noted}
use Rattle.aig_signals.proofs.signal.see.Goals as goal

pub returns-in-Some-clause-noted : goal.returns-in-Some-clause-noted
returns-in-Some-clause-noted c =
    on_ok_weaker c.note.result
    (λ h x. h x ∙ ap (λ (b : Bool). noted b (get_by (λ key. bytes_eq x key.items) c.args.known.now)) (ap (is_called x) c.in-Some.ensures.bit))
    c.note.ensures.noted

pub returns-in-None-clause-noted : goal.returns-in-None-clause-noted
returns-in-None-clause-noted c x =
    ap (λ (o : Option (List ℕ × ℕ)). noted (is_called x o) (get_by (λ key. bytes_eq x key.items) c.args.known.now)) c.in-None.ensures.bit
