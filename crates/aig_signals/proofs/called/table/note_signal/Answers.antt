use Rattle.std.proofs.Common.{◌∙◌, ℕ, List, Some, sym, ap}
use Rattle.std.specs.Prelude.{if◌then◌else◌}
use Rattle.std.specs.Str.{bytes_eq}
use Rattle.std.proofs.lemmas.Result.{on_ok_weaker}
use Rattle.indexmap.specs.IndexMap.{get_by}
use Rattle.aig_signals.specs.Lookup.{signal_literals}
use Rattle.aig_signals.specs.state.Called.{wants}
use Rattle.aig_signals.proofs.CalledLemmas.{not_wanted, put_wanted}
use Rattle.aig_signals.proofs.called.table.note_signal.Goals as goal

pub returns-then-not-wants : goal.returns-then-not-wants
returns-then-not-wants c x =
    let found = Some (signal_literals c.args.circuit.now c.args.signal.now) in
    let table = (λ (y : List ℕ). get_by (λ key. bytes_eq y key.items) c.args.table.now) in
    not_wanted table c.args.signal.now.name x found
    (sym (c.wants.ensures ∙ ap (λ (y : List ℕ). wants (table y)) c.as_slice-name.ensures) ∙ c.if-not-wants.true)

pub returns : goal.returns
returns c =
    let found = Some (signal_literals c.args.circuit.now c.args.signal.now) in
    let table = (λ (y : List ℕ). get_by (λ key. bytes_eq y key.items) c.args.table.now) in
    on_ok_weaker c.put.result
    (λ h x. put_wanted table c.args.signal.now.name x found _
    (sym (c.wants.ensures ∙ ap (λ (y : List ℕ). wants (table y)) c.as_slice-name.ensures) ∙ c.if-not-wants.false)
    (h x
    ∙ (λ i. if bytes_eq x (c.as_slice-name.ensures i) then Some (Some (c.in_ok-literals.ensures i)) else table x)))
    c.put.ensures
