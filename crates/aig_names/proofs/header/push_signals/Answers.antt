use Rattle.std.proofs.Common.{◌+◌, ◌++◌, ℕ, List, map, drop, length, sym, ap, ◌∙◌}
use Rattle.std.proofs.lemmas.List.{length-map}
use Rattle.std.proofs.lemmas.Result.{on_ok_weaker}
use Rattle.aig_names.specs.Header.{name_lines}
use Rattle.aig_names.specs.Paths.{scopes_of}
use Rattle.aig_names.specs.state.Naming.{named}
use Rattle.aig_names.proofs.HeaderLemmas.{no_scopes_at_first, lines_more, lines_done}
use Rattle.aig_names.proofs.header.push_signals.Goals as goal

pub loop-signal-init : goal.loop-signal-init
loop-signal-init c =
    ap (λ (open_now : List (List ℕ)). c.args.text.now.items ++ name_lines c.args.shape.now open_now (map named c.args.signals.now))
    (ap scopes_of c.new-before.ensures.items ∙ no_scopes_at_first)

pub loop-signal-preserved : goal.loop-signal-preserved
loop-signal-preserved c =
    let shape = c.args.shape.now in
    let rest = map named (drop (c.loop-signal.signal-index + 1) c.args.signals.now) in
    let before = c.deref.result.now in
    let name = c.deref-in-loop-signal.result.now in
    let old = c.loop-signal.text.items in
    let text = c.push_signal.new.text.items in
    ap (λ v. text ++ name_lines shape (scopes_of v.items) rest) c.swap.ensures.x_after
    ∙ ap (λ (w : List ℕ). text ++ name_lines shape (scopes_of w) rest) (sym c.deref-in-loop-signal.ensures.value)
    ∙ lines_more shape before name c.in_ok-leaf.leaf.now c.args.signals.now c.loop-signal.signal-index _
    old c.push_path.new.text.items text _ c.loop-signal-test.true (c.deref-in-loop-signal.ensures.value ∙ c.in_ok-show.ensures)
    c.in_ok-leaf.ensures.text c.in_ok-leaf.ensures.leaf c.in_ok-push_signal.ensures
    (ap (λ (w : List ℕ). old ++ name_lines shape (scopes_of w) (map named (drop c.loop-signal.signal-index c.args.signals.now))) c.deref.ensures.value
    ∙ c.loop-signal.invariant)

pub returns : goal.returns
returns c =
    let size = c.len.ensures ∙ c.in_ok-open.open.scopes.ok.0 ∙ sym (length-map c.in_ok-open.open.scopes.items (λ b. b.now))
    ∙ ap length c.in_ok-open.ensures.scopes ∙ ap (λ (w : List ℕ). length (scopes_of w)) c.deref-2.ensures.value in
    on_ok_weaker c.push_closings.result
    (λ h. lines_done c.args.shape.now c.loop-signal.before.items c.args.signals.now c.loop-signal.signal-index c.len.result
    c.loop-signal.text.items c.push_closings.new.text.items _ c.loop-signal-test.false size h c.loop-signal.invariant)
    c.push_closings.ensures
