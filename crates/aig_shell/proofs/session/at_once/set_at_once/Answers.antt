use Rattle.std.proofs.Common.{◌≡◌, ◌<◌, ◌≤◌, ◌-◌, ℕ, All, List, length, ap, arith, sym, subst, ◌∙◌}
use Rattle.aig_parts.specs.declared.ternary.Tern.{Tern}
use Rattle.aig_values.specs.InputRows.{InputRows}
use Rattle.aig_bench.specs.BenchState.{CircuitAndRows}
use Rattle.aig_shell.specs.State.{Leads, set_edits}
use Rattle.aig_shell.specs.Written.{with_rows}
use Rattle.aig_shell.proofs.session.at_once.set_at_once.Goals as goal

pub write_rows-requires-clause-within : goal.write_rows-requires-clause-within
write_rows-requires-clause-within c =
    let same : length c.in_ok-rows.rows.rows ≡ length c.args.bench.now.pair.rows
    = ap (λ (s : InputRows). length s.rows) c.in_ok-rows.ensures ∙ ap length c.stimulus.ensures.rows in
    omega (arith, same, c.requires.within)

pub write_rows-requires-clause-positions : goal.write_rows-requires-clause-positions
write_rows-requires-clause-positions c =
    subst (λ (n : ℕ). All (λ p. p < n) c.args.positions.now)
    (sym (ap (λ (s : InputRows). s.width) c.in_ok-rows.ensures ∙ c.stimulus.ensures.width)) c.requires.are_inputs

pub replace_rows-requires-clause-width : goal.replace_rows-requires-clause-width
replace_rows-requires-clause-width c =
    c.write_rows.ensures.width ∙ ap (λ (s : InputRows). s.width) c.in_ok-rows.ensures ∙ c.stimulus.ensures.width

pub replace_rows-requires-clause-frames : goal.replace_rows-requires-clause-frames
replace_rows-requires-clause-frames c =
    c.write_rows.ensures.frames ∙ ap (λ (s : InputRows). length s.rows) c.in_ok-rows.ensures ∙ ap length c.stimulus.ensures.rows

pub returns-clause-done : goal.returns-clause-done
returns-clause-done c =
    let p = c.args.bench.now.pair in
    let edits = set_edits c.args.first (c.args.end - c.args.first) c.args.positions.now c.args.values.now in
    let width = ap (λ (s : InputRows). s.width) c.in_ok-rows.ensures ∙ c.stimulus.ensures.width in
    let rows = ap (λ (s : InputRows). s.rows) c.in_ok-rows.ensures ∙ c.stimulus.ensures.rows in
    subst (λ (q : CircuitAndRows). Leads p edits q) (sym c.in_ok-replace_rows.ensures.done)
    (subst (λ (rs : List (List Tern)). Leads (with_rows p.circuit rs) edits (with_rows p.circuit c.write_rows.new.stimulus.rows)) rows
    (c.write_rows.ensures.leads p.circuit (sym width)))
