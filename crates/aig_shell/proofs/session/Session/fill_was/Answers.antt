use Rattle.std.proofs.Common.{◌≡◌, ◌<◌, ◌≤◌, ◌++◌, List, ℕ, Option, length, ap, subst, ◌∙◌}
use Rattle.aig_parts.specs.declared.ternary.Tern.{Tern}
use Rattle.aig_signals.specs.Value.{table_text}
use Rattle.aig_shell.proofs.tables.Differences.{cell_there, cell_past}
use Rattle.aig_shell.proofs.session.Session.fill_was.Goals as goal

pub returns-then-frame-count : goal.returns-then-frame-count
returns-then-frame-count c = λ p h known.
    let within : c.args.frame < length p.rows =
    subst (λ n. c.args.frame < n) (c.frames-count.ensures p h.keeps) c.if-frame-count.true in
    cell_there p c.args.literals.now c.args.frame c.first_bits.new.bits.items c.clear.new.self.items _ within
    (c.in_ok-first_bits.ensures p h within known) c.clear.ensures.items
    (c.in_ok-push_table_value.ensures
    ∙ ap (λ (bs : List (Option Tern)). c.clear.new.self.items ++ table_text bs) c.as_slice.ensures.value)

pub returns : goal.returns
returns c = λ p h known.
    cell_past p c.args.literals.now c.args.frame c.clear.new.self.items _
    (subst (λ n. n ≤ c.args.frame) (c.frames-count.ensures p h.keeps) c.if-frame-count.false) c.clear.ensures.items
    c.in_ok-push.ensures.items
