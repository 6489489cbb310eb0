use Rattle.std.proofs.Common.{◌≡◌, ◌<◌, ◌≤◌, ◌++◌, List, ℕ, Option, length, ap, subst, ◌∙◌}
use Rattle.aig_parts.specs.declared.ternary.Tern.{Tern}
use Rattle.aig_bench.specs.BenchState.{BenchState}
use Rattle.aig_signals.specs.Value.{table_text}
use Rattle.aig_shell.proofs.tables.Differences.{cell_there, cell_past}
use Rattle.aig_shell.proofs.session.Session.fill_now.Goals as goal

pub returns-then-frame-count : goal.returns-then-frame-count
returns-then-frame-count c =
    let count : c.frames-count.result ≡ length c.args.self.now.run.bench.pair.rows =
    c.frames-count.ensures ∙ ap (λ (b : BenchState). length b.pair.rows) c.bench.ensures in
    cell_there c.args.self.now.run.bench.pair c.args.literals.now c.args.frame c.bits.new.bits.items c.clear.new.self.items _
    (subst (λ n. c.args.frame < n) count c.if-frame-count.true) c.in_ok-bits.ensures c.clear.ensures.items
    (c.in_ok-push_table_value.ensures
    ∙ ap (λ (bs : List (Option Tern)). c.clear.new.self.items ++ table_text bs) c.as_slice.ensures.value)

pub returns : goal.returns
returns c =
    let count : c.frames-count.result ≡ length c.args.self.now.run.bench.pair.rows =
    c.frames-count.ensures ∙ ap (λ (b : BenchState). length b.pair.rows) c.bench.ensures in
    cell_past c.args.self.now.run.bench.pair c.args.literals.now c.args.frame c.clear.new.self.items _
    (subst (λ n. n ≤ c.args.frame) count c.if-frame-count.false) c.clear.ensures.items c.in_ok-push.ensures.items
