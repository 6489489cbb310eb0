use Rattle.std.proofs.Common.{◌<◌, length, refl, arith, ap}
use Rattle.std.specs.Prelude.{option_map}
use Rattle.aig_bench.specs.BenchState.{BenchState}
use Rattle.aig_shell.proofs.editing.Impossible.{no_drop}
use Rattle.aig_shell.proofs.session.Session.drop_last.Goals as goal

pub returns-then-count-frames-clause-edits : goal.returns-then-count-frames-clause-edits
returns-then-count-frames-clause-edits c =
    let far : length c.args.self.now.run.bench.pair.rows < c.in_ok-count.count =
    omega (arith, c.if-count-frames.true, c.frames-frames.ensures, ap (λ (b : BenchState). length b.pair.rows) c.bench.ensures) in
    (λ other. no_drop c.args.self.now.run.bench.pair (option_map (λ w. w.now) c.args.count) c.in_ok-count.count c.in_ok-count.ensures.ok far, refl)
