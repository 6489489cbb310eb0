use Rattle.std.proofs.Common.{ℕ, IfErr, length, ap, subst, ◌∙◌}
use Rattle.aig_bench.specs.BenchState.{BenchState}
use Rattle.aig_shell.specs.Edits.{AreFrames}
use Rattle.aig_shell.proofs.session.Session.frames.Goals as goal

pub returns-clause-err : goal.returns-clause-err
returns-clause-err c =
    subst (λ n. IfErr c.frames_of.result (λ _. (first last : ℕ) → AreFrames c.args.word.now n first last → ⊥))
    (c.frames.ensures ∙ ap (λ (b : BenchState). length b.pair.rows) c.bench.ensures) c.frames_of.ensures.err
