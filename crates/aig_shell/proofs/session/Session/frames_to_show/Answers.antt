use Rattle.std.proofs.Common.{ℕ, List, Bor, length, option_map, ap}
use Rattle.aig_shell.proofs.tables.Shown.{frames_refused}
use Rattle.aig_shell.proofs.session.Session.frames_to_show.Goals as goal

pub returns-in-Some-clause-err : goal.returns-in-Some-clause-err
returns-in-Some-clause-err c =
    frames_refused c.frames.result (option_map (λ (w : Bor (List ℕ)). w.now) c.args.frames) c.in-Some.word.now
    (length c.args.self.now.run.bench.pair.rows) (ap (option_map (λ (w : Bor (List ℕ)). w.now)) c.in-Some.is) c.frames.ensures.err
