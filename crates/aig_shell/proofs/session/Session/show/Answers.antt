use Rattle.std.proofs.Common.{ℕ, List, Bor, map, option_map, ◌+◌, ◌-◌}
use Rattle.aig_shell.proofs.tables.Shown.{ends_none}
use Rattle.aig_shell.proofs.session.Session.show.Goals as goal

pub returns-in_err-rows : goal.returns-in_err-rows
returns-in_err-rows c =
    ends_none c.args.self.now (map (λ (w : Bor (List ℕ)). w.now) c.args.names.now)
    (option_map (λ (w : Bor (List ℕ)). w.now) c.args.frames) c.from_residual-in_err-rows.result c.in_err-rows.field-0.0
    c.frames_to_show.new.text.items c.from_residual-in_err-rows.ensures.1
    (λ other first last rows shows shown. c.in_err-rows.ensures.err other first (last + 1 - first) rows shown)
