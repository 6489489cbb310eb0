use Rattle.std.proofs.Common.{◌+◌, ◌-◌, ℕ, List, map, take, Bor}
use Rattle.std.specs.List.{AllZip}
use Rattle.aig_prompt.specs.Table.{row_of}
use Rattle.aig_shell.specs.Tables.{IsShown}
use Rattle.aig_shell.proofs.session.Session.rows_among.Given as goal

abbrev pub invariant-loop-name : goal.invariant-loop-name
invariant-loop-name l =
    IsShown l.self.run.bench.pair l.frames.first (l.frames.last + 1 - l.frames.first) (map (λ w. w.now) (take l.name-index l.names)) (map row_of l.rows.items)
