use Rattle.std.proofs.Common.{◌≡◌, ◌+◌, map}
use Rattle.aig_names.specs.Header.{shared}
use Rattle.aig_names.proofs.PathLemmas.{shared_from}
use Rattle.aig_names.proofs.paths.count_shared.Given as goal

abbrev pub invariant-loop-place : goal.invariant-loop-place
invariant-loop-place l =
    shared (map (λ s. s.now) l.opened) (map (λ s. s.now) l.scopes)
    ≡ l.place + shared_from (λ s. s.now) l.opened l.scopes l.place
