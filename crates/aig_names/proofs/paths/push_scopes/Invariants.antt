use Rattle.std.proofs.Common.{◌≡◌, ◌++◌, drop, map}
use Rattle.std.specs.List.{flat_map}
use Rattle.aig_names.specs.Header.{scope_line}
use Rattle.aig_names.proofs.paths.push_scopes.Given as goal

abbrev pub invariant-loop-scope : goal.invariant-loop-scope
invariant-loop-scope l =
    l.text.items ++ flat_map scope_line (map (λ s. s.now) (drop l.scope-index l.scopes))
    ≡ l.fn.text.items ++ flat_map scope_line (map (λ s. s.now) l.scopes)
