use Rattle.std.proofs.Common.{◌-◌, ◌<◌, ℕ, Some, map, take, length, get_or, sym, ap, ◌∙◌, arith}
use Rattle.std.specs.Option.{unwrap_or}
use Rattle.aig_names.proofs.PathLemmas.{whole_path, cut_path, no_scopes, own_leaf, all_but_last, last_piece}
use Rattle.aig_names.proofs.PathLemmas.{some_piece}
use Rattle.aig_names.proofs.paths.Path.of.Goals as goal

pub returns-then-has_empty_piece : goal.returns-then-has_empty_piece
returns-then-has_empty_piece c =
    let name = c.args.name.now in
    let whole = whole_path name (sym c.has_empty_piece.ensures ∙ c.if-has_empty_piece.true) in
    record { scopes = ap (map (λ b. b.now)) c.new.ensures.items ∙ no_scopes name whole; leaf = own_leaf name whole }

pub returns-clause-scopes : goal.returns-clause-scopes
returns-clause-scopes c =
    let name = c.args.name.now in
    let items = c.in_ok-scopes.scopes.items in
    let cut = cut_path name (sym c.has_empty_piece.ensures ∙ c.if-has_empty_piece.false) in
    ap (map (λ b. b.now)) (c.pop.ensures.rest ∙ ap (λ (n : ℕ). take (n - 1) items) c.in_ok-scopes.scopes.ok.0) ∙ all_but_last (λ b. b.now) name c.in_ok-scopes.scopes.items (c.in_ok-scopes.ensures ∙ sym cut)

pub returns-clause-leaf : goal.returns-clause-leaf
returns-clause-leaf c =
    let name = c.args.name.now in
    let items = c.in_ok-scopes.scopes.items in
    let cut = cut_path name (sym c.has_empty_piece.ensures ∙ c.if-has_empty_piece.false) in
    let some : 0 < length items = some_piece (λ b. b.now) name items c.in_ok-scopes.ensures in
    ap (λ b. b.now) (c.unwrap_or-leaf.ensures ∙ ap (λ o. unwrap_or o c.args.name) (c.pop.ensures.value c.args.name (omega (arith, some, c.in_ok-scopes.scopes.ok.0))
    ∙ ap (λ (n : ℕ). Some (get_or items (n - 1) c.args.name)) c.in_ok-scopes.scopes.ok.0))
    ∙ last_piece (λ b. b.now) name items c.args.name (c.in_ok-scopes.ensures ∙ sym cut) some
