use Rattle.std.proofs.Common.{◌≡◌, ◌++◌, map, ap, ◌∙◌}
use Rattle.aig_names.specs.Header.{moves}
use Rattle.aig_names.specs.Paths.{scopes_of}
use Rattle.aig_names.proofs.header.push_path.Goals as goal

pub returns-clause-text : goal.returns-clause-text
returns-clause-text c =
    let from : map (λ b. b.now) c.deref.result.now ≡ scopes_of c.args.before.now =
    ap (map (λ b. b.now)) c.deref.ensures.value ∙ c.in_ok-open.ensures.scopes in
    let to : map (λ b. b.now) c.deref-2.result.now ≡ scopes_of c.args.name.now =
    ap (map (λ b. b.now)) c.deref-2.ensures.value ∙ c.in_ok-path.ensures.scopes in
    c.in_ok-push_moves.ensures ∙ (λ i. c.args.text.now.items ++ moves (from i) (to i))
