use Rattle.std.proofs.Common.{◌≡◌, ◌+◌, ◌∷◌, ◌++◌, [], ℕ, length, set, refl, subst, arith}
use Rattle.std.proofs.lemmas.Option.{slice_get_read}
use Rattle.aig_base.specs.state.KeyChains.{AreKeyChains}
use Rattle.aig_base.proofs.lists.Chains.{link_more}
use Rattle.aig_base.proofs.readers.key_chains.KeyChains.add.Goals as goal

pub returns-clause-links : goal.returns-clause-links
returns-clause-links c = λ keys h.
    let first = c.args.self.now.first.items in
    let next = c.args.self.now.next.items in
    let at = slice_get_read first _ c.args.key c.index-first.result.now refl c.requires.key c.index-first.ensures in
    let e : length next + 1 ≡ c.len.result + 1 = omega (arith, c.args.self.now.next.ok.0, c.len.ensures) in
    rw c.in_ok-push.ensures.items
    (subst (λ (n : ℕ). AreKeyChains (keys ++ c.args.key ∷ []) (set first c.args.key n) (next
    ++ c.index-first.result.now ∷ [])) e
    (link_more keys first next c.args.key c.index-first.result.now h at))
