use Rattle.std.proofs.Common.{ℕ, ◌+◌, ◌<◌, ◌∷◌, length, set, IsPermutation, sym, subst, arith}
use Rattle.std.proofs.lemmas.List.{get_or_read}
use Rattle.aig_base.specs.state.Queue.{AreLevelChains, IsQueued, Queued, chained_entries, entry}
use Rattle.aig_base.proofs.rewires.LevelChains.{none_after, pushed, pushed_chains}
use Rattle.aig_base.proofs.level.queue.Queue.push.Goals as goal

pub invariant_of-self : goal.invariant_of-self
invariant_of-self c =
    let i = c.self.invariant in
    let head = c.self.inside.head.items in
    let next = c.self.inside.next.items in
    let first = c.first_after-self-inside in
    let level = subst (λ (q : Queued). c.args.level < q.capacity) (sym c.self.view_is) c.requires.level in
    let within = subst (λ (q : Queued). c.args.variable < q.capacity) (sym c.self.view_is) c.requires.within in
    let alone = subst (λ (q : Queued). IsQueued q c.args.variable → ⊥) (sym c.self.view_is) c.requires.alone in
    let lt : c.args.level < length head = omega (arith, i.sizes) in
    subst (λ n. AreLevelChains (set head c.args.level c.args.variable) (set next c.args.variable n) first.result
    (c.self.inside.waiting + 1)) (sym (get_or_read head c.args.level c.index.result.now lt c.index.ensures 0))
    (pushed_chains head next c.self.inside.first c.self.inside.waiting i c.args.variable alone c.args.level first.result lt
    c.requires.positive within
    (none_after head next c.self.inside.first c.self.inside.waiting i first.result first.ensures.before)
    first.ensures.least)

pub returns-clause-entries : goal.returns-clause-entries
returns-clause-entries c =
    let i = c.self.invariant in
    let head = c.self.inside.head.items in
    let next = c.self.inside.next.items in
    let first = c.first_after-self-inside in
    let level = subst (λ (q : Queued). c.args.level < q.capacity) (sym c.self.view_is) c.requires.level in
    let within = subst (λ (q : Queued). c.args.variable < q.capacity) (sym c.self.view_is) c.requires.within in
    let alone = subst (λ (q : Queued). IsQueued q c.args.variable → ⊥) (sym c.self.view_is) c.requires.alone in
    let lt : c.args.level < length head = omega (arith, i.sizes) in
    subst (λ (q : Queued). IsPermutation (entry c.args.level c.args.variable ∷ q.entries)
    (chained_entries (set head c.args.level c.args.variable) (set next c.args.variable c.index.result.now)))
    c.self.view_is
    (subst (λ n. IsPermutation (entry c.args.level c.args.variable ∷ chained_entries head next)
    (chained_entries (set head c.args.level c.args.variable) (set next c.args.variable n)))
    (sym (get_or_read head c.args.level c.index.result.now lt c.index.ensures 0))
    (pushed head next c.self.inside.first c.self.inside.waiting i c.args.variable alone c.args.level first.result lt
    c.requires.positive within
    (none_after head next c.self.inside.first c.self.inside.waiting i first.result first.ensures.before)
    first.ensures.least))
