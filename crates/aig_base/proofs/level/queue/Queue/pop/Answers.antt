use Rattle.std.proofs.Common.{◌≡◌, ℕ, [], ◌∷◌, ◌-◌, ◌^◌, ◌<◌, length, get_or, set, IsPermutation, ap, ◌∙◌, subst, arith}
use Rattle.std.proofs.lemmas.List.{get_or_read}
use Rattle.aig_base.specs.state.Queue.{Queued, chained_entries}
use Rattle.aig_base.proofs.rewires.LevelChains.{no_entries, popped_as, popped_inside}
use Rattle.aig_base.proofs.level.queue.Queue.pop.Goals as goal

pub returns-in_err-level-clause-none : goal.returns-in_err-level-clause-none
returns-in_err-level-clause-none c =
    rw c.from_residual.ensures
    (subst (λ (q : Queued). q.entries ≡ []) c.self.view_is
    (no_entries c.self.inside.head.items c.self.inside.next.items (rw c.deref.ensures.value at c.in_err-level.ensures)))

pub returns-in_err-level-clause-left : goal.returns-in_err-level-clause-left
returns-in_err-level-clause-left c =
    rw c.from_residual.ensures
    (subst (λ (q : Queued). q.entries ≡ []) c.self.view_is
    (no_entries c.self.inside.head.items c.self.inside.next.items (rw c.deref.ensures.value at c.in_err-level.ensures)))

pub index-requires : goal.index-requires
index-requires c =
    let head = c.self.inside.head.items in
    let next = c.self.inside.next.items in
    let l = c.in_ok-level.level in
    let (lt, some, none) = rw c.deref.ensures.value at c.in_ok-level.ensures in
    let is = get_or_read head l c.index-variable.result.now lt c.index-variable.ensures 0 in
    let within : get_or head l 0 < length next =
    popped_inside head next c.self.inside.first c.self.inside.waiting c.self.invariant l lt some none in
    omega arith

pub invariant_of-self : goal.invariant_of-self
invariant_of-self c =
    let head = c.self.inside.head.items in
    let next = c.self.inside.next.items in
    let l = c.in_ok-level.level in
    let (lt, some, none) = rw c.deref.ensures.value at c.in_ok-level.ensures in
    let is = get_or_read head l c.index-variable.result.now lt c.index-variable.ensures 0 in
    let within : get_or head l 0 < length next =
    popped_inside head next c.self.inside.first c.self.inside.waiting c.self.invariant l lt some none in
    let then = get_or_read next c.index-variable.result.now c.index.result.now (omega arith) c.index.ensures 0 in
    (popped_as head next c.self.inside.first c.self.inside.waiting c.self.invariant l lt some none
    c.index-variable.result.now c.index.result.now is then).0

pub returns-clause-some : goal.returns-clause-some
returns-clause-some c =
    let head = c.self.inside.head.items in
    let next = c.self.inside.next.items in
    let l = c.in_ok-level.level in
    let (lt, some, none) = rw c.deref.ensures.value at c.in_ok-level.ensures in
    let is = get_or_read head l c.index-variable.result.now lt c.index-variable.ensures 0 in
    let within : get_or head l 0 < length next =
    popped_inside head next c.self.inside.first c.self.inside.waiting c.self.invariant l lt some none in
    let then = get_or_read next c.index-variable.result.now c.index.result.now (omega arith) c.index.ensures 0 in
    let (chains, popped, least) = popped_as head next c.self.inside.first c.self.inside.waiting c.self.invariant l lt
    some none c.index-variable.result.now c.index.result.now is then in (
      2 ^ 32 - 1 - l,
      subst (λ (q : Queued). IsPermutation q.entries ((2 ^ 32 - 1 - l, c.index-variable.result.now)
          ∷ chained_entries (set head l c.index.result.now) next)) c.self.view_is popped,
      least,
    )
