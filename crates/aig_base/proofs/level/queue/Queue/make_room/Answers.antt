use Rattle.std.proofs.Common.{◌≡◌, refl, subst, arith, inl, inr}
use Rattle.aig_base.specs.state.Queue.{Queued, chained_entries}
use Rattle.aig_base.proofs.rewires.LevelChains.{more_chains, more_entries}
use Rattle.aig_base.proofs.level.queue.Queue.make_room.Goals as goal

pub invariant_of-self : goal.invariant_of-self
invariant_of-self c =
    let i = c.self.invariant in
    let e = c.lengthen.ensures in
    more_chains c.self.inside.head.items c.self.inside.next.items c.self.inside.first c.self.inside.waiting i
    c.lengthen.new.list.items c.self.inside.next.items e.same (λ l. refl) e.longer (omega arith)
    (omega (arith, i.sizes, e.longer))

pub returns-in_err-lengthen-clause-entries : goal.returns-in_err-lengthen-clause-entries
returns-in_err-lengthen-clause-entries c =
    let i = c.self.invariant in
    let e = c.lengthen.ensures in
    subst (λ (q : Queued). chained_entries c.lengthen.new.list.items c.self.inside.next.items ≡ q.entries) c.self.view_is
    (more_entries c.self.inside.head.items c.self.inside.next.items c.self.inside.first c.self.inside.waiting i
    c.lengthen.new.list.items c.self.inside.next.items e.same (λ l. refl) e.longer (omega arith)
    (omega (arith, i.sizes, e.longer)))

pub invariant_of-self-2 : goal.invariant_of-self-2
invariant_of-self-2 c =
    let i = c.self.invariant in
    let e = c.lengthen.ensures in
    let f = c.lengthen-2.ensures in
    let room = c.in_ok-lengthen.ensures.ok in
    more_chains c.self.inside.head.items c.self.inside.next.items c.self.inside.first c.self.inside.waiting i
    c.lengthen.new.list.items c.lengthen-2.new.list.items e.same f.same e.longer f.longer
    (elim f.few [ inl same ↦ omega (arith, i.sizes, e.longer) | inr le ↦ omega (arith, room) ])

pub returns-clause-entries : goal.returns-clause-entries
returns-clause-entries c =
    let i = c.self.invariant in
    let e = c.lengthen.ensures in
    let f = c.lengthen-2.ensures in
    let room = c.in_ok-lengthen.ensures.ok in
    subst (λ (q : Queued). chained_entries c.lengthen.new.list.items c.lengthen-2.new.list.items ≡ q.entries)
    c.self.view_is
    (more_entries c.self.inside.head.items c.self.inside.next.items c.self.inside.first c.self.inside.waiting i
    c.lengthen.new.list.items c.lengthen-2.new.list.items e.same f.same e.longer f.longer
    (elim f.few [ inl same ↦ omega (arith, i.sizes, e.longer) | inr le ↦ omega (arith, room) ]))
