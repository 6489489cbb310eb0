use Rattle.std.proofs.Common.{◌≡◌, ℕ, ◌+◌, ◌<◌, List, [], ◌∷◌, ◌++◌, length, take, sym, ap, ◌∙◌, subst, arith}
use Rattle.std.proofs.lemmas.List.{length-take-le, take_more, take_all}
use Rattle.std.proofs.lemmas.Option.{get_or_from_slice_get}
use Rattle.aig_parts.specs.declared.raw.Raw.{Raw}
use Rattle.aig_shell.specs.declared.answers.check.Standing.{Standing}
use Rattle.aig_shell.specs.Answers.{AreStandings}
use Rattle.aig_shell.specs.Session.{own_circuit}
use Rattle.aig_shell.specs.Standing.{IsStanding}
use Rattle.aig_base.proofs.lists.Items.{item_at}
use Rattle.aig_shell.proofs.reached.Checking.{none_yet, standings_more, standings_size}
use Rattle.aig_shell.proofs.session.Session.standings.Goals as goal

pub standing-standing-requires-clause-literal : goal.standing-standing-requires-clause-literal
standing-standing-requires-clause-literal c =
    let same = c.bad-literal-items.ensures ∙ ap (λ (r : Raw). r.bad) c.circuit-circuit.ensures in
    item_at _ _ c.loop-position.position c.literal-item.result same c.loop-position-test.true c.literal-item.is

pub loop-position-init : goal.loop-position-init
loop-position-init c =
    subst (λ (xs : List Standing). AreStandings (own_circuit c.args.self.now) c.args.self.now.run.bench.pair 0 [] xs)
    (sym c.new-standings.ensures.items) (none_yet (own_circuit c.args.self.now) c.args.self.now.run.bench.pair)

pub loop-position-preserved : goal.loop-position-preserved
loop-position-preserved c =
    let raw = own_circuit c.args.self.now in
    let p = c.args.self.now.run.bench.pair in
    let i = c.loop-position.position in
    let l = c.literal-item.result in
    let y = c.standing-standing.result in
    let xs = c.loop-position.standings.items in
    let same = c.bad-literal-items.ensures ∙ ap (λ (r : Raw). r.bad) c.circuit-circuit.ensures in
    let lt : i < length p.circuit.bad = omega (arith, c.loop-position-test.true, ap length same) in
    let at = item_at _ _ i l same c.loop-position-test.true c.literal-item.is in
    let are = c.loop-position.invariant in
    let size : length xs ≡ i = standings_size raw p 0 (take i p.circuit.bad) xs are ∙ length-take-le i p.circuit.bad (omega (arith, lt)) in
    let place : 0 + length xs ≡ i = omega (arith, size) in
    let more : take (i + 1) p.circuit.bad ≡ take i p.circuit.bad ++ l ∷ [] =
    take_more p.circuit.bad i l lt ∙ ap (λ (z : ℕ). take i p.circuit.bad ++ z ∷ []) (get_or_from_slice_get p.circuit.bad i l l at) in
    subst (λ (ys : List Standing). AreStandings raw p 0 (take (i + 1) p.circuit.bad) ys) (sym c.in_ok-push.ensures.items)
    (subst (λ (ls : List ℕ). AreStandings raw p 0 ls (xs ++ y ∷ [])) (sym more)
    (standings_more raw p 0 (take i p.circuit.bad) xs l y are
    (subst (λ (n : ℕ). IsStanding raw p n l y) (sym place) c.standing-standing.ensures)))

pub returns : goal.returns
returns c =
    let p = c.args.self.now.run.bench.pair in
    let same = c.bad-literal-items.ensures ∙ ap (λ (r : Raw). r.bad) c.circuit-circuit.ensures in
    subst (λ (ls : List ℕ). AreStandings (own_circuit c.args.self.now) p 0 ls c.loop-position.standings.items)
    (take_all c.loop-position.position p.circuit.bad (omega (arith, c.loop-position-test.false, ap length same)))
    c.loop-position.invariant
