use Rattle.std.proofs.Common.{inl, inr, length, sym, ◌∙◌, arith}
use Rattle.std.proofs.lemmas.Bool.{cases_lt}
use Rattle.aig_names.proofs.PathLemmas.{shared_more, shared_stops, shared_no_left, shared_no_right}
use Rattle.aig_names.proofs.paths.count_shared.Goals as goal

pub loop-place-preserved : goal.loop-place-preserved
loop-place-preserved c =
    let more = shared_more (λ s. s.now) c.args.opened.now c.args.scopes.now c.loop-place.place _ _
    (omega (arith, c.min-most.ensures)) (omega (arith, c.min-most.ensures)) (sym c.are_same.ensures ∙ c.if-not-are_same.false) in
    omega (arith, c.loop-place.invariant, more)

pub returns-then-not-are_same-clause-count : goal.returns-then-not-are_same-clause-count
returns-then-not-are_same-clause-count c =
    let none = shared_stops (λ s. s.now) c.args.opened.now c.args.scopes.now c.loop-place.place _ _
    (omega (arith, c.min-most.ensures)) (omega (arith, c.min-most.ensures)) (sym c.are_same.ensures ∙ c.if-not-are_same.true) in
    omega (arith, c.loop-place.invariant, none)

pub returns-clause-count : goal.returns-clause-count
returns-clause-count c =
    let xs = c.args.opened.now in
    let ys = c.args.scopes.now in
    let i = c.loop-place.place in
    elim (cases_lt (length xs) (length ys)) [
      | inl lt ↦
          let none = shared_no_left (λ s. s.now) xs ys i (omega (arith, c.min-most.ensures, c.loop-place-test.false)) in
          omega (arith, c.loop-place.invariant, none, c.min-most.ensures, c.loop-place-test.false, c.loop-place.auto.place-end)
      | inr ge ↦
          let none = shared_no_right (λ s. s.now) xs ys i (omega (arith, c.min-most.ensures, c.loop-place-test.false)) in
          omega (arith, c.loop-place.invariant, none, c.min-most.ensures, c.loop-place-test.false, c.loop-place.auto.place-end)
    ]
