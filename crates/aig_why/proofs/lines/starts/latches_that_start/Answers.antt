use Rattle.std.proofs.Common.{◌+◌, ℕ, List, [], get_or, take, sym, ap, ◌∙◌, subst, arith}
use Rattle.std.proofs.lemmas.List.{take_all}
use Rattle.std.proofs.lemmas.Option.{slice_get-get_or}
use Rattle.aig_base.proofs.lists.Gets.{Contains-from_get}
use Rattle.aig_why.specs.state.Naming.{StartsBy}
use Rattle.aig_why.proofs.StartLemmas.{AreFound, found_none, found_push, found_same}
use Rattle.aig_why.proofs.lines.starts.latches_that_start.Goals as goal
use Rattle.aig_why.proofs.lines.starts.latches_that_start.Goals.{then-starts_by_reset-by_reset+in_ok-push}
use Rattle.aig_why.proofs.lines.starts.latches_that_start.Goals.{else-starts_by_reset-by_reset}

pub loop-position-init : goal.loop-position-init
loop-position-init g c =
    let Is = StartsBy c.args.bench.now.pair c.args.resets.now in
    subst (AreFound Is c.args.by_reset []) (sym c.new-found.ensures.items) (found_none Is c.args.by_reset)

pub starts_by_reset-requires-clause-there : goal.starts_by_reset-requires-clause-there
starts_by_reset-requires-clause-there g c =
    let place = c.loop-position.position-index in
    let positions = c.args.positions.now in
    c.requires.there (get_or positions place 0)
    (Contains-from_get positions place (get_or positions place 0) (slice_get-get_or positions place 0 c.loop-position-test.true))

pub loop-position-preserved : goal.loop-position-preserved
loop-position-preserved g c =
    let Is = StartsBy c.args.bench.now.pair c.args.resets.now in
    let place = c.loop-position.position-index in
    let positions = c.args.positions.now in
    elim c.if-starts_by_reset-by_reset.branch [
      | then-starts_by_reset-by_reset+in_ok-push w ↦
          found_push Is c.args.by_reset positions c.loop-position.found.items _ place c.starts_by_reset.result
          c.loop-position-test.true c.loop-position.invariant c.starts_by_reset.ensures w.if-starts_by_reset-by_reset.true
          (ap (λ v. v.items) w.found-is ∙ w.in_ok-push.ensures.items)
      | else-starts_by_reset-by_reset w ↦
          subst (λ v. AreFound Is c.args.by_reset (take (place + 1) positions) v.items) (sym w.found-is)
          (found_same Is c.args.by_reset positions c.loop-position.found.items place c.starts_by_reset.result
          c.loop-position-test.true c.loop-position.invariant c.starts_by_reset.ensures w.if-starts_by_reset-by_reset.false)
    ]

pub returns : goal.returns
returns g c =
    subst (λ (ps : List ℕ). AreFound (StartsBy c.args.bench.now.pair c.args.resets.now) c.args.by_reset ps c.loop-position.found.items)
    (take_all c.loop-position.position-index c.args.positions.now (omega (arith, c.loop-position-test.false)))
    c.loop-position.invariant
