use Rattle.std.proofs.Common.{ℕ, List, Option, ap₂, sym, ◌∙◌, arith}
use Rattle.std.proofs.lemmas.List.{take_all}
use Rattle.aig_certificate.specs.Strengthened.{own}
use Rattle.aig_certificate.proofs.OwnEntries.{own-nothing, taken_none, taken_some}
use Rattle.aig_certificate.proofs.parts.own.Goals as goal
use Rattle.aig_certificate.proofs.parts.own.Goals.{then-is_none+in_ok-push, else-is_none}

pub loop-place-init : goal.loop-place-init
loop-place-init g c = c.new-list.ensures ∙ sym (own-nothing {A = g.row.T.Denot})

pub loop-place-preserved : goal.loop-place-preserved
loop-place-preserved g c = elim c.if-is_none.branch [
  | then-is_none+in_ok-push w ↦
      taken_none {A = g.row.T.Denot} c.args.meanings.now c.args.entries.now c.loop-place.list c.if-is_none.list c.loop-place.place
      c.index-meanings-place.result w.index-entries-place.result c.requires c.loop-place-test.true c.index-meanings-place.is
      w.if-is_none.ensures w.index-entries-place.is c.loop-place.invariant (w.list-is ∙ w.in_ok-push.ensures.ok)
  | else-is_none w ↦
      w.list-is
      ∙ taken_some {A = g.row.T.Denot} c.args.meanings.now c.args.entries.now c.loop-place.list c.loop-place.place
      c.index-meanings-place.result c.requires c.loop-place-test.true c.index-meanings-place.is w.if-is_none.ensures
      c.loop-place.invariant
]

pub returns : goal.returns
returns g c =
    c.loop-place.invariant
    ∙ ap₂ (λ (ms : List (Option ℕ)) (xs : List g.row.T.Denot). own ms xs)
    (take_all c.loop-place.place c.args.meanings.now (omega (arith, c.requires, c.loop-place-test.false)))
    (take_all c.loop-place.place c.args.entries.now c.loop-place-test.false)
