use Rattle.std.proofs.Common.{◌++◌, replicate, List, ap, ◌∙◌, length, sym, subst, arith}
use Rattle.aig_parts.specs.declared.ternary.Tern.{Tern}
use Rattle.aig_parts.specs.declared.ternary.Tern.TheVariants.{X}
use Rattle.aig_values.specs.state.Words.{spelled, AreWhole}
use Rattle.aig_values.proofs.WordLemmas.{length-spelled, spelled_more, whole_more}
use Rattle.aig_values.proofs.row.plane_row.PlaneRowCellRow.make_room.Goals as goal

pub returns-in_ok-push-clause-cells : goal.returns-in_ok-push-clause-cells
returns-in_ok-push-clause-cells c = (
  32,
  ap spelled c.in_ok-push.ensures.items ∙ spelled_more c.self.inside.words.items
      ∙ ap (λ (row : List Tern). row ++ replicate 32 X) c.self.view_is,
)

pub invariant_of-self : goal.invariant_of-self
invariant_of-self c = subst AreWhole (sym c.in_ok-push.ensures.items) (whole_more c.self.inside.words.items c.self.invariant)

pub returns-in_ok-push-clause-ok : goal.returns-in_ok-push-clause-ok
returns-in_ok-push-clause-ok c =
    let old = length-spelled c.self.inside.words.items in
    let new = length-spelled c.push.new.self.items in
    let was = ap (λ (row : List Tern). length row) c.self.view_is in
    let more = c.in_ok-push.ensures.len in
    let limit = c.requires.more in
    let fewer = c.if-len-word_count.true in
    let few = c.word_count.ensures.most in
    omega arith

pub returns-else-len-word_count-clause-ok : goal.returns-else-len-word_count-clause-ok
returns-else-len-word_count-clause-ok c =
    let old = length-spelled c.self.inside.words.items in
    let was = ap (λ (row : List Tern). length row) c.self.view_is in
    let test = c.if-len-word_count.false in
    let enough = c.word_count.ensures.least in
    omega arith
