use Rattle.std.proofs.Common.{◌≡◌, ◌≢◌, Some, refl, ap, ◌∙◌, arith}
use Rattle.std.proofs.lemmas.Option.{slice_get_read}
use Rattle.aig_base.proofs.circuits.Entering.{enter_new, enter_again}
use Rattle.aig_base.proofs.check.entries.Entries.enter.Goals as goal

pub returns-then-index-eq0 : goal.returns-then-index-eq0
returns-then-index-eq0 c = λ max_var done h is.
    let table = c.args.self.now.table.items in
    let none : c.index.result.now ≡ 0 = omega arith in
    let at = slice_get_read table _ c.args.variable c.index.result.now refl c.requires c.index.ensures in
    enter_new max_var done table c.args.self.now.again c.args.variable h c.args.number (at ∙ ap Some none) is

pub returns-else-index-eq0 : goal.returns-else-index-eq0
returns-else-index-eq0 c = λ max_var done h is.
    let table = c.args.self.now.table.items in
    let some : c.index.result.now ≢ 0 = λ e. omega arith in
    let at = slice_get_read table _ c.args.variable c.index.result.now refl c.requires c.index.ensures in
    rw c.lesser-self.ensures
    (enter_again max_var done table c.args.self.now.again c.args.variable h c.index.result.now at some)
