use Rattle.std.proofs.Common.{◌≡◌, ◌-◌, ◌∙◌, ℕ, inr, Some, get_or, ap, arith, nat_eq}
use Rattle.std.proofs.lemmas.Bool.Decides.{nat_tests}
use Rattle.std.proofs.lemmas.Option.{slice_get-get_or}
use Rattle.aig_sat.proofs.models.ModelLemmas.{line_begins, line_begun}
use Rattle.aig_sat.proofs.model.place.TextPlace.begins_line.Goals as goal

pub returns-else-self-eq0 : goal.returns-else-self-eq0
returns-else-self-eq0 c = (
  λ is.
      let e : get_or c.args.self.text.now (c.args.self.at - 1) 0 ≡ 10 = grind (arith, nat_tests, is) in
      line_begins c.args.self.text.now c.args.self.at
      (inr (
        omega (arith, c.if-self-eq0.false),
        slice_get-get_or c.args.self.text.now (c.args.self.at - 1) 0 (omega (arith, c.if-self-eq0.false, c.args.self.inside)) ∙ ap Some e,
      ))
      c.args.self.inside,
  λ begins.
      ap (λ (x : ℕ). nat_eq x 10)
      (line_begun c.args.self.text.now c.args.self.at (omega (arith, c.if-self-eq0.false)) c.args.self.inside begins),
)
