use Rattle.aig_sat.specs.proof.Steps.{bytes_to_come}
use Rattle.aig_sat.proofs.models.ModelLemmas.{passed_fault}
use Rattle.aig_sat.proofs.reading.BytesRefusals.{literal_goes_on, literal_refused, literals_begin}
use Rattle.std.proofs.Common.{◌≡◌, ◌∙◌, ◌+◌, [], ℕ, List, sym, subst, arith, rules}
use Rattle.std.proofs.lemmas.Bool.Decides.{nat_tests}
use Rattle.aig_sat.specs.proof.ProofBytes.{SpellsLiterals}
use Rattle.aig_sat.proofs.reading.TakingLemmas.{groups_zero, half_is, literal_on}
use Rattle.aig_sat.proofs.proof.binary.binary_literal.Goals as goal

pub returns-then-number-eq0-clause-literal : goal.returns-then-number-eq0-clause-literal
returns-then-number-eq0-clause-literal g c =
    let (taken, groups, took) = c.in_ok-number.ensures.number in (
      taken,
      subst (λ (xs : List ℕ). SpellsLiterals xs []) (sym (groups_zero groups c.if-number-eq0.true)) SpellsLiterals.end,
      took,
    )

pub returns-in-Some-clause-literal : goal.returns-in-Some-clause-literal
returns-in-Some-clause-literal g c =
    let (taken, groups, took) = c.in_ok-number.ensures.number in
    let n = c.in_ok-number.number in
    let l = c.in-Some.literal in
    let e : l + 2 ≡ n = c.in-Some.ensures.number ∙ half_is n _ (λ k. grind (arith, nat_tests, k)) (λ k. grind (arith, nat_tests, k)) in
    (taken, literal_on l n taken e c.in-Some.ensures.variable groups, took)

pub returns-in_err-number-clause-refused : goal.returns-in_err-number-clause-refused
returns-in_err-number-clause-refused g c = record {
  count = search rules;
  lowers = search rules;
  refused = λ at is.
      literals_begin (bytes_to_come c.args.bytes.now (g.R.Read.left c.args.reader.now)) (c.binary_number.ensures.refused.refused at (passed_fault c.binary_number.result c.from_residual.result c.in_err-number.field-0.0 _ c.in_err-number.was c.from_residual.ensures.1 is));
}

pub returns-in-Some-clause-goes_on : goal.returns-in-Some-clause-goes_on
returns-in-Some-clause-goes_on g c =
    let (taken, groups, took) = c.in_ok-number.ensures.number in
    let n = c.in_ok-number.number in
    let l = c.in-Some.literal in
    let e : l + 2 ≡ n = c.in-Some.ensures.number ∙ half_is n _ (λ k. grind (arith, nat_tests, k)) (λ k. grind (arith, nat_tests, k)) in
    literal_goes_on (bytes_to_come c.args.bytes.now (g.R.Read.left c.args.reader.now)) (bytes_to_come c.binary_number.new.bytes (g.R.Read.left c.binary_number.new.reader)) n l taken took groups e

pub returns-in-None-clause-refused : goal.returns-in-None-clause-refused
returns-in-None-clause-refused g c = record {
  count = search rules;
  lowers = search rules;
  refused = λ at is.
      let (taken, groups, took) = c.in_ok-number.ensures.number in
      literal_refused (bytes_to_come c.args.bytes.now (g.R.Read.left c.args.reader.now)) (bytes_to_come c.binary_number.new.bytes (g.R.Read.left c.binary_number.new.reader)) c.in_ok-number.number taken took groups (omega (arith, c.if-number-eq0.false))
      (c.literal_of.ensures.none c.in-None.is);
}
