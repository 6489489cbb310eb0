use Rattle.std.proofs.Common.{ℕ, List, subst, rules}
use Rattle.aig_sat.specs.proof.Steps.{text_to_come}
use Rattle.aig_sat.proofs.models.ModelLemmas.{passed_fault}
use Rattle.aig_sat.specs.proof.HintedText.{ArePositive}
use Rattle.aig_sat.proofs.reading.HintedLemmas.{numbers_taken}
use Rattle.aig_sat.proofs.reading.HintedRefusals.{numbers_begin, numbers_refused}
use Rattle.aig_sat.proofs.proof.reader.ProofReader.deletion.Goals as goal

pub returns-clause-taken : goal.returns-clause-taken
returns-clause-taken g c =
    let left = g.R.Read.left in
    let positive : ArePositive c.read_clause.new.clause.items =
    subst ArePositive c.deref.ensures.value (c.are_positive.ensures.positive c.if-not-are_positive.false) in
    rw (← c.self.view_is) (numbers_taken c.self.inside.bytes c.read_clause.new.bytes (left c.args.reader.now)
    (left c.read_clause.new.reader) c.read_clause.new.clause.items c.in_ok-read_clause.ensures.spelled positive)

pub returns-in_err-read_clause-clause-refused : goal.returns-in_err-read_clause-clause-refused
returns-in_err-read_clause-clause-refused g c =
    let a = c.self.inside.bytes in
    let o = text_to_come a (g.R.Read.left c.args.reader.now) in
    rw (← c.self.view_is) (record {
      count = search rules;
      refused = λ at is h. c.read_clause.ensures.refused.refused at
          (passed_fault c.read_clause.result c.from_residual.result c.in_err-read_clause.field-0.0 _ c.in_err-read_clause.was
          c.from_residual.ensures.1 is)
          (numbers_begin o a.previous h);
    })

pub returns-then-not-are_positive-clause-refused : goal.returns-then-not-are_positive-clause-refused
returns-then-not-are_positive-clause-refused g c =
    let left = g.R.Read.left in
    let a = c.self.inside.bytes in
    let b = c.read_clause.new.bytes in
    let numbers = c.read_clause.new.clause.items in
    let negative : ArePositive numbers → ⊥ =
    subst (λ (xs : List ℕ). ArePositive xs → ⊥) c.deref.ensures.value (c.are_positive.ensures.negative c.if-not-are_positive.true) in
    let (xs, spelled, took) = c.in_ok-read_clause.ensures.spelled in
    rw (← c.self.view_is) (record {
      count = search rules;
      refused = λ at is h. numbers_refused (text_to_come a (left c.args.reader.now))
          (text_to_come b (left c.read_clause.new.reader)) a.previous xs numbers took.come spelled negative h;
    })
