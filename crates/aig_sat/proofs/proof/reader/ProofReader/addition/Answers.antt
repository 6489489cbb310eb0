use Rattle.std.proofs.Common.{ℕ, List, subst, rules}
use Rattle.std.proofs.lemmas.Result.{on_ok_weaker}
use Rattle.aig_sat.specs.proof.Steps.{AreRenamed, text_to_come}
use Rattle.aig_sat.proofs.models.ModelLemmas.{passed_fault}
use Rattle.aig_sat.proofs.reading.HintedLemmas.{addition_taken}
use Rattle.aig_sat.proofs.reading.HintedRefusals.{addition_begins, hints_after}
use Rattle.aig_sat.proofs.proof.reader.ProofReader.addition.Goals as goal

pub returns-clause-taken : goal.returns-clause-taken
returns-clause-taken g c =
    let left = g.R.Read.left in
    let formula = c.self.inside.names.formula in
    let meant : AreRenamed formula c.read_clause.new.clause.items c.rename.new.clause.items =
    subst (λ (xs : List ℕ). AreRenamed formula xs c.rename.new.clause.items) c.deref.ensures.value
    c.in_ok-rename.ensures.renamed in
    rw (← c.self.view_is) (on_ok_weaker c.read_clause-2.result
    (λ last. addition_taken formula c.self.inside.bytes c.read_clause.new.bytes c.read_clause-2.new.bytes
    (left c.args.reader.now) (left c.read_clause.new.reader) (left c.read_clause-2.new.reader)
    c.read_clause.new.clause.items c.rename.new.clause.items c.read_clause-2.new.clause.items
    c.in_ok-read_clause.ensures.spelled meant last)
    c.read_clause-2.ensures.spelled)

pub returns-in_err-read_clause-clause-refused : goal.returns-in_err-read_clause-clause-refused
returns-in_err-read_clause-clause-refused g c =
    let a = c.self.inside.bytes in
    let o = text_to_come a (g.R.Read.left c.args.reader.now) in
    rw (← c.self.view_is) (record {
      count = search rules;
      refused = λ at is positive h. c.read_clause.ensures.refused.refused at
          (passed_fault c.read_clause.result c.from_residual.result c.in_err-read_clause.field-0.0 _ c.in_err-read_clause.was
          c.from_residual.ensures.1 is)
          (addition_begins o a.previous h);
    })

pub returns-clause-refused : goal.returns-clause-refused
returns-clause-refused g c =
    let left = g.R.Read.left in
    let a = c.self.inside.bytes in
    let b = c.read_clause.new.bytes in
    let (xs, spelled, took) = c.in_ok-read_clause.ensures.spelled in
    rw (← c.self.view_is) (record {
      count = search rules;
      refused = λ at is positive h. c.read_clause-2.ensures.refused.refused at is
          (hints_after (text_to_come a (left c.args.reader.now)) (text_to_come b (left c.read_clause.new.reader)) a.previous b.previous xs
          c.read_clause.new.clause.items took.come took.previous spelled h);
    })
