use Rattle.std.proofs.Common.{refl, rules}
use Rattle.aig_sat.specs.model.ModelText.{SaysUnsatisfiable, SaysUnknown}
use Rattle.aig_sat.proofs.models.ModelLemmas.{passed_fault, read_on, status_read, status_stands}
use Rattle.aig_sat.proofs.models.RefusalLemmas.{line_refused}
use Rattle.aig_sat.proofs.model.progress.Reader.take_line.Goals as goal

pub returns-in_err-check_answer : goal.returns-in_err-check_answer
returns-in_err-check_answer c = record {
  goes_on = search rules;
  after = search rules;
  count = search rules;
  unsatisfiable = λ is before.
      status_stands SaysUnsatisfiable c.args.self.now _ c.args.place.text.now c.args.place.at c.line_end-end.result
      c.line_end-end.ensures.bounds.0 c.line_end-end.ensures.bounds.1 c.line_end-end.ensures.ended c.requires.begins
      c.requires.before c.args.self.now.count
      (c.check_answer.ensures.unsatisfiable
      (passed_fault c.check_answer.result c.from_residual.result c.in_err-check_answer.field-0.0 _
      (c.in_err-check_answer.was) c.from_residual.ensures.1 is)) before;
  unknown = λ is before.
      status_stands SaysUnknown c.args.self.now _ c.args.place.text.now c.args.place.at c.line_end-end.result
      c.line_end-end.ensures.bounds.0 c.line_end-end.ensures.bounds.1 c.line_end-end.ensures.ended c.requires.begins
      c.requires.before c.args.self.now.count
      (c.check_answer.ensures.unknown
      (passed_fault c.check_answer.result c.from_residual.result c.in_err-check_answer.field-0.0 _
      (c.in_err-check_answer.was) c.from_residual.ensures.1 is)) before;
  refused = λ a is before values model.
      line_refused _ c.args.self.now c.args.place.text.now c.args.place.at values c.args.self.now.small c.args.self.now.count before model
      c.line_end-end.result 10 c.line_end-end.ensures.bounds.0 c.line_end-end.ensures.bounds.1 c.line_end-end.ensures.ended refl
      c.line_end-end.ensures.no_end c.requires.first
      (c.check_answer.ensures.refused a
      (passed_fault c.check_answer.result c.from_residual.result c.in_err-check_answer.field-0.0 _
      (c.in_err-check_answer.was) c.from_residual.ensures.1 is));
}

pub returns : goal.returns
returns c = record {
  goes_on = λ before.
      read_on c.args.place.text.now c.args.place.at c.line_end-end.result 10 c.line_end-end.ensures.bounds.0 c.line_end-end.ensures.bounds.1
      c.line_end-end.ensures.ended c.args.self.now _ before
      (λ literals h.
      status_read c.args.self.now _ _ c.requires.before refl refl c.in_ok-check_answer.ensures.satisfiable _ literals
      c.requires.begins h);
  after = search rules;
  count = search rules;
  unsatisfiable = search rules;
  unknown = search rules;
  refused = search rules;
}
