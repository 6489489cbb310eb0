use Rattle.std.proofs.Common.{◌∙◌, Some, ap, refl, rules}
use Rattle.aig_sat.proofs.models.ModelLemmas.{comment_read}
use Rattle.aig_sat.proofs.models.RefusalLemmas.{no_line}
use Rattle.aig_sat.proofs.model.progress.Reader.take.Goals as goal

pub returns-then-is_comment : goal.returns-then-is_comment
returns-then-is_comment c =
    let is = c.is_comment.ensures.0 c.if-is_comment.true in
    record {
      goes_on = λ before.
          comment_read c.args.self.now c.args.place.text.now c.args.place.at c.line_end.result c.line_end.ensures.bounds.0
          c.line_end.ensures.bounds.1 (c.byte-first.ensures.is ∙ ap Some is.1) c.line_end.ensures.ended
          c.line_end.ensures.no_end (c.begins_line-begins.ensures.0 is.0) before;
      after = search rules;
      count = search rules;
      unsatisfiable = search rules;
      unknown = search rules;
      refused = search rules;
    }

pub returns-in-None : goal.returns-in-None
returns-in-None c = record {
  goes_on = tt;
  after = tt;
  count = search rules;
  unsatisfiable = search rules;
  unknown = search rules;
  refused = λ a is before values model.
      no_line c.args.self.now c.args.place.text.now c.args.place.at c.byte-first.result c.begins_line-begins.result
      c.is_comment.result c.may_answer.result c.byte-first.ensures.is c.begins_line-begins.ensures.1
      c.is_comment.ensures.1 c.may_answer.ensures.1 c.if-is_comment.false c.if-may_answer.false
      (c.in-None.ensures.refused refl before values model);
}
