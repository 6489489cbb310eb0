use Rattle.std.proofs.Common.{refl, inl}
use Rattle.std.specs.Prelude.{[], ◌∷◌}
use Rattle.aig_bench.specs.Edit.{add_frame}
use Rattle.aig_script.specs.Command.{edit}
use Rattle.aig_script.specs.Replies.{edit_reply}
use Rattle.aig_script.specs.state.Faults.{row_fault_reply}
use Rattle.aig_script.proofs.RowLines.{row_line, wrong_row_reply}
use Rattle.aig_script.proofs.RunLemmas.{edit_reply_of, excused}
use Rattle.aig_script.proofs.reply.append.Goals as goal

pub returns-in-Ok : goal.returns-in-Ok
returns-in-Ok g c =
    let row = c.args.row.now in
    let is = c.in-Ok.ensures.row in
    let p = c.args.bench.now.pair in (
      edit_reply c.add_frame.result,
      λ text k. inl (
        edit (add_frame c.in-Ok.values.now),
        tt,
        row_line row.width text row.shape row.values c.in-Ok.values.now is.0 is.1 k,
        edit_reply_of p (add_frame c.in-Ok.values.now) c.add_frame.result c.add_frame.new.self.pair (c.add_frame.ensures.edits, excused c.add_frame.result),
      ),
      c.write_edit.ensures,
    )

pub returns-in-Err : goal.returns-in-Err
returns-in-Err g c =
    let row = c.args.row.now in
    let wrong = c.in-Err.ensures in (
      row_fault_reply c.in-Err.fault,
      λ text k. wrong_row_reply c.args.bench.now.pair row.width 0 text (10 ∷ []) c.in-Err.fault c.requires wrong.of_line
          (wrong.fault 0 text (10 ∷ []) refl k ([], refl)),
      c.write_row_fault.ensures,
    )
