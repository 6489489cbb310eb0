use Rattle.std.proofs.Common.{sym, ap, ◌∙◌, length}
use Rattle.std.proofs.lemmas.List.{nil_from_length}
use Rattle.aig_bytes.proofs.Results.{on_none}
use Rattle.aig_sim.specs.WitnessText.{witness_rows_text}
use Rattle.aig_sim.proofs.WitnessLemmas.{same_line, one_rows}
use Rattle.aig_sim.proofs.witness.text.body_of.Goals as goal

pub returns-in_err-frames-clause-none : goal.returns-in_err-frames-clause-none
returns-in_err-frames-clause-none c =
    let (row, len, is) = c.in_ok-rows.ensures.some in
    on_none c.from_residual-in_err-frames.result (λ start rows e some widths text_is.
    c.in_err-frames.ensures.none rows (record {
      widths = widths;
      text_is = (same_line c.args.text.now row start c.in_ok-rows.rows.now (witness_rows_text rows) is text_is).1;
    }))

pub returns-then-frames-eq0-clause-none : goal.returns-then-frames-eq0-clause-none
returns-then-frames-eq0-clause-none c =
    let (row, len, is) = c.in_ok-rows.ensures.some in
    let (rows', count, spells) = c.in_ok-frames.ensures.some in
    λ start rows e some widths text_is.
    let same = one_rows c.args.inputs c.in_ok-rows.rows.now rows' rows spells (record {
      widths = widths;
      text_is = (same_line c.args.text.now row start c.in_ok-rows.rows.now (witness_rows_text rows) is text_is).1;
    }) in
    some (nil_from_length rows (ap length (sym same) ∙ count ∙ c.if-frames-eq0.true))
