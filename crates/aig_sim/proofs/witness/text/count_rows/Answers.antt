use Rattle.std.specs.Prelude.{List, ℕ, not}
use lib.Pointwise.{pointwise}
use lib.Dec.{eqb}
use Rattle.std.proofs.lemmas.Bool.{false≢true}
use Rattle.std.proofs.Common.{[], sym, ◌∷◌, length, map, ap, ◌∙◌, arith}
use Rattle.std.proofs.lemmas.List.{length-append}
use Rattle.aig_bytes.proofs.Results.{on_none}
use Rattle.aig_values.specs.Characters.{character}
use Rattle.aig_sim.proofs.WitnessLemmas.{no_frames, rows_more}
use Rattle.aig_sim.proofs.witness.text.count_rows.Goals as goal

pub returns-in_err-rest-clause-none : goal.returns-in_err-rest-clause-none
returns-in_err-rest-clause-none c =
    let (rows, len, widths, is) = c.loop-rest.invariant.so_far in
    on_none c.from_residual.result (λ rows' h. no_frames c.args.width c.args.text.now c.loop-rest.rest.now rows rows' widths is
    (λ e. false≢true (sym (c.ne.ensures ∙ ap (λ (xs : List ℕ). not (pointwise eqb xs (46 ∷ (10 ∷ [])))) e)
    ∙ c.loop-rest-test.true)) c.in_err-rest.ensures.none h)

pub loop-rest-preserved : goal.loop-rest-preserved
loop-rest-preserved c =
    let (rows, len, widths, is) = c.loop-rest.invariant.so_far in
    let (row, wide, begins) = c.in_ok-rest.ensures.some in
    record {
      so_far = rows_more c.args.width c.args.text.now c.loop-rest.rest.now c.in_ok-rest.rest.now rows row c.loop-rest.frames
          widths len is wide begins;
      bound = omega (
        arith,
        c.loop-rest.invariant.bound,
        ap length begins ∙ length-append (map character row) (10 ∷ c.in_ok-rest.rest.now),
      );
    }
