-- The run that is in a row, and the row of a run.
use Rattle.std.proofs.Common.{◌≡◌, ◌≢◌, ℕ, ◌+◌, ◌*◌, List, ◌++◌, length, flat_map, drop, All, refl, sym, ◌∙◌, ap, ap₂}
use Rattle.std.proofs.Common.{arith}
use Rattle.std.proofs.Common.{length-append, length-drop}
use Rattle.std.proofs.lemmas.List.{drop_at}
use Rattle.std.proofs.lemmas.List.Elements.{All-append, All-drop}
use Rattle.aig_parts.specs.declared.raw.Raw.{Raw}
use Rattle.aig_parts.specs.declared.ternary.Tern.{Tern}
use Rattle.aig_parts.specs.declared.ternary.Tern.TheVariants.{X}
use Rattle.aig_base.specs.Sound.{IsReset}
use Rattle.aig_unroll.specs.FrameLiteral.{input_count, uninitialised}
use Rattle.aig_unroll.specs.UnrolledValues.{free_values, unrolled_row}
use Rattle.aig_unroll.proofs.UnrolledRow.{length-flat}
use Rattle.aig_refute.specs.Models.{AreKnown}
use Rattle.aig_refute.specs.Satisfiable.{IsKnownRun}
use Rattle.aig_refute.specs.UnrolledWitness.{cut, filled, rows_in, start_in, IsRun, HoldsRun}
use Rattle.aig_refute.proofs.RowValues.{length-cut, cut_wide, cut_all, cut_flat, length-filled, length-free, free_filled}
use Rattle.aig_refute.proofs.RowValues.{filled_free, filled_allowed}
use Rattle.aig_refute.proofs.RowValues.{cut_known, filled_known, flat_known, free_known}

module _ (raw : Raw) (k : ℕ) (row : List Tern) (width : length row ≡ input_count raw k) where
  values_left : length (drop (k * length raw.inputs) row) ≡ uninitialised raw.latches
  values_left = omega (arith, length-drop (k * length raw.inputs) row, width)

  pub run_in : IsRun raw k (start_in raw k row) (rows_in raw k row)
  run_in = record {
    frames = length-cut (length raw.inputs) k row;
    fits = record {
      latches = length-filled raw.latches (drop (k * length raw.inputs) row);
      inputs = cut_wide (length raw.inputs) k row (omega (arith, width));
    };
    allowed = filled_allowed raw.latches (drop (k * length raw.inputs) row);
  }

  pub row_in : HoldsRun raw k row (start_in raw k row) (rows_in raw k row)
  row_in = record {
    start_is = refl;
    rows_are = refl;
    row_is = ap (λ (vs : List Tern). flat_map (λ r. r) (rows_in raw k row) ++ vs)
        (free_filled raw.latches (drop (k * length raw.inputs) row) values_left)
        ∙ cut_all (length raw.inputs) k row;
  }

  -- where the row has no x, the run has none
  pub known_in : All IsReset raw.latches → AreKnown row → IsKnownRun (start_in raw k row) (rows_in raw k row)
  known_in resets all = record {
    start_known = filled_known raw.latches (drop (k * length raw.inputs) row) resets values_left
        (All-drop (λ (w : Tern). w ≢ X) (k * length raw.inputs) row all);
    rows_known = cut_known (length raw.inputs) k row all;
  }

module _ (raw : Raw) (k : ℕ) (start : List Tern) (rows : List (List Tern)) (run : IsRun raw k start rows) where
  flat_long : length (flat_map (λ (row : List Tern). row) rows) ≡ k * length raw.inputs
  flat_long = length-flat (length raw.inputs) rows run.fits.inputs ∙ ap (λ n. n * length raw.inputs) run.frames

  pub row_wide : length (unrolled_row raw start rows) ≡ input_count raw k
  row_wide =
      length-append (flat_map (λ row. row) rows) (free_values raw.latches start)
      ∙ ap₂ (λ m n. m + n) flat_long (length-free raw.latches start run.fits.latches)

  pub row_of_run : HoldsRun raw k (unrolled_row raw start rows) start rows
  row_of_run = record {
    start_is = ap (filled raw.latches) (drop_at (flat_map (λ row. row) rows)
        (free_values raw.latches start) (k * length raw.inputs) flat_long)
        ∙ filled_free raw.latches start run.fits.latches run.allowed;
    rows_are = ap (λ n. cut (length raw.inputs) n (unrolled_row raw start rows)) (sym run.frames)
        ∙ cut_flat (length raw.inputs) rows (free_values raw.latches start) run.fits.inputs;
    row_is = refl;
  }

-- where a run has no x, its row has none
pub row_known : (raw : Raw) (start : List Tern) (rows : List (List Tern)) → IsKnownRun start rows
    → AreKnown (unrolled_row raw start rows)
row_known raw start rows known =
    All-append (λ (w : Tern). w ≢ X) (flat_map (λ (r : List Tern). r) rows) (free_values raw.latches start)
    (flat_known rows known.rows_known) (free_known raw.latches start known.start_known)
