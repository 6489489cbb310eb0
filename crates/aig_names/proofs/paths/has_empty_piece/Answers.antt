use Rattle.std.proofs.Common.{ℕ, List, drop, length, sym, ap, ◌∙◌, arith}
use Rattle.std.specs.Prelude.{◌==◌}
use Rattle.aig_names.specs.Names.{cut_at}
use Rattle.aig_names.specs.Paths.{has_empty}
use Rattle.aig_names.proofs.PathLemmas.{filled_piece, rest_piece, none_more}
use Rattle.aig_names.proofs.Words.{rest_is}
use Rattle.aig_names.proofs.paths.has_empty_piece.Goals as goal
use Rattle.aig_names.proofs.paths.has_empty_piece.Goals.{then-byte-eq46+else-place-start, else-byte-eq46}

pub loop-place-preserved : goal.loop-place-preserved
loop-place-preserved c =
    let name = c.args.name.now in
    let h = c.loop-place.invariant in
    elim c.if-byte-eq46.branch [
      | then-byte-eq46+else-place-start w ↦
          record {
            cut = ap (λ (n : ℕ). has_empty (cut_at 46 (drop n name))) w.start-is
                ∙ sym (filled_piece name c.loop-place.start c.loop-place.place (omega (arith, h.order, w.if-place-start.false))
                c.loop-place-test.true h.none w.if-byte-eq46.true)
                ∙ h.cut;
            order = omega (arith, w.start-is);
            within = omega (arith, c.loop-place-test.true);
            none = λ k le lt. absurd (omega (arith, w.start-is));
          }
      | else-byte-eq46 w ↦
          record {
            cut = ap (λ (n : ℕ). has_empty (cut_at 46 (drop n name))) w.start-is ∙ h.cut;
            order = omega (arith, w.start-is, h.order);
            within = omega (arith, c.loop-place-test.true);
            none = λ k le lt. none_more name c.loop-place.start c.loop-place.place h.none w.if-byte-eq46.false k (omega (arith, w.start-is)) lt;
          }
    ]

pub returns : goal.returns
returns c =
    let name = c.args.name.now in
    let h = c.loop-place.invariant in
    c.is_empty.ensures ∙ ap (λ (xs : List ℕ). length xs == 0) (rest_is c.loop-place.start name (omega (arith, h.order, h.within)))
    ∙ sym (rest_piece name c.loop-place.start (λ k le lt. h.none k le (omega (arith, c.loop-place-test.false)))) ∙ h.cut
