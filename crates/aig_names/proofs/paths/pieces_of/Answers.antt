use Rattle.std.proofs.Common.{ℕ, ◌-◌, ◌∷◌, List, [], take, drop, append-nil, sym, ap, ◌∙◌, arith}
use Rattle.aig_names.specs.Names.{cut_at}
use Rattle.aig_names.proofs.PathLemmas.{piece_cut, piece_last, pieces_more, same_piece, none_more}
use Rattle.aig_names.proofs.Words.{rest_is}
use Rattle.aig_names.proofs.paths.pieces_of.Goals as goal
use Rattle.aig_names.proofs.paths.pieces_of.Goals.{then-byte-eq46+in_ok-push, else-byte-eq46}

pub loop-place-preserved : goal.loop-place-preserved
loop-place-preserved c =
    let name = c.args.name.now in
    let h = c.loop-place.invariant in
    elim c.if-byte-eq46.branch [
      | then-byte-eq46+in_ok-push w ↦
          record {
            cut = pieces_more (λ b. b.now) c.loop-place.pieces.items c.if-byte-eq46.pieces.items _ _ _ _ (ap (λ v. v.items) w.pieces-is ∙ w.in_ok-push.ensures.items)
                (piece_cut name c.loop-place.start c.loop-place.place h.order c.loop-place-test.true h.none w.if-byte-eq46.true
                ∙ ap (λ (n : ℕ). take (c.loop-place.place - c.loop-place.start) (drop c.loop-place.start name) ∷ cut_at 46 (drop n name)) (sym w.start-is))
                h.cut;
            order = omega (arith, w.start-is);
            within = omega (arith, c.loop-place-test.true);
            none = λ k le lt. absurd (omega (arith, w.start-is));
          }
      | else-byte-eq46 w ↦
          record {
            cut = same_piece (λ b. b.now) c.loop-place.pieces.items c.if-byte-eq46.pieces.items _ _ _ (ap (λ v. v.items) w.pieces-is)
                (ap (λ (n : ℕ). cut_at 46 (drop n name)) (sym w.start-is)) h.cut;
            order = omega (arith, w.start-is, h.order);
            within = omega (arith, c.loop-place-test.true);
            none = λ k le lt. none_more name c.loop-place.start c.loop-place.place h.none w.if-byte-eq46.false k (omega (arith, w.start-is)) lt;
          }
    ]

pub returns : goal.returns
returns c =
    let name = c.args.name.now in
    let h = c.loop-place.invariant in
    sym (append-nil _)
    ∙ pieces_more (λ b. b.now) c.loop-place.pieces.items c.push-2.new.self.items _ _ [] _ c.in_ok-push-2.ensures.items
    (piece_last name c.loop-place.start (λ k le lt. h.none k le (omega (arith, c.loop-place-test.false)))
    ∙ ap (λ (p : List ℕ). p ∷ []) (sym (rest_is c.loop-place.start name (omega (arith, h.order, h.within))))) h.cut
