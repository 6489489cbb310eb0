use Rattle.std.proofs.Common.{ℕ, List, [], ◌∷◌, ◌++◌, ap₂, sym, ◌∙◌, arith}
use Rattle.std.proofs.lemmas.List.FromFn.{map-range_with_len_more}
use Rattle.aig_certificate.specs.Strengthened.{own_position}
use Rattle.aig_certificate.proofs.OwnEntries.{count_more}
use Rattle.aig_certificate.proofs.symbols.own_positions.Goals as goal

pub loop-meaning-preserved : goal.loop-meaning-preserved
loop-meaning-preserved c =
    let v = c.loop-meaning.invariant in
    let ms = c.args.meanings.now in
    let i = c.loop-meaning.meaning-index in
    record {
      next = c.next_after-next.ensures
          ∙ count_more c.args.first c.loop-meaning.next ms i c.meaning-item.result c.loop-meaning-test.true c.meaning-item.is v.next;
      positions = c.in_ok-push.ensures.items
          ∙ ap₂ (λ (xs : List ℕ) (x : ℕ). xs ++ x ∷ []) v.positions v.next
          ∙ sym (map-range_with_len_more (own_position c.args.first ms) 0 i i (omega arith));
    }
