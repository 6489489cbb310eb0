use Rattle.std.proofs.Common.{◌≡◌, ℕ, List, [], ◌∷◌, ◌++◌, sym, ap, ◌∙◌, arith}
use Rattle.std.specs.List.{range_with_len}
use Rattle.std.proofs.lemmas.List.{map-id}
use Rattle.std.proofs.lemmas.List.FromFn.{map-range_with_len_more}
use Rattle.aig_base.proofs.select.all_positions.Goals as goal

pub loop-position-preserved : goal.loop-position-preserved
loop-position-preserved c =
    c.in_ok-push.ensures.items ∙ ap (λ (xs : List ℕ). xs ++ c.loop-position.position ∷ []) c.loop-position.invariant
    ∙ sym (map-range_with_len_more (λ (k : ℕ). k) 0 c.loop-position.position c.loop-position.position (omega arith))

pub returns : goal.returns
returns c =
    let end : c.loop-position.position ≡ c.args.count = omega (arith, c.loop-position-test.false, c.loop-position.auto.position-end) in
    c.loop-position.invariant ∙ map-id (range_with_len 0 c.loop-position.position) ∙ ap (range_with_len 0) end
