use Rattle.std.proofs.Common.{◌≡◌, ◌≢◌, ℕ, ◌+◌, ◌-◌, List, ◌∷◌, ◌++◌, All, get_or, length, length-drop, take, drop, sym}
use Rattle.std.proofs.Common.{ap, subst, ◌∙◌, arith}
use Rattle.std.proofs.lemmas.List.{drop_more, take-append-drop, take_all}
use Rattle.std.proofs.lemmas.Option.{get_or_from_slice_get}
use Rattle.aig_cut.proofs.line.split_line.Goals as goal

pub returns-then-end-text-clause-none : goal.returns-then-end-text-clause-none
returns-then-end-text-clause-none c =
    subst (λ (xs : List ℕ). All (λ b. b ≢ 10) xs)
    (take_all c.line_length-end.result c.args.text.now (omega (arith, c.if-end-text.true))) c.line_length-end.ensures.no_end

pub returns-else-end-text-clause-split : goal.returns-else-end-text-clause-split
returns-else-end-text-clause-split c =
    let xs : List ℕ = c.args.text.now in
    let n : ℕ = c.line_length-end.result in
    let is_end : get_or xs n 0 ≡ 10 =
    get_or_from_slice_get xs n 10 0 (c.line_length-end.ensures.ended (omega (arith, c.if-end-text.false, c.line_length-end.ensures.bound))) in
    let rest : take (length xs - (n + 1)) (drop (n + 1) xs) ≡ drop (n + 1) xs =
    take_all (length xs - (n + 1)) (drop (n + 1) xs) (omega (arith, length-drop (n + 1) xs)) in
    sym (ap (λ (t : List ℕ). take n xs ++ 10 ∷ t) rest
    ∙ ap (λ (b : ℕ). take n xs ++ b ∷ drop (n + 1) xs) (sym is_end)
    ∙ ap (λ (t : List ℕ). take n xs ++ t) (sym (drop_more xs n 0 (omega (arith, c.if-end-text.false, c.line_length-end.ensures.bound))))
    ∙ take-append-drop n xs)
