use Rattle.std.proofs.Common.{◌≡◌, ℕ, ◌+◌, List, [], ◌∷◌, ◌++◌, drop, sym, ap, ap₂, ◌∙◌, append_assoc}
use Rattle.std.proofs.lemmas.List.{append-nil, drop_all, drop_more}
use Rattle.aig_cut.specs.CutOf.{cut_constraints, demanded}
use Rattle.aig_cut.specs.state.Marks.{marked}
use Rattle.aig_cut.proofs.Walks.{constraints_more, constraints_none}
use Rattle.aig_cut.proofs.parts.cut_constraints.Goals as goal

pub loop-position-preserved : goal.loop-position-preserved
loop-position-preserved c =
    let cuts = marked c.args.marks.now in
    let xs : List ℕ = c.args.constraints.now in
    let p = c.loop-position.position in
    let x : ℕ = c.index-constraints-position.result in
    let rest : List ℕ = cut_constraints cuts (p + 1) (drop (p + 1) xs) in
    let at : drop p xs ≡ x ∷ drop (p + 1) xs =
    drop_more xs p x c.loop-position-test.true ∙ ap (λ (y : ℕ). y ∷ drop (p + 1) xs) (sym c.index-constraints-position.is) in
    let new : c.demanded-new.result ≡ demanded (cuts.constraints p) x =
    c.demanded-new.ensures ∙ ap (λ b. demanded b x) c.drops.ensures in
    c.loop-position.invariant
    ∙ ap (λ (ys : List ℕ). c.loop-position.cut ++ ys)
    (ap (cut_constraints cuts p) at ∙ constraints_more cuts p x (drop (p + 1) xs) ∙ ap (λ (y : ℕ). y ∷ rest) (sym new))
    ∙ sym (append_assoc c.loop-position.cut (c.demanded-new.result ∷ []) rest)
    ∙ ap (λ (ys : List ℕ). ys ++ rest) (sym c.in_ok-push.ensures.ok)

pub returns : goal.returns
returns c =
    let cuts = marked c.args.marks.now in
    let xs : List ℕ = c.args.constraints.now in
    let p = c.loop-position.position in
    sym (c.loop-position.invariant
    ∙ ap (λ (ys : List ℕ). c.loop-position.cut ++ ys)
    (ap (cut_constraints cuts p) (drop_all p xs c.loop-position-test.false) ∙ constraints_none cuts p)
    ∙ append-nil c.loop-position.cut)
