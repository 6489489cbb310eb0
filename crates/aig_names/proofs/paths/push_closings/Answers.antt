use Rattle.std.proofs.Common.{◌++◌, ◌∷◌, [], ℕ, List, append-nil, sym, ap, ◌∙◌}
use Rattle.std.specs.Prelude.{codes}
use Rattle.aig_names.specs.Header.{closings}
use Rattle.aig_names.proofs.PathLemmas.{append_then, closings_none, closings_more}
use Rattle.aig_names.proofs.paths.push_closings.Goals as goal

pub loop-closed-init : goal.loop-closed-init
loop-closed-init c =
    let old = c.args.text.now.items in
    sym (ap (λ (xs : List ℕ). old ++ xs) closings_none ∙ append-nil old)

pub loop-closed-preserved : goal.loop-closed-preserved
loop-closed-preserved c =
    let old = c.args.text.now.items in
    append_then old c.loop-closed.text.items c.extend_from_slice.new.self.items (closings c.loop-closed._closed) (codes "$upscope $end" ++ 10 ∷ [])
    c.loop-closed.invariant c.in_ok-extend_from_slice.ensures.items
    ∙ ap (λ (xs : List ℕ). old ++ xs) (closings_more c.loop-closed._closed)
