use Rattle.std.proofs.Common.{ℕ, List, [], ◌∷◌, ◌++◌, ap, ◌∙◌, codes, decimal}
use Rattle.std.proofs.lemmas.Result.{on_ok_weaker}
use Rattle.aig_parts.specs.declared.symbols.Kind.TheVariants.{Bad}
use Rattle.aig_signals.specs.Names.{position_name}
use Rattle.aig_shell.proofs.reached.Checking.{grown}
use Rattle.aig_shell.proofs.files.push_reached.Goals as goal

pub returns : goal.returns
returns c =
    let mid = c.push_position.new.text.items in
    let file = c.args.file.now in
    on_ok_weaker c.push_pieces.result (λ more.
    grown c.args.text.now.items mid c.push_pieces.new.text.items (position_name Bad c.args.reached.property)
    (codes " at " ++ (decimal c.args.reached.frame ++ (codes ": " ++ (file ++ 10 ∷ []))))
    c.in_ok-push_position.ensures
    (more ∙ ap (λ (n : ℕ). mid ++ (codes " at " ++ (decimal n ++ (codes ": " ++ (file ++ 10 ∷ []))))) c.from.ensures))
    c.push_pieces.ensures
