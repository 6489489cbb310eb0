use Rattle.std.proofs.Common.{◌≡◌, ℕ, ◌-◌, List, [], ◌∷◌, ◌++◌, length, take, drop, sym, ap, subst, ◌∙◌, arith}
use Rattle.std.proofs.lemmas.List.{take_all, length-drop}
use Rattle.aig_script.specs.ScriptLine.{KeepsScriptLine}
use Rattle.aig_script.proofs.ScriptLines.{no_line}
use Rattle.aig_script.proofs.script_line.ScriptLine.extend.Goals as goal

pub returns-then-begins_row-clause-keeps : goal.returns-then-begins_row-clause-keeps
returns-then-begins_row-clause-keeps c = λ line k.
    let xs = c.args.bytes.now in
    let fresh = c.is_fresh.ensures c.if-is_fresh.true in
    let nothing : line ≡ [] = no_line line c.args.self.now fresh.0 fresh.1 k in
    let (rest, is) = c.begins_row.ensures.row.0 c.if-begins_row.true in
    let piece : take (length xs - 2) (drop 2 xs) ≡ rest =
    take_all (length xs - 2) (drop 2 xs) (omega (arith, length-drop 2 xs)) ∙ ap (drop 2) is in
    subst (λ (t : List ℕ). KeepsScriptLine t c.extend_row.new.self)
    (sym (ap (λ (l : List ℕ). l ++ xs) nothing ∙ is ∙ ap (λ (r : List ℕ). 43 ∷ (32 ∷ r)) (sym piece)))
    (c.extend_row.ensures.keeps (43 ∷ (32 ∷ [])) c.begin_row.ensures.keeps)
