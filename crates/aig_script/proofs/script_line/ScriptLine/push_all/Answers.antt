use Rattle.std.proofs.Common.{ℕ, List, ◌∷◌, ◌++◌, [], take, get_or, subst, sym, ap, ◌∙◌, append_assoc}
use Rattle.std.proofs.lemmas.List.{take_all, take_more}
use Rattle.aig_script.specs.ScriptLine.{KeepsScriptLine}
use Rattle.aig_script.proofs.script_line.ScriptLine.push_all.Goals as goal

pub loop-byte-preserved : goal.loop-byte-preserved
loop-byte-preserved c =
    let xs = c.args.bytes.now in
    let i = c.loop-byte.byte-index in
    record {
      width = c.push.ensures.width ∙ c.loop-byte.invariant.width;
      keeps = λ line k.
          subst (λ (t : List ℕ). KeepsScriptLine t c.push.new.self)
          (append_assoc line (take i xs) (get_or xs i 0 ∷ [])
          ∙ ap (λ (t : List ℕ). line ++ t) (sym (take_more xs i 0 c.loop-byte-test.true)))
          (c.push.ensures.keeps (line ++ take i xs) (c.loop-byte.invariant.keeps line k));
    }

pub returns-clause-keeps : goal.returns-clause-keeps
returns-clause-keeps c = λ line k.
    let xs = c.args.bytes.now in
    let i = c.loop-byte.byte-index in
    subst (λ (t : List ℕ). KeepsScriptLine (line ++ t) c.loop-byte.self) (take_all i xs c.loop-byte-test.false)
    (c.loop-byte.invariant.keeps line k)
