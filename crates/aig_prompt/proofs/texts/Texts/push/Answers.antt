use Rattle.std.proofs.Common.{ℕ, List, [], ◌∷◌, ◌++◌, ap, ◌∙◌, arith}
use Rattle.aig_prompt.proofs.TextLemmas.{ends_pushed, text_pushed}
use Rattle.aig_prompt.proofs.texts.Texts.push.Goals as goal

pub invariant_of-self-2 : goal.invariant_of-self-2
invariant_of-self-2 c =
    ends_pushed c.self.inside.bytes.items c.self.inside.ends.items c.args.self.now c.self.view_is c.self.invariant c.args.text.now
    c.extend_from_slice.new.self.items c.push_reserved.new.self.items c.len-end.result c.in_ok-extend_from_slice.ensures.items
    (c.push_reserved.ensures.items ∙ ap (λ (es : List ℕ). es ++ c.len-end.result ∷ []) c.in_ok-reserve.ensures.items)
    (omega (arith, c.len-end.ensures, c.extend_from_slice.new.self.ok))

pub returns-clause-pushed : goal.returns-clause-pushed
returns-clause-pushed c =
    text_pushed c.self.inside.bytes.items c.self.inside.ends.items c.args.self.now c.self.view_is c.self.invariant c.args.text.now
    c.extend_from_slice.new.self.items c.push_reserved.new.self.items c.len-end.result c.in_ok-extend_from_slice.ensures.items
    (c.push_reserved.ensures.items ∙ ap (λ (es : List ℕ). es ++ c.len-end.result ∷ []) c.in_ok-reserve.ensures.items)
    (omega (arith, c.len-end.ensures, c.extend_from_slice.new.self.ok))
