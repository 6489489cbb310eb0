use Rattle.std.proofs.Common.{◌≡◌, List, ℕ, length, sym, ap, ◌∙◌, arith}
use Rattle.aig_prompt.proofs.TextLemmas.{texts_size}
use Rattle.aig_prompt.proofs.texts.Texts.len.Goals as goal

pub returns : goal.returns
returns c =
    let size : c.len.result ≡ length c.self.inside.ends.items = omega (arith, c.len.ensures, c.self.inside.ends.ok) in
    record {
      len = size ∙ sym (texts_size 0 c.self.inside.bytes.items c.self.inside.ends.items) ∙ ap (length {A = List ℕ}) c.self.view_is;
    }
