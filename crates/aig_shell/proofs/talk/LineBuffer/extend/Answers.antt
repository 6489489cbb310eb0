use Rattle.std.proofs.Common.{◌≡◌, refl, sym, ◌∙◌, arith, length}
use Rattle.std.proofs.lemmas.Bool.{eqb-true}
use Rattle.std.proofs.lemmas.List.{nil_from_length}
use Rattle.aig_shell.proofs.lines.Talks.{holds_same, holds_cut}
use Rattle.aig_shell.proofs.talk.LineBuffer.extend.Goals.{then-is_empty-via-then-is_empty}
use Rattle.aig_shell.proofs.talk.LineBuffer.extend.Goals.{then-is_empty-via-else-is_empty+then-self}
use Rattle.aig_shell.proofs.talk.LineBuffer.extend.Goals as goal

pub returns-then-is_empty : goal.returns-then-is_empty
returns-then-is_empty c = λ text h.
    elim c.then-is_empty.branch [
      | then-is_empty-via-then-is_empty w ↦ holds_same text c.args.bytes.now c.args.self.now
          (nil_from_length c.args.bytes.now (eqb-true (length c.args.bytes.now) 0 (sym c.is_empty.ensures ∙ w.if-is_empty.true))) h
      | then-is_empty-via-else-is_empty+then-self w ↦ holds_cut text c.args.bytes.now c.args.self.now w.if-self.true h
    ]
