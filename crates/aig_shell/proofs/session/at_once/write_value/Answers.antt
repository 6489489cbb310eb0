use Rattle.std.proofs.Common.{ap, arith, length, ◌∙◌}
use Rattle.std.proofs.lemmas.List.{length-set}
use Rattle.aig_values.specs.InputRows.{InputRows}
use Rattle.aig_shell.specs.Written.{with_rows}
use Rattle.aig_shell.proofs.editing.Allowed.{bit_allowed}
use Rattle.aig_shell.proofs.editing.Leading.{leads_one}
use Rattle.aig_shell.proofs.session.at_once.write_value.Goals as goal

pub returns : goal.returns
returns c = record {
  leads = λ raw size.
      leads_one _ _ _
      (bit_allowed (with_rows raw c.args.stimulus.now.rows) c.args.frame c.args.position c.args.value c.requires.frame
      (omega (arith, c.requires.position, size)))
      (ap (λ (s : InputRows). with_rows raw s.rows) c.set.ensures);
  frames = ap (λ (s : InputRows). length s.rows) c.set.ensures ∙ length-set c.args.stimulus.now.rows c.args.frame _;
  width = ap (λ (s : InputRows). s.width) c.set.ensures;
}
