use Rattle.std.proofs.lemmas.Result.{IfOk-weaker}
use Rattle.aig_cli.proofs.Tables.{conflicts, excludes, needed_unless, needs}
use Rattle.aig_cli.proofs.arguments.of_need.Goals as goal

pub returns-in-But : goal.returns-in-But
returns-in-But c = record {
  rule = rw c.in-But.is (IfOk-weaker c.conflicts_with_all.result _ _ (λ built adds. conflicts c.args.argument built c.in-But.options.now adds) c.conflicts_with_all.ensures);
}

pub returns-in_ok-requires_arg-in-With : goal.returns-in_ok-requires_arg-in-With
returns-in_ok-requires_arg-in-With c = record {
  rule = rw c.in-With.is (IfOk-weaker c.conflicts_with_all-in-With.result _ _
      (λ built adds. excludes c.args.argument c.in_ok-requires_arg-in-With.field-0 built c.in-With.options.now
      (needs c.args.argument c.in_ok-requires_arg-in-With.field-0 _ c.in_ok-requires_arg-in-With.ensures) adds)
      c.conflicts_with_all-in-With.ensures);
}

pub returns-in_ok-required_unless_present-in-Without : goal.returns-in_ok-required_unless_present-in-Without
returns-in_ok-required_unless_present-in-Without c = record {
  rule = rw c.in-Without.is (IfOk-weaker c.conflicts_with_all-in-Without.result _ _
      (λ built adds. excludes c.args.argument c.in_ok-required_unless_present-in-Without.field-0 built c.in-Without.options.now
      (needed_unless c.args.argument c.in_ok-required_unless_present-in-Without.field-0 _ c.in_ok-required_unless_present-in-Without.ensures) adds)
      c.conflicts_with_all-in-Without.ensures);
}
