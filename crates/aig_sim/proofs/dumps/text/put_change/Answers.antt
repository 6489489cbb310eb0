use Rattle.std.proofs.Common.{[], sym}
use Rattle.std.specs.Prelude.{◌==◌}
use Rattle.std.proofs.lemmas.Bool.{eq-eqb, cond-true, cond-false}
use Rattle.aig_bytes.proofs.GatherLemmas.{gathers_same, gathers_none}
use Rattle.aig_sim.specs.Dump.{value_line}
use Rattle.aig_sim.proofs.DumpLemmas.{eqb_no}
use Rattle.aig_sim.proofs.dumps.text.put_change.Goals as goal

pub returns-then-before-after : goal.returns-then-before-after
returns-then-before-after g c =
    gathers_same gathers_none
    (sym (cond-true (c.args.before == c.args.after) [] (value_line c.args.signal c.args.after)
    (eq-eqb c.args.before c.args.after c.if-before-after.true)))

pub returns : goal.returns
returns g c =
    gathers_same c.put_value.ensures
    (sym (cond-false (c.args.before == c.args.after) [] (value_line c.args.signal c.args.after)
    (eqb_no c.args.before c.args.after c.if-before-after.false)))
