use Rattle.std.proofs.Common.{length, sym, ◌∙◌, arith}
use Rattle.std.proofs.lemmas.Bool.{eqb-false}
use Rattle.aig_values.proofs.row.GridRowRow.spell.Goals as goal

pub spell-requires-clause-frame : goal.spell-requires-clause-frame
spell-requires-clause-frame g c =
    let ne = eqb-false (length c.args.literals.now) 0 (sym c.is_empty.ensures ∙ c.if-not-is_empty.true) in
    (c.requires.row 0 0 (omega (arith, ne))).0
