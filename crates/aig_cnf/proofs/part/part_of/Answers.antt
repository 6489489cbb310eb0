use Rattle.std.proofs.Common.{subst, sym}
use Rattle.aig_parts.specs.Formed.{IsFormed}
use Rattle.aig_cnf.specs.ReadFormula.{marked}
use Rattle.aig_cnf.proofs.PartCircuit.{formed_part}
use Rattle.aig_cnf.proofs.part.part_of.Goals as goal

pub check-requires : goal.check-requires
check-requires c = record {
  formed = subst IsFormed (sym c.in_ok-parts.ensures)
      (formed_part c.args.circuit.now c.args.bad (marked c.args.marks.now) c.facts.ensures.formed);
}
