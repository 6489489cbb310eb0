use Rattle.std.proofs.Common.{rules, List, length, subst, sym}
use Rattle.aig_signals.specs.declared.signal.Signal.{Signal}
use Rattle.aig_signals.specs.Names.{literals_of}
use Rattle.aig_signals.specs.state.Naming.{AreNeighbours}
use Rattle.aig_signals.proofs.NamingLemmas.{new_naming, section_neighbours}
use Rattle.aig_signals.proofs.naming.SectionNaming.new.Goals as goal

pub invariant_of-result : goal.invariant_of-result
invariant_of-result c =
    let count = length (literals_of c.args.circuit.now c.args.kind) in
    new_naming c.in_ok-signals.signals.items c.in_ok-values.values.items c.new.result.items count
    (subst (λ (ss : List Signal). AreNeighbours 0 ss count) (sym c.in_ok-signals.ensures) (section_neighbours c.args.circuit.now c.args.kind))
    (search rules) c.new.ensures.items
