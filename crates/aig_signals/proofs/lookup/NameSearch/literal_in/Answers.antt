use Rattle.std.proofs.Common.{Some, sym, ap, ◌∙◌}
use Rattle.std.specs.Prelude.{option_map}
use Rattle.aig_signals.specs.Lookup.{entry_literal}
use Rattle.aig_signals.proofs.Lookups.{section_past, section_found, section_end}
use Rattle.aig_signals.proofs.lookup.NameSearch.literal_in.Goals as goal

pub loop-kind-preserved : goal.loop-kind-preserved
loop-kind-preserved c =
    section_past c.args.self.now.circuit.now c.args.self.now.name.now c.args.rule c.args.kinds.now c.loop-kind.kind-index _ _ c.loop-kind-test.true
    (sym c.in_ok-found.ensures.named ∙ c.in_default.is) c.loop-kind.invariant

pub returns-in-Some : goal.returns-in-Some
returns-in-Some c =
    ap Some c.literal_at.ensures
    ∙ sym (ap (option_map (entry_literal c.args.self.now.circuit.now))
    (section_found c.args.self.now.circuit.now c.args.self.now.name.now c.args.rule c.args.kinds.now c.loop-kind.kind-index _ _ _ c.loop-kind-test.true
    (sym c.in_ok-found.ensures.named ∙ c.in-Some.is) c.loop-kind.invariant))

pub returns : goal.returns
returns c =
    sym (ap (option_map (entry_literal c.args.self.now.circuit.now))
    (section_end c.args.self.now.circuit.now c.args.self.now.name.now c.args.rule c.args.kinds.now c.loop-kind.kind-index _ c.loop-kind-test.false
    c.loop-kind.invariant))
