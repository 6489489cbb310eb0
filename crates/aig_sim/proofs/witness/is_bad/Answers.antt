use Rattle.std.proofs.Common.{length, sym, ap, ◌∙◌, arith}
use Rattle.std.proofs.lemmas.Bool.{false≢true}
use Rattle.aig_parts.specs.declared.raw.Raw.{Raw}
use Rattle.aig_base.proofs.lists.Items.{item_at}
use Rattle.aig_sim.proofs.VerdictLemmas.{reads_one}
use Rattle.aig_values.proofs.PropertyLines.{bad_in_range}
use Rattle.aig_sim.proofs.witness.is_bad.Goals as goal

pub literal_in-requires : goal.literal_in-requires
literal_in-requires c =
    let m = c.args.machine.now in
    let same = c.bad.ensures ∙ ap (λ (r : Raw). r.bad) c.circuit.ensures.circuit in
    bad_in_range m.circuit c.circuit.ensures.is_circuit.sound c.args.property c.index-bad-property.result
    (item_at _ _ c.args.property c.index-bad-property.result same (omega (arith, c.requires, ap length same)) c.index-bad-property.is)

pub returns-clause-yes : goal.returns-clause-yes
returns-clause-yes c =
    let m = c.args.machine.now in
    let same = c.bad.ensures ∙ ap (λ (r : Raw). r.bad) c.circuit.ensures.circuit in
    λ yes. reads_one m.cells m.circuit.bad c.args.property c.index-bad-property.result
    (item_at _ _ c.args.property c.index-bad-property.result same (omega (arith, c.requires, ap length same)) c.index-bad-property.is)
    (sym c.literal_in.ensures ∙ c.is_one.ensures.0 yes)

pub returns-clause-no : goal.returns-clause-no
returns-clause-no c =
    let m = c.args.machine.now in
    let same = c.bad.ensures ∙ ap (λ (r : Raw). r.bad) c.circuit.ensures.circuit in
    λ no'. record {
      literal = c.index-bad-property.result;
      literal_is = item_at _ _ c.args.property c.index-bad-property.result same (omega (arith, c.requires, ap length same)) c.index-bad-property.is;
      not_one = λ e. false≢true (sym no' ∙ c.is_one.ensures.1 (c.literal_in.ensures ∙ e));
    }
