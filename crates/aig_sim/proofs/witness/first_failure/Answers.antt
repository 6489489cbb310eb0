use Rattle.std.proofs.Common.{length, sym, ap, ◌∙◌, arith}
use Rattle.std.proofs.lemmas.Bool.{false≢true}
use Rattle.aig_parts.specs.declared.raw.Raw.{Raw}
use Rattle.aig_sim.specs.state.Checking.{ReadsNotOne}
use Rattle.aig_base.proofs.lists.Items.{item_at}
use Rattle.aig_sim.proofs.VerdictLemmas.{right_more, reads_one, no_literal_after}
use Rattle.aig_values.proofs.PropertyLines.{constraint_in_range}
use Rattle.aig_sim.proofs.witness.first_failure.Goals as goal

pub literal_in-requires : goal.literal_in-requires
literal_in-requires c =
    let m = c.args.machine.now in
    let i = c.loop-position.position in
    let same = c.constraints-literal-items.ensures ∙ ap (λ (r : Raw). r.constraints) c.circuit.ensures.circuit in
    constraint_in_range m.circuit c.circuit.ensures.is_circuit.sound i c.literal-item.result
    (item_at _ _ i c.literal-item.result same c.loop-position-test.true c.literal-item.is)

pub returns-then-not-is_one-clause-some : goal.returns-then-not-is_one-clause-some
returns-then-not-is_one-clause-some c =
    let m = c.args.machine.now in
    let i = c.loop-position.position in
    let same = c.constraints-literal-items.ensures ∙ ap (λ (r : Raw). r.constraints) c.circuit.ensures.circuit in
    record {
      literal = c.literal-item.result;
      literal_is = item_at _ _ i c.literal-item.result same c.loop-position-test.true c.literal-item.is;
      not_one = λ e. false≢true (sym c.if-not-is_one.true ∙ c.is_one.ensures.1 (c.literal_in.ensures ∙ e));
    }

pub loop-position-preserved : goal.loop-position-preserved
loop-position-preserved c =
    let m = c.args.machine.now in
    let i = c.loop-position.position in
    let same = c.constraints-literal-items.ensures ∙ ap (λ (r : Raw). r.constraints) c.circuit.ensures.circuit in
    right_more (ReadsNotOne m.cells m.circuit.constraints) i c.loop-position.invariant
    (reads_one m.cells m.circuit.constraints i c.literal-item.result
    (item_at _ _ i c.literal-item.result same c.loop-position-test.true c.literal-item.is)
    (sym c.literal_in.ensures ∙ c.is_one.ensures.0 c.if-not-is_one.false))

pub returns-clause-none : goal.returns-clause-none
returns-clause-none c =
    let m = c.args.machine.now in
    let same = c.constraints-literal-items.ensures ∙ ap (λ (r : Raw). r.constraints) c.circuit.ensures.circuit in
    λ q. no_literal_after m.cells m.circuit.constraints c.loop-position.position q
    (omega (arith, c.loop-position-test.false, ap length same)) c.loop-position.invariant
