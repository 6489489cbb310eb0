use Rattle.std.proofs.Common.{◌<◌, length, ap, ◌∙◌, arith}
use Rattle.std.proofs.lemmas.Option.{slice_get_within}
use Rattle.std.proofs.lemmas.Result.{on_ok_weaker}
use Rattle.aig_parts.specs.declared.raw.Raw.{Raw}
use Rattle.aig_base.proofs.lists.Items.{item_at}
use Rattle.aig_shell.proofs.words.Definitions.{constant_line, gate_line}
use Rattle.aig_shell.proofs.session.Session.push_definition.Goals as goal

pub returns-in-Some-Gate : goal.returns-in-Some-Gate
returns-in-Some-Gate c =
    let raw = c.args.self.now.run.bench.pair.circuit in
    let named = c.circuit-circuit.result.now in
    let position = c.in-Some-Gate.position in
    let gate = c.index-gates-position.result in
    let found = rw c.in-Some-Gate.field-0-is at c.in-Some-Gate.ensures.found in
    let within = slice_get_within named.gates position found.0 found.1 in
    let lt : position < length c.gates.result.now = omega (arith, within, ap length c.gates.ensures) in
    let same = c.gates.ensures ∙ ap (λ (r : Raw). r.gates) c.circuit-circuit.ensures in
    on_ok_weaker c.push_gate.result (λ said.
    gate_line raw named c.args.self.now.run.latches.items c.args.name.now c.args.literal c.args.text.now.items
    c.push_gate.new.text.items c.circuit-circuit.ensures c.var.result position gate c.var.ensures found
    (item_at c.gates.result.now raw.gates position gate same lt c.index-gates-position.is) said)
    c.push_gate.ensures

pub returns-in-None : goal.returns-in-None
returns-in-None c =
    on_ok_weaker c.push_kind-in-None.result (λ added.
    constant_line c.args.self.now.run.bench.pair.circuit c.circuit-circuit.result.now c.args.self.now.run.latches.items
    c.args.name.now c.args.literal c.args.text.now.items c.push_kind-in-None.new.text.items c.circuit-circuit.ensures
    c.var.result c.var.ensures c.in-None.ensures.none added)
    c.push_kind-in-None.ensures
