use Rattle.std.proofs.Common.{◌≡◌, ◌≤◌, ℕ, ◌<◌, List, ◌++◌, false, true, length, ap, subst, ◌∙◌, arith}
use Rattle.aig_parts.specs.Formed.{limit}
use Rattle.aig_base.specs.Circuit.{IsCircuit}
use Rattle.aig_shell.specs.Answers.{standings_text}
use Rattle.aig_shell.specs.declared.answers.check.Standing.{Standing}
use Rattle.aig_shell.specs.Session.{own_circuit}
use Rattle.aig_shell.proofs.reached.Checking.{checked, finished, standings_size, starts}
use Rattle.aig_shell.proofs.session.Session.check.Goals as goal

pub push_lines-requires : goal.push_lines-requires
push_lines-requires c =
    let p = c.args.self.now.run.bench.pair in
    let circuit : IsCircuit p.circuit = subst IsCircuit c.circuit.ensures c.facts.ensures in
    let few : length p.circuit.bad ≤ limit = circuit.formed.counts.bad in
    let size = standings_size (own_circuit c.args.self.now) p 0 p.circuit.bad c.in_ok-standings.standings.items c.in_ok-standings.ensures in
    omega (arith, ap length c.as_slice.ensures.value, size, few)

pub push_lines-requires-2 : goal.push_lines-requires-2
push_lines-requires-2 c =
    let p = c.args.self.now.run.bench.pair in
    let circuit : IsCircuit p.circuit = subst IsCircuit c.circuit.ensures c.facts.ensures in
    let few : length p.circuit.bad ≤ limit = circuit.formed.counts.bad in
    let size = standings_size (own_circuit c.args.self.now) p 0 p.circuit.bad c.in_ok-standings.standings.items c.in_ok-standings.ensures in
    omega (arith, ap length c.as_slice-2.ensures.value, size, few)

pub returns : goal.returns
returns c = λ s is.
    let self = c.args.self.now in
    let raw = self.run.bench.pair.circuit in
    let xs = c.in_ok-standings.standings.items in
    checked self s c.push_reasons.new.text.items xs c.broken-broken.result c.other_start.result is c.in_ok-standings.ensures
    c.broken-broken.ensures
    (starts self c.other_start.result c.other_start.ensures.some c.other_start.ensures.none)
    (finished raw c.circuit-2.result.now _ c.push_lines.new.text.items c.push_lines-2.new.text.items c.push_none.new.text.items
    c.push_reasons.new.text.items (standings_text raw false 0 xs) (standings_text raw true 0 xs) c.broken-broken.result
    c.other_start.result c.circuit-2.ensures c.bad.result.now
    c.bad.ensures c.requires.empty
    (c.in_ok-push_lines.ensures ∙ ap (λ (ys : List Standing). c.args.text.now.items ++ standings_text raw false 0 ys) c.as_slice.ensures.value)
    (c.in_ok-push_lines-2.ensures
    ∙ ap (λ (ys : List Standing). c.push_lines.new.text.items ++ standings_text raw true 0 ys) c.as_slice-2.ensures.value)
    c.in_ok-push_none.ensures c.in_ok-push_reasons.ensures)
