use Rattle.std.proofs.Common.{ℕ, List, ◌++◌, codes, decimal, ap, ◌∙◌}
use Rattle.aig_shell.proofs.words.Definitions.{gate_said}
use Rattle.aig_shell.proofs.answers.gate.push_gate.Goals as goal

pub returns : goal.returns
returns c =
    let head = c.push_gate_head.new.text.items in
    gate_said c.args.circuit.now c.args.name.now c.args.literal c.args.gate.rhs0 c.args.gate.rhs1 c.args.text.now.items
    head c.push_pieces.new.text.items c.push_side.new.text.items c.extend_from_slice.new.self.items
    c.push_side-2.new.text.items c.push.new.self.items c.in_ok-push_gate_head.ensures
    (c.in_ok-push_pieces.ensures
    ∙ ap (λ (z : List ℕ). head ++ (z ++ codes " = ")) (c.number.ensures ∙ ap decimal c.even.ensures))
    c.in_ok-push_side.ensures c.in_ok-extend_from_slice.ensures.items c.in_ok-push_side-2.ensures c.in_ok-push.ensures.items
