use Rattle.aig_shell.proofs.lines.Answering.{edit_is, set_ends, start_ends, add_ends, drop_ends, rewire_ends, append_ends}
use Rattle.aig_shell.proofs.lines.Answering.{out_ends}
use Rattle.aig_shell.proofs.session.Session.edit.Goals as goal

pub returns-in-Set : goal.returns-in-Set
returns-in-Set c =
    edit_is c.args.self.now c.set.new.self c.args.edit _ c.set.result c.args.text.now.items c.in-Set.is
    (set_ends c.args.self.now c.set.new.self c.in-Set.frames.now c.in-Set.name.now c.in-Set.value.now c.set.result c.args.text.now.items c.requires.empty c.set.ensures.rest c.set.ensures.edits)

pub returns-in-Start : goal.returns-in-Start
returns-in-Start c =
    edit_is c.args.self.now c.start.new.self c.args.edit _ c.start.result c.args.text.now.items c.in-Start.is
    (start_ends c.args.self.now c.start.new.self c.in-Start.name.now c.in-Start.value.now c.start.result c.args.text.now.items c.requires.empty c.start.ensures.rest c.start.ensures.edits)

pub returns-in-Add : goal.returns-in-Add
returns-in-Add c =
    edit_is c.args.self.now c.add.new.self c.args.edit _ c.add.result c.args.text.now.items c.in-Add.is
    (add_ends c.args.self.now c.add.new.self _ c.add.result c.args.text.now.items c.requires.empty c.add.ensures.rest c.add.ensures.edits)

pub returns-in-Drop : goal.returns-in-Drop
returns-in-Drop c =
    edit_is c.args.self.now c.drop_last.new.self c.args.edit _ c.drop_last.result c.args.text.now.items c.in-Drop.is
    (drop_ends c.args.self.now c.drop_last.new.self _ c.drop_last.result c.args.text.now.items c.requires.empty c.drop_last.ensures.rest c.drop_last.ensures.edits)

pub returns-in-Rewire : goal.returns-in-Rewire
returns-in-Rewire c =
    edit_is c.args.self.now c.rewire.new.self c.args.edit _ c.rewire.result c.rewire.new.text.items c.in-Rewire.is
    (rewire_ends c.args.self.now c.rewire.new.self c.in-Rewire.name.now c.in-Rewire.side0.now c.in-Rewire.side1.now c.rewire.result c.rewire.new.text.items
    c.rewire.ensures.text c.rewire.ensures.rest c.rewire.ensures.edits)

pub returns-in-New : goal.returns-in-New
returns-in-New c =
    edit_is c.args.self.now c.new_gate.new.self c.args.edit _ c.new_gate.result c.new_gate.new.text.items c.in-New.is
    (append_ends c.args.self.now c.new_gate.new.self c.in-New.side0.now c.in-New.side1.now c.new_gate.result c.args.text.now.items
    c.new_gate.new.text.items c.requires.empty c.new_gate.ensures.text c.new_gate.ensures.rest
    c.new_gate.ensures.edits)

pub returns-in-Out : goal.returns-in-Out
returns-in-Out c =
    edit_is c.args.self.now c.set_output.new.self c.args.edit _ c.set_output.result c.args.text.now.items c.in-Out.is
    (out_ends c.args.self.now c.set_output.new.self c.in-Out.name.now c.in-Out.literal.now c.set_output.result c.args.text.now.items c.requires.empty c.set_output.ensures.rest c.set_output.ensures.edits)
