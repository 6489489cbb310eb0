use Rattle.std.proofs.Common.{◌≡◌, ℕ, [], ◌∷◌, ◌++◌, List, sym, ap, subst, ◌∙◌, arith}
use Rattle.aig_bytes.proofs.Results.{on_err}
use Rattle.aig_parts.specs.declared.gate.Gate.{Gate}
use Rattle.aig_base.specs.Changes.{next_gate, with_appended_gate}
use Rattle.aig_base.specs.state.Descent.{level_above}
use Rattle.aig_base.specs.Levels.{AreLevels}
use Rattle.aig_parts.specs.Literal.{variable}
use Rattle.aig_base.specs.Readers.{reader_lists}
use Rattle.aig_base.proofs.growth.AppendedLevels.{level_fits, more_levels}
use Rattle.aig_base.proofs.growth.AppendedReaders.{more_readers}
use Rattle.aig_base.proofs.circuits.Gates.{defined_in_range}
use Rattle.aig_base.proofs.fan_outs.ReaderLists.{keeps_readers, kept_size, readers_kept, slots_size}
use Rattle.aig_base.proofs.change.append.append_gate.Goals as goal

pub make_room_for_list-requires-clause-within0 : goal.make_room_for_list-requires-clause-within0
make_room_for_list-requires-clause-within0 c =
    let raw = c.args.circuit.now in
    let low = defined_in_range raw c.facts.ensures.sound (variable c.args.r0) c.requires.gate.defined0 in
    let size = slots_size raw c.readers.inside.fan_outs.slots _ c.readers.view_is c.requires.readers in
    omega (arith, c.var.ensures)

pub make_room_for_list-requires-clause-within1 : goal.make_room_for_list-requires-clause-within1
make_room_for_list-requires-clause-within1 c =
    let raw = c.args.circuit.now in
    let low = defined_in_range raw c.facts.ensures.sound (variable c.args.r1) c.requires.gate.defined1 in
    let size = slots_size raw c.readers.inside.fan_outs.slots _ c.readers.view_is c.requires.readers in
    omega (arith, c.var-2.ensures)

pub returns-in_err-make_room_for_list-clause-same_readers : goal.returns-in_err-make_room_for_list-clause-same_readers
returns-in_err-make_room_for_list-clause-same_readers c =
    on_err c.from_residual.result
    (keeps_readers c.readers.inside.fan_outs.slots c.make_room_for_list.new.self.slots _ c.readers.view_is
    c.make_room_for_list.ensures.keeps)

pub returns-in_err-make_room_for_level-clause-same_readers : goal.returns-in_err-make_room_for_level-clause-same_readers
returns-in_err-make_room_for_level-clause-same_readers c =
    on_err c.from_residual-in_err-make_room_for_level.result
    (keeps_readers c.readers.inside.fan_outs.slots c.make_room_for_list.new.self.slots _ c.readers.view_is
    c.make_room_for_list.ensures.keeps)

pub returns-in_err-append_gate-clause-same_readers : goal.returns-in_err-append_gate-clause-same_readers
returns-in_err-append_gate-clause-same_readers c =
    on_err c.from_residual-in_err-append_gate.result
    (keeps_readers c.readers.inside.fan_outs.slots c.make_room_for_list.new.self.slots _ c.readers.view_is
    c.make_room_for_list.ensures.keeps)

pub level_over-level-requires-clause-fits : goal.level_over-level-requires-clause-fits
level_over-level-requires-clause-fits c =
    rw (c.deref.ensures.value, c.make_room_for_level.ensures.levels, c.levels.view_is, c.next_gate-gate.ensures)
    (level_fits c.args.circuit.now c.args.r0 c.args.r1 c.facts.ensures c.requires.gate.defined0 c.requires.gate.defined1
    c.args.levels.now c.requires.levels)

pub returns-clause-levels : goal.returns-clause-levels
returns-clause-levels c =
    let raw = c.args.circuit.now in
    let r0 = c.args.r0 in
    let r1 = c.args.r1 in
    let old = c.args.levels.now in
    let same = c.make_room_for_level.ensures.levels ∙ c.levels.view_is in
    let level : c.level_over-level.result ≡ level_above old (next_gate raw r0 r1) =
    c.level_over-level.ensures ∙ ap (λ (xs : List ℕ). level_above xs c.next_gate-gate.result) (c.deref.ensures.value
    ∙ same)
    ∙ ap (λ (g : Gate). level_above old g) c.next_gate-gate.ensures in
    let cells : c.append_level.new.levels.items ≡ old ++ level_above old (next_gate raw r0 r1) ∷ [] =
    c.append_level.ensures.levels ∙ ap (λ (xs : List ℕ). xs ++ c.level_over-level.result ∷ []) same
    ∙ ap (λ (n : ℕ). old ++ n ∷ []) level in
    subst (λ xs. AreLevels (with_appended_gate raw r0 r1) xs) (sym cells)
    (more_levels raw r0 r1 c.facts.ensures c.requires.gate.defined0 c.requires.gate.defined1 old c.requires.levels)

pub returns-clause-readers : goal.returns-clause-readers
returns-clause-readers c =
    let raw = c.args.circuit.now in
    let r0 = c.args.r0 in
    let r1 = c.args.r1 in
    let old = c.readers.inside.fan_outs.slots in
    let slots = c.make_room_for_list.new.self.slots in
    let kept = keeps_readers old slots _ c.readers.view_is c.make_room_for_list.ensures.keeps in
    let were = readers_kept raw _ (reader_lists slots) c.requires.readers kept.lists in
    more_readers raw r0 r1 c.facts.ensures c.requires.gate.defined0 c.requires.gate.defined1 slots
    c.append_list.new.self.slots were (rw c.next_gate-gate.ensures at c.append_list.ensures)

pub append_list-requires-clause-few : goal.append_list-requires-clause-few
append_list-requires-clause-few c =
    let size = slots_size c.args.circuit.now c.readers.inside.fan_outs.slots _ c.readers.view_is c.requires.readers in
    let same = kept_size _ _ c.make_room_for_list.ensures.keeps in
    omega (arith, c.requires.gate.room)

pub append_list-requires-clause-room0 : goal.append_list-requires-clause-room0
append_list-requires-clause-room0 c =
    rw (c.next_gate-gate.ensures, ← c.var.ensures) c.in_ok-make_room_for_list.ensures.room.0

pub append_list-requires-clause-room1 : goal.append_list-requires-clause-room1
append_list-requires-clause-room1 c =
    rw (c.next_gate-gate.ensures, ← c.var-2.ensures) c.in_ok-make_room_for_list.ensures.room.1

pub append_list-requires-clause-gate : goal.append_list-requires-clause-gate
append_list-requires-clause-gate c =
    let size = slots_size c.args.circuit.now c.readers.inside.fan_outs.slots _ c.readers.view_is c.requires.readers in
    let same = kept_size _ _ c.make_room_for_list.ensures.keeps in
    rw c.next_gate-gate.ensures (omega arith)
