use Rattle.std.proofs.Common.{◌+◌, Bool, List, ◌++◌, ◌∷◌, [], map, reverse, length, refl, sym, ◌∙◌, ap, arith}
use Rattle.std.proofs.lemmas.Iterator.Adapters.{YieldsList-from_rev_slice}
use Rattle.std.proofs.lemmas.Iterator.Consumers.{YieldsList-end, YieldsList-turn}
use Rattle.std.proofs.lemmas.List.{map-append}
use Rattle.aig_cnf.proofs.ConeLemmas.{cone_begun, cone_same, one_more, turn_below, whole_cone, written}
use Rattle.aig_cnf.proofs.cone.cone_of.Goals as goal

pub loop-gate-init : goal.loop-gate-init
loop-gate-init c =
    cone_begun (c.max_var.result + 1) (c.args.circuit.now.max_var + 1) c.args.literals.now c.in_ok-marks.marks.items
    c.new-found.result.items (ap (λ n. n + 1) c.max_var.ensures.value) c.new-found.ensures.items c.in_ok-marks.ensures

pub add_read-requires : goal.add_read-requires
add_read-requires c =
    turn_below c.args.circuit.now c.facts.ensures (length c.deref_mut.result.now) (length c.loop-gate.yielded) c.in-Some.gate.now
    (ap (λ (ms : List Bool). length ms) c.deref_mut.ensures.value ∙ c.loop-gate.invariant.marks_are.size)
    (YieldsList-turn (YieldsList-from_rev_slice c.args.circuit.now.gates (cc)) c.loop-gate.yielded _ c.loop-gate.yielded_by _ _
    c.in-Some.gate c.in-Some.is c.next.ensures.steps)

pub loop-gate-preserved : goal.loop-gate-preserved
loop-gate-preserved c =
    let n = c.args.circuit.now.max_var + 1 in
    let ls = c.args.literals.now in
    let before = map (λ y. y.now) c.loop-gate.yielded in
    let after = map (λ y. y.now) (c.loop-gate.yielded ++ c.in-Some.gate ∷ []) in
    let marks = c.loop-gate.marks.items in
    let same = ap (λ (ms : List Bool). length ms) c.deref_mut.ensures.value in
    cone_same n ls (reverse after)
    (one_more n ls before after c.in-Some.gate.now
    (map-append (λ y. y.now) c.loop-gate.yielded (c.in-Some.gate ∷ []))
    (c.in_ok-add_read.ensures n ls (reverse before)
    (cone_same n ls (reverse before) c.loop-gate.invariant c.deref_mut.ensures.value refl)))
    (written c.loop-gate.marks.len c.add_read.new.marks marks (omega (arith, c.add_read.auto.marks, same))
    (sym c.deref_mut.ensures.len ∙ same)) refl

pub returns : goal.returns
returns c =
    let ended = YieldsList-end (YieldsList-from_rev_slice c.args.circuit.now.gates (cc)) c.loop-gate.yielded _ c.loop-gate.yielded_by _ _
    c.in-None.is c.next.ensures.steps in
    c.reverse.ensures.items
    ∙ whole_cone (c.args.circuit.now.max_var + 1) c.args.literals.now (map (λ y. y.now) c.loop-gate.yielded)
    c.args.circuit.now.gates c.loop-gate.marks.items c.loop-gate.found.items ended.0 c.loop-gate.invariant
