use Rattle.std.proofs.Common.{◌≡◌, ◌∙◌, ℕ, length, ap, arith}
use Rattle.std.specs.Str.{bytes_eq}
use Rattle.indexmap.specs.IndexMap.{get_by}
use Rattle.aig_signals.specs.Lookup.{has_name}
use Rattle.aig_signals.specs.Names.{literal_of, literals_of}
use Rattle.aig_signals.specs.state.Called.{or_found}
use Rattle.aig_signals.proofs.CalledLemmas.{below_more, below_none, found_more, found_nothing, literal_below}
use Rattle.aig_signals.proofs.called.table.note_section.Goals as goal

pub loop-position-init : goal.loop-position-init
loop-position-init c x =
    found_nothing _ _ (below_none (has_name c.args.circuit.now x c.args.rule c.args.kind) (literal_of c.args.circuit.now c.args.kind))

pub loop-position-preserved : goal.loop-position-preserved
loop-position-preserved c x =
    found_more _ _ _ _ _ _
    (below_more (has_name c.args.circuit.now x c.args.rule c.args.kind) (literal_of c.args.circuit.now c.args.kind) c.loop-position.position)
    (c.in_ok-note_entry.ensures x) (c.loop-position.invariant x)

pub returns : goal.returns
returns c x =
    let all : c.loop-position.position ≡ length (literals_of c.args.circuit.now c.args.kind) =
    omega (arith, c.loop-position-test.false, c.count_of-position-end.ensures.count) in
    c.loop-position.invariant x
    ∙ ap (λ (n : ℕ). or_found (literal_below (has_name c.args.circuit.now x c.args.rule c.args.kind) (literal_of c.args.circuit.now c.args.kind) n)
    (get_by (λ key. bytes_eq x key.items) c.args.table.now)) all
