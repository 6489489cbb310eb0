use Rattle.std.proofs.Common.{List, [], length, map, filter_map, ap, ◌∙◌, arith}
use Rattle.std.specs.Str.{bytes_eq}
use Rattle.indexmap.specs.IndexMap.{get_by}
use Rattle.aig_names.specs.Names.{words, symbol_of}
use Rattle.aig_signals.specs.Bits.{entry_bits, word_bit}
use Rattle.aig_signals.specs.declared.bits.WordBit.{WordBit}
use Rattle.aig_signals.specs.Names.{literals_of, readable}
use Rattle.aig_signals.specs.state.Called.{with_words}
use Rattle.aig_signals.proofs.BitLemmas.{entries_start}
use Rattle.aig_signals.proofs.CalledWords.{entries_apart, no_entries, with_end, with_step}
use Rattle.aig_signals.proofs.called.words.note_section.Goals as goal

pub loop-position-init : goal.loop-position-init
loop-position-init c x =
    ap (λ (ws : List WordBit). with_words ws (get_by (λ key. bytes_eq x key.items) c.args.table.now))
    (entries_start c.args.circuit.now x c.args.kind [])

pub loop-position-preserved : goal.loop-position-preserved
loop-position-preserved c x =
    let symbol = c.symbol_at-symbol.ensures
    ∙ ap (λ symbols. symbol_of symbols c.args.kind c.loop-position.position) c.symbols.ensures in
    let entry = c.in_ok-note_words.ensures x
    ∙ (λ i. with_words (filter_map (word_bit x (c.literal_at-literal.ensures i)) (map readable (words (symbol i))))
    (get_by (λ key. bytes_eq x key.items) c.loop-position.table)) in
    with_step _ _ _ _ _ _ _
    (entries_apart (entry_bits c.args.circuit.now x c.args.kind) c.loop-position.position (length (literals_of c.args.circuit.now c.args.kind))
    (omega (arith, c.loop-position-test.true, c.count_of-position-end.ensures.count)))
    entry (c.loop-position.invariant x)

pub returns : goal.returns
returns c x =
    with_end _ _ _ _
    (no_entries (entry_bits c.args.circuit.now x c.args.kind) c.loop-position.position (length (literals_of c.args.circuit.now c.args.kind))
    (omega (arith, c.loop-position-test.false, c.count_of-position-end.ensures.count)))
    (c.loop-position.invariant x)
