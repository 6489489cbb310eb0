use Rattle.std.proofs.Common.{ℕ, List, ◌++◌, ◌-◌, length, map, filter_map, ap, ◌∙◌, refl, arith}
use Rattle.aig_names.specs.Names.{words, symbol_of}
use Rattle.aig_signals.specs.Bits.{entry_bits, word_bit}
use Rattle.aig_signals.specs.Names.{literals_of, readable}
use Rattle.aig_signals.proofs.BitLemmas.{entries_start, entries_more, entries_end}
use Rattle.aig_signals.proofs.bits.push_section.Goals as goal

pub loop-position-init : goal.loop-position-init
loop-position-init c = entries_start c.args.circuit.now c.args.name.now c.args.kind c.args.bits.now.items

pub loop-position-preserved : goal.loop-position-preserved
loop-position-preserved c =
    let name = c.args.name.now in
    let old = c.loop-position.bits.items in
    let symbol = c.symbol_at-symbol.ensures
    ∙ ap (λ symbols. symbol_of symbols c.args.kind c.loop-position.position) c.symbols.ensures in
    let entry = c.in_ok-push_words.ensures
    ∙ (λ i. old ++ filter_map (word_bit name (c.literal_at-literal.ensures i)) (map readable (words (symbol i)))) in
    entries_more (entry_bits c.args.circuit.now name c.args.kind) old c.push_words.new.bits.items _
    c.loop-position.position (length (literals_of c.args.circuit.now c.args.kind))
    (omega (arith, c.loop-position-test.true, c.count_of-position-end.ensures.count)) entry c.loop-position.invariant

pub returns : goal.returns
returns c =
    entries_end (entry_bits c.args.circuit.now c.args.name.now c.args.kind) c.loop-position.bits.items _ c.loop-position.position
    (length (literals_of c.args.circuit.now c.args.kind))
    (omega (arith, c.loop-position-test.false, c.count_of-position-end.ensures.count)) c.loop-position.invariant
